-- `tables::gap_sum` meets its contract. The loop's invariant: the sum is that of the gaps of the entries 1 to i, each at most the number of state bits.
use Rattle.std.proofs.Common.{◌≡◌, ◌*◌, ◌-◌, ◌≤◌, get_or}
use Rattle.document.specs.Limits.{most_bits}
use Rattle.document.specs.Report.{total}
use Rattle.tables.proofs.gap_sum.Given as goal

abbrev pub invariant-loop-i : goal.invariant-loop-i
invariant-loop-i g l =
    record {
      gaps : l.sum ≡ total l.i (λ n. g.A.Axis.most l.sizes n - get_or l.table (n - 1) 0);
      bound : l.sum ≤ l.i * most_bits;
    }

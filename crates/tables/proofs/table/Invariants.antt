-- `tables::table` meets its contract. The inner loop keeps that the largest number is still to be found from m down, and leaves the table; the outer
-- loop, that the entries before i are filled, and that zeros follow.
use Rattle.std.proofs.Common.{◌≡◌, ◌+◌}
use Rattle.document.specs.Report.{largest}
use Rattle.tables.specs.Tables.{Entries}
use Rattle.tables.proofs.table.Given as goal

abbrev pub invariant-numbers : goal.invariant-numbers
invariant-numbers g l =
    record {
      left : largest (g.A.Axis.answer l.first (l.i + 1)) (g.A.Axis.most l.sizes (l.i + 1)) ≡ largest (g.A.Axis.answer l.first (l.i + 1)) l.m;
      same : l.table ≡ l.initial.table;
    }

abbrev pub invariant-entries : goal.invariant-entries
invariant-entries g l = Entries g.row.N l.i (λ n. largest (g.A.Axis.answer l.first n) (g.A.Axis.most l.sizes n)) l.table

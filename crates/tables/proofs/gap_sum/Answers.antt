-- The sum is what was there and what this entry lacks; `lack` is stated by itself, so that a sum of anything else is refused for its value.
use Rattle.std.proofs.Common.{◌≡◌, ◌+◌, ◌-◌, get_or, take, refl, arith}
use Rattle.document.specs.Report.{total}
use Rattle.tables.proofs.Laws.{more}
use Rattle.tables.proofs.gap_sum.Goals as goal

pub loop-i-init : goal.loop-i-init
unfolding total
loop-i-init g c = record { gaps = refl; bound = omega arith }

pub loop-i-preserved : goal.loop-i-preserved
loop-i-preserved g c =
    let lack : c.gap-lack.result ≡ g.A.Axis.most c.args.sizes (c.loop-i.i + 1) - get_or (take c.entries.result c.args.table.now) c.loop-i.i 0 = cc in
    let gaps = more c.loop-i.i c.loop-i.sum c.gap-lack.result c.entries.result (g.A.Axis.most c.args.sizes) c.args.table.now (omega arith) c.loop-i.invariant.gaps lack in
    record {
      gaps = omega (arith, gaps, c.most.ensures.few, c.gap-lack.ensures);
      bound = omega (arith, c.most.ensures.few, c.gap-lack.ensures);
    }

use Rattle.kinds.specs.Generator.{gfsr}
use Rattle.rows.proofs.KindTwo.{laid-start, laid_chosen, laid_not, back2_is}
use mathlib.Core.Path.{◌≡◌, sym, ◌∙◌}
use native.Mathlib.Omega.{arith}
use Rattle.rows.proofs.gfsr.GfsrRows.backed.Goals as goal
use Rattle.rows.proofs.gfsr.GfsrRows.backed.Goals.{then-bit_at, else-bit_at}

pub loop-i-init : goal.loop-i-init
loop-i-init c = (omega arith, laid-start _ _ _ _)

pub loop-i-preserved : goal.loop-i-preserved
loop-i-preserved c =
    let x = c.loop-i.invariant.1 in (
      omega arith,
      elim c.if-bit_at.branch [
        | then-bit_at w ↦ rw w.d-is (laid_chosen _ _ _ _ _ _ _ x (sym c.bit_at.ensures ∙ w.if-bit_at.true) w.placed-next.ensures)
        | else-bit_at w ↦ rw w.d-is (laid_not _ _ _ _ _ _ x (sym c.bit_at.ensures ∙ w.if-bit_at.false))
      ],
    )

pub returns : goal.returns
unfolding gfsr
returns c =
    let e : c.loop-i.i ≡ c.args.self.r = omega arith in
    back2_is c.args.self _ _ _ _ c.requires c.word_at-y.ensures c.lowered-d.ensures (rw e at c.loop-i.invariant.1)

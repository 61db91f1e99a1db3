use Rattle.running.proofs.KindTwo.{chosen_none, chosen_one, chosen_not, chosen_all}
use mathlib.Core.Path.{◌≡◌, sym, ◌∙◌}
use native.Mathlib.Omega.{arith}
use Rattle.running.proofs.gfsr.next.Goals as goal
use Rattle.running.proofs.gfsr.next.Goals.{then-bit_at, else-bit_at}

pub loop-i-init : goal.loop-i-init
loop-i-init c = (omega arith, chosen_none _ _ _)

pub loop-i-preserved : goal.loop-i-preserved
loop-i-preserved c =
    let x = c.loop-i.invariant.1 in (
      omega arith,
      elim c.if-bit_at.branch [
        | then-bit_at w ↦ rw w.x-is (chosen_one _ _ _ _ _ x _ (sym c.bit_at.ensures ∙ w.if-bit_at.true) w.word_at-x.ensures)
        | else-bit_at w ↦ rw w.x-is (chosen_not _ _ _ _ _ x (sym c.bit_at.ensures ∙ w.if-bit_at.false))
      ],
    )

pub returns : goal.returns
returns c = let e : c.loop-i.i ≡ c.args.r = omega arith in chosen_all _ _ _ _ _ (rw e at c.loop-i.invariant.1)

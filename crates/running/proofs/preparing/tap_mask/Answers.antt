use Rattle.document.specs.Limits.{row_words}
use Rattle.running.proofs.Masks.{tapping_start, tapping_step, tapping_end}
use mathlib.Core.Path.{◌≡◌}
use native.Mathlib.Omega.{arith}
use Rattle.running.proofs.preparing.tap_mask.Goals as goal

pub loop-i-init : goal.loop-i-init
loop-i-init c = (omega arith, tapping_start row_words _ _ _ c.flipped-mask.ensures)

pub loop-i-preserved : goal.loop-i-preserved
loop-i-preserved c =
    (omega arith, tapping_step _ _ _ _ c.loop-i.invariant.1 _ _ (omega arith) c.word_at.ensures c.placed-next.ensures)

pub returns : goal.returns
returns c = let e : c.loop-i.i ≡ c.args.k = omega arith in tapping_end _ _ _ (rw e at c.loop-i.invariant.1)

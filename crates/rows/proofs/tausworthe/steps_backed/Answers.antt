use Rattle.rows.proofs.KindOne.{steps_none, steps_more}
use mathlib.Core.Path.{◌≡◌}
use native.Mathlib.Omega.{arith}
use Rattle.rows.proofs.tausworthe.steps_backed.Goals as goal

pub loop-init : goal.loop-init
loop-init c = (omega arith, steps_none _ _ _ c.requires.1)

pub step_backed-before-requires : goal.step_backed-before-requires
step_backed-before-requires c = (c.requires.0, c.loop.invariant.1.clear)

pub loop-preserved : goal.loop-preserved
loop-preserved c = (omega arith, steps_more _ _ _ _ _ _ c.loop.invariant.1 c.step_backed-before.ensures)

pub returns : goal.returns
returns c = let e : c.loop.counter ≡ c.args.n = omega arith in rw e at c.loop.invariant.1

use Rattle.running.proofs.KindOne.{stepped-none, stepped_more}
use Rattle.kinds.specs.Generator.{tausworthe}
use mathlib.Core.Path.{◌≡◌, refl}
use native.Mathlib.Omega.{arith}
use Rattle.running.proofs.tausworthe.TauswortheRuns.moved.Goals as goal

pub loop-init : goal.loop-init
loop-init c = (omega arith, refl, stepped-none _ _ _)

pub loop-preserved : goal.loop-preserved
loop-preserved c = (omega arith, refl, stepped_more _ _ _ _ _ _ c.loop.invariant.2 c.stepped-next.ensures)

pub returns : goal.returns
unfolding tausworthe
returns c = let e : c.loop.counter ≡ c.args.self.nu = omega arith in (rw e at c.loop.invariant.2).bits

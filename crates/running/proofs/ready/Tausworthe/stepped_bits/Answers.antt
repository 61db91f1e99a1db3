use Rattle.running.proofs.KindOne.{put_start, put_more, put_small}
use Rattle.kinds.specs.Generator.{tausworthe}
use mathlib.Core.Path.{◌≡◌, refl}
use native.Mathlib.Omega.{arith}
use Rattle.running.proofs.ready.Tausworthe.stepped_bits.Goals as goal

pub loop-init : goal.loop-init
loop-init c = (omega arith, refl, put_start _ _ _)

pub overflow_mul-r : goal.overflow_mul-r
overflow_mul-r c = omega (arith, put_small _ _ _ _ _ _ 32 (omega arith) c.loop.invariant.2)

pub overflow_add-r : goal.overflow_add-r
overflow_add-r c = omega (arith, put_small _ _ _ _ _ _ 32 (omega arith) c.loop.invariant.2)

pub loop-preserved : goal.loop-preserved
loop-preserved c = (omega arith, refl, put_more _ _ _ _ _ _ _ c.args.self.taps.least c.loop.invariant.2 c.stepped-t.ensures)

pub overflow_cast-result : goal.overflow_cast-result
overflow_cast-result c = record { fits = put_small _ _ _ _ _ _ 32 (omega arith) c.loop.invariant.2 }

pub returns : goal.returns
unfolding tausworthe
returns c = let e : c.loop.counter ≡ c.args.self.bits = omega arith in (rw e at c.loop.invariant.2).number

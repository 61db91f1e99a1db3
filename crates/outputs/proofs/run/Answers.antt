use Rattle.std.proofs.Common.{arith}
use Rattle.outputs.proofs.Laws.{running_start, running_turn}
use Rattle.outputs.proofs.run.Goals as goal

pub loop-place-init : goal.loop-place-init
loop-place-init c = running_start _ _ _

pub loop-place-preserved : goal.loop-place-preserved
loop-place-preserved c = let l = c.loop-place in running_turn c.args.p _ _ _ _ _ _ _ l.invariant (omega arith) c.output.ensures c.moved-next.ensures

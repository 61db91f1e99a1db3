use Rattle.running.proofs.KindTwo.{moved2_is}
use Rattle.running.proofs.gfsr.GfsrRuns.moved.Goals as goal

pub returns : goal.returns
returns c = moved2_is c.args.self _ _ _ c.next.ensures c.shifted_up.ensures

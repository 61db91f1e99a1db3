use Rattle.running.proofs.KindFour.{moved4_is}
use Rattle.running.proofs.twister.TwisterRuns.moved.Goals as goal

pub returns : goal.returns
returns c = moved4_is c.args.self _ _ _ c.next.ensures c.shifted_up.ensures

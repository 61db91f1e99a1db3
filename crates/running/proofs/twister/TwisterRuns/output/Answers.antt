use Rattle.running.proofs.KindFour.{output4_is}
use Rattle.running.proofs.twister.TwisterRuns.output.Goals as goal

pub returns : goal.returns
returns c = output4_is c.args.self _ _ _ c.tempered.ensures c.number.ensures

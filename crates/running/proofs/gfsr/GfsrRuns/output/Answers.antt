use Rattle.running.proofs.KindTwo.{output2_is}
use Rattle.running.proofs.gfsr.GfsrRuns.output.Goals as goal

pub returns : goal.returns
returns c = output2_is c.args.self _ _ _ c.word_at.ensures c.number.ensures

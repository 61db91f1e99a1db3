use Rattle.kinds.specs.Generator.{tausworthe}
use Rattle.rows.proofs.KindOne.{back1_is}
use Rattle.rows.proofs.tausworthe.TauswortheRows.backed.Goals as goal

pub returns : goal.returns
unfolding tausworthe
returns c = back1_is c.args.self _ _ c.requires c.steps_backed.ensures

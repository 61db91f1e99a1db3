use Rattle.running.proofs.KindFour.{tempered_is}
use Rattle.running.proofs.ready.Twister.tempered.Goals as goal

pub returns : goal.returns
returns c =
    tempered_is _ _ _ _ _ _ _ _ _ _ _ _ _ c.word_at.ensures c.add_right-x.ensures c.add_left-y.ensures c.add_left.ensures c.add_right.ensures

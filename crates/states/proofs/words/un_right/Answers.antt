use Rattle.states.proofs.WordLaws.{un_right_is}
use Rattle.states.proofs.words.un_right.Goals as goal

pub returns : goal.returns
returns c = un_right_is _ _ _ c.requires.2

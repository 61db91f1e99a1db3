use Rattle.states.proofs.WordLaws.{add_left_is}
use Rattle.states.proofs.words.add_left.Goals as goal

pub returns : goal.returns
returns c = add_left_is _ _ _ _ c.requires.2

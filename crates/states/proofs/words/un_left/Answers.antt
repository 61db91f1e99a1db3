use Rattle.states.proofs.WordLaws.{un_left_is}
use native.Mathlib.Omega.{arith}
use Rattle.states.proofs.words.un_left.Goals as goal

pub returns : goal.returns
returns c = un_left_is _ _ _ _ _ (omega arith) c.requires.2 c.low.ensures

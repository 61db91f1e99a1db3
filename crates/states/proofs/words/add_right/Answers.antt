use Rattle.states.proofs.WordLaws.{add_right_is}
use native.Mathlib.Omega.{arith}
use Rattle.states.proofs.words.add_right.Goals as goal

pub returns : goal.returns
returns c = add_right_is _ _ _ _ (omega arith) c.requires.2 c.low.ensures

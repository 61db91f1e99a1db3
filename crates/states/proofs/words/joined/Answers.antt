use Rattle.states.proofs.WordLaws.{joined_is}
use Rattle.states.proofs.words.joined.Goals as goal

pub returns : goal.returns
returns c = let p = c.requires in joined_is _ _ _ _ _ p.0 p.2 p.3 c.low.ensures

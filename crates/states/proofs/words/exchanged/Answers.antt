use Rattle.states.proofs.WordLaws.{exchanged_is}
use Rattle.states.proofs.words.exchanged.Goals as goal

pub returns : goal.returns
returns c = let p = c.requires in exchanged_is _ _ _ p.0 p.1 p.2 p.3

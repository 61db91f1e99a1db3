use Rattle.states.proofs.StateLaws.{flipped_is}
use borrow.Author.Rules.{rules}
use Rattle.states.proofs.flipped.Goals as goal

pub returns : goal.returns
returns c = flipped_is _ _ (search rules)

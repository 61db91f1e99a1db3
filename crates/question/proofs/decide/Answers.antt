-- `question::decide` meets its contract.
use Rattle.question.proofs.Laws.{decided}
use Rattle.question.proofs.decide.Goals as goal

pub returns : goal.returns
returns c = decided _ _ _ c.requires.0 _ _ _ c.clear_words.ensures c.search-found.result _ c.search-found.ensures c.carried_set-first.ensures

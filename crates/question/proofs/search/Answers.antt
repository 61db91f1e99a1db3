-- `question::search` meets its contract.
use Rattle.question.proofs.Laws.{searched}
use Rattle.question.proofs.search.Goals as goal

pub returns : goal.returns
returns c = searched _ _ _ c.requires.0 _ _ _ c.fill.ensures c.set_tags.ensures _ _ _ _ c.eliminate.ensures

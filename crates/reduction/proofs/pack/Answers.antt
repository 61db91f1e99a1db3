-- `reduction::pack` meets its contract.
use Rattle.reduction.proofs.Packs.{packed}
use Rattle.reduction.proofs.pack.Goals as goal

pub returns : goal.returns
returns c = packed _ _ _ _ _ _ _ c.requires.1 c.move_rows.ensures c.clear_words.ensures

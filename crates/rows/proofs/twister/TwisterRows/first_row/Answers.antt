use Rattle.kinds.specs.Generator.{mersenne}
use Rattle.document.specs.Limits.{row_words}
use Rattle.rows.proofs.KindFour.{first4_is}
use Rattle.rows.proofs.twister.TwisterRows.first_row.Goals as goal

pub returns : goal.returns
unfolding mersenne
returns c = first4_is c.args.self row_words _ _ _ c.requires c.first_word.ensures c.placed.ensures

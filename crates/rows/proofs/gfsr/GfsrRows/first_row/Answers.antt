use Rattle.kinds.specs.Generator.{gfsr}
use Rattle.document.specs.Limits.{row_words}
use Rattle.rows.proofs.Laws.{unit_bits}
use Rattle.rows.proofs.KindTwo.{first2_is}
use Rattle.rows.proofs.gfsr.GfsrRows.first_row.Goals as goal

pub returns : goal.returns
unfolding gfsr
returns c = first2_is c.args.self _ _ c.requires (unit_bits row_words _ _ c.flipped.ensures)

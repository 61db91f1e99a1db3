use Rattle.kinds.specs.Generator.{tausworthe}
use Rattle.document.specs.Limits.{row_words}
use Rattle.rows.proofs.Laws.{unit_bits}
use Rattle.rows.proofs.KindOne.{first1_is, unit_clear}
use Rattle.rows.proofs.tausworthe.TauswortheRows.first_row.Goals as goal

pub steps_backed-requires : goal.steps_backed-requires
steps_backed-requires c = (c.args.self.taps, unit_clear c.args.self _ (unit_bits row_words 0 _ c.flipped.ensures))

pub returns : goal.returns
unfolding tausworthe
returns c = first1_is c.args.self _ _ _ c.requires (unit_bits row_words 0 _ c.flipped.ensures) c.steps_backed.ensures

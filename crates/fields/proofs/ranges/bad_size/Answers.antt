-- The other arms the check finds alone; this one is answered so that an edit of it is refused for the number that it names.
use Rattle.std.proofs.Common.{ap, ◌∙◌}
use Rattle.document.specs.Limits.{most_bits}
use Rattle.document.proofs.Columns.{in_column}
use Rattle.document.specs.Refusals.{outside, bad_size}
use Rattle.fields.proofs.ranges.bad_size.Goals as goal

pub returns-in-Tausworthe : goal.returns-in-Tausworthe
unfolding bad_size
returns-in-Tausworthe c = in_column _ _ _ _ _ _ _ c.in-Tausworthe.ensures (c.outside.ensures ∙ ap (outside 1 most_bits) c.from.ensures)

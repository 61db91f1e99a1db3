-- The other arms the check finds alone; this one is answered so that an edit of it is refused for the number that it gives.
use Rattle.std.proofs.Common.{sym, ap₂, ◌∙◌, ◌*◌, ◌-◌}
use Rattle.document.proofs.Columns.{in_column}
use Rattle.arguments.proofs.Counts.{size_by_kind}
use Rattle.arguments.proofs.sizes.size.Goals as goal

pub returns-in-Mersenne : goal.returns-in-Mersenne
returns-in-Mersenne c =
    in_column _ _ _ _ _ _ _ c.in-Mersenne.ensures (ap₂ ◌-◌ (ap₂ ◌*◌ c.from-in-Mersenne.ensures c.from-in-Mersenne-2.ensures) c.from-in-Mersenne-3.ensures)
    ∙ sym (size_by_kind c.args.g)

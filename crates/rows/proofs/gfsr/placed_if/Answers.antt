use Rattle.rows.proofs.KindTwo.{chosen, not_chosen}
use Rattle.rows.proofs.gfsr.placed_if.Goals as goal

pub returns-then-chosen : goal.returns-then-chosen
returns-then-chosen c = chosen _ _ _ _ _ _ c.if-chosen.true c.placed.ensures

pub returns-else-chosen : goal.returns-else-chosen
returns-else-chosen c = not_chosen _ _ _ _ _ c.if-chosen.false

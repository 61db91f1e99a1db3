use Rattle.filling.proofs.Laws.{filled_more}
use Rattle.filling.proofs.bits.OutputBits.fill.Goals as goal

pub loop-i-preserved : goal.loop-i-preserved
loop-i-preserved c = filled_more _ _ _ _ _ _ _ c.loop-i.invariant c.put_row.ensures c.next_row-row.ensures

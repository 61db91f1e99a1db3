-- `OutputBits::lay_row` meets its contract.
use Rattle.filling.proofs.Turn.{laid}
use Rattle.filling.proofs.bits.OutputBits.lay_row.Goals as goal

pub returns : goal.returns
returns c = laid _ _ _ _ _ _ _ c.next_row-row.ensures c.put_row.ensures c.put_row-2.ensures

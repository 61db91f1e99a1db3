-- `elimination::take_row` meets its contract.
use Rattle.elimination.proofs.Take.{taken_yes, taken_no}
use Rattle.elimination.proofs.take_row.Goals as goal

pub returns-then-b-layout : goal.returns-then-b-layout
returns-then-b-layout c =
    let l = c.args.layout in
    taken_yes _ _ _ _ _ c.args.slots.now _ _ l.lead_within l.width_within c.requires.slotted c.reduce_row-b.ensures.0 c.requires.in_room.1 c.if-b-layout.true c.reduce_row-b.ensures.1

pub returns : goal.returns
returns c =
    let l = c.args.layout in
    taken_no _ _ _ _ _ c.args.slots.now _ _ l.lead_within l.width_within c.requires.slotted c.reduce_row-b.ensures.0 c.if-b-layout.false

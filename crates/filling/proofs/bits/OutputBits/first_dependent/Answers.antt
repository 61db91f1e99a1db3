use Rattle.std.proofs.Common.{◌≡◌, refl, ◌∙◌, arith}
use Rattle.filling.proofs.Turn.{growing_none, made, growing_more, growing_last, growing_all}
use Rattle.filling.proofs.bits.OutputBits.first_dependent.Goals as goal

pub loop-i-init : goal.loop-i-init
loop-i-init c = (refl, growing_none _ _ _)

pub take_row-requires-clause-slotted : goal.take_row-requires-clause-slotted
take_row-requires-clause-slotted c = (made _ _ _ _ _ _ c.loop-i.invariant.1 _ c.lay_row.ensures).slotted

pub returns-then-not-take_row : goal.returns-then-not-take_row
returns-then-not-take_row c = growing_last _ _ _ _ _ _ c.loop-i.invariant.1 _ c.lay_row.ensures _ _ _ c.take_row.ensures _ c.loop-i-test.true c.if-not-take_row.true

pub loop-i-preserved : goal.loop-i-preserved
loop-i-preserved c = (
  c.take_row.ensures.slots_kept.long ∙ c.loop-i.invariant.0,
  growing_more _ _ _ _ _ _ c.loop-i.invariant.1 _ c.lay_row.ensures _ _ _ c.take_row.ensures c.if-not-take_row.false,
)

pub returns : goal.returns
returns c = let e : c.loop-i.i ≡ c.args.n = omega arith in rw (← e) (growing_all _ _ _ _ _ _ c.loop-i.invariant.1)

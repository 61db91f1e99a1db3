-- Answered, so that edits of the numbers and of their order are refused for the number that they give.
use Rattle.document.specs.Lowest.{none_left, gives, skips}
use Rattle.document.specs.Refusals.{range_refusal}
use Rattle.fields.proofs.refusals.range_refusal.Goals as goal

pub returns-then-bad_size : goal.returns-then-bad_size
unfolding range_refusal
returns-then-bad_size c = gives 3 _ _ _ c.bad_size.ensures c.if-bad_size.true

pub returns : goal.returns
unfolding range_refusal
returns c =
    skips 0 _ _ _ _ c.bad_size.ensures c.if-bad_size.false
    (skips 0 _ _ _ _ c.bad_bits.ensures c.if-bad_bits.false (skips 0 _ _ _ _ c.bad_shift.ensures c.if-bad_shift.false (skips 0 _ _ _ _ c.bad_value.ensures c.if-bad_value.false none_left)))

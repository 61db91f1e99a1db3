-- The tests of y are answered, so that an edit of the comparison is refused for it.
use Rattle.std.proofs.Common.{refl, ap, lt-ltb, le-ltb}
use Rattle.std.specs.Prelude.{not}
use Rattle.document.specs.Lowest.{gives, skips, none_left}
use Rattle.document.specs.Refusals.{value_refusal}
use Rattle.value.proofs.value_refusal.Goals as goal

pub returns-then-power-y : goal.returns-then-power-y
unfolding value_refusal
returns-then-power-y c = skips _ _ _ _ _ c.outside.ensures c.if-outside.false (gives _ _ _ _ refl (ap not (le-ltb _ _ (rw c.power.ensures at c.if-power-y.true))))

pub returns : goal.returns
unfolding value_refusal
returns c = skips _ _ _ _ _ c.outside.ensures c.if-outside.false (skips _ _ _ _ _ refl (ap not (lt-ltb _ _ (rw c.power.ensures at c.if-power-y.false))) none_left)

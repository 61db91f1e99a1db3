-- The float with document 01's bits is exactly Y / 2^L, and two answers that the promise allows are one.
use Rattle.std.specs.Prelude.{◌≡◌, refl, false, not, ℕ, ◌^◌, ◌≤◌, ◌<◌, ltb}
use Rattle.std.proofs.Common.{sym, ◌∙◌, zero-mul, arith, pow_mono, eq-eqb, ne_eqb, ltb-true}
use Rattle.std.proofs.Math.Logic.{by_cases}
use Rattle.std.proofs.Math.Decide.{dec_lt, ℕ_discrete}
use Rattle.std.specs.Float.{binary64}
use Rattle.std.specs.Float.Ieee.{of_bits}
use Rattle.std.specs.Float.Ieee.Exact.{HasValue}
use Rattle.std.proofs.lemmas.Bool.{not-false}
use Rattle.document.specs.Refusals.{outside, value_refusal}
use Rattle.document.specs.Ranges.{passed, inside}
use Rattle.document.specs.Limits.{most_output}
use Rattle.document.specs.Value.{highest, value_bits}
use Rattle.document.specs.Largest.{highest_is}
use Rattle.value.specs.declared.Valued.{Valued}
use Rattle.value.specs.Promises.{ValuedAs}
use Rattle.value.specs.Fields.{value}

below : (h y : ℕ) → 2 ^ h ≤ y → y < 2 ^ 53 → Dec (h < 53) → h < 53
below h y a b (yes l) = l
below h y a b (no l) = let z : ⊥ = omega (arith, pow_mono {i = 53} {j = h} (omega arith)) in absurd z

zero_value : (c : ℕ) → HasValue (of_bits binary64 0) false 0 c
unfolding of_bits
zero_value c = (refl, zero-mul c)

pub value_exact : (y L : ℕ) → y < 2 ^ most_output → L ≤ most_output → HasValue (of_bits binary64 (value_bits y L)) false y (2 ^ L)
unfolding value_bits
value_exact y L h l = by_cases (ℕ_discrete y 0)
    (λ e. rw (eq-eqb y 0 e, e) (zero_value (2 ^ L)))
    (λ n. let (a, b) = highest_is y (omega arith) h in
    rw (ne_eqb y 0 n) (value y L (highest y) (omega arith) (below (highest y) y a (omega arith) (dec_lt (highest y) 53)) a b))

pub values_agree : (y L : ℕ) (r s : Valued) → ValuedAs y L r → ValuedAs y L s → r ≡ s
values_agree y L r s p q = by_cases (ℕ_discrete (value_refusal y L) 0)
    (λ e. λ i. record { refusal = (p.number ∙ sym q.number) i; value = (p.accepted e ∙ sym (q.accepted e)) i })
    (λ n. λ i. record { refusal = (p.number ∙ sym q.number) i; value = (p.refused n ∙ sym (q.refused n)) i })

-- what is known where nothing is refused
pub value_accepted : (y L : ℕ) → value_refusal y L ≡ 0 → (y < 2 ^ most_output) × (L ≤ most_output)
unfolding value_refusal
value_accepted y L e =
    let (a, f) = passed 3 (outside 1 most_output L) _ e in
    let (b, _) = passed 5 (not (ltb y (2 ^ L))) _ f in
    let (_, l) = inside 1 most_output L a in
    let h : y < 2 ^ L = ltb-true y (2 ^ L) (not-false (ltb y (2 ^ L)) b) in
    (omega (arith, pow_mono {i = L} {j = most_output} l), l)

-- The bits of y / 2 ^ l, h being the index of y's highest set bit. Assumes nothing.
use Rattle.std.specs.Prelude.{◌≡◌, Bool, cond, eqb, Float}
use Rattle.std.proofs.Common.{sym, ◌∙◌, mod-eq_of_lt, mul-lt-mul_of_pos_right, pow-suc, add-one, ne_eqb, pow-add, pow_pos, pow_mono}
use Rattle.std.proofs.Math.Path.{ap, subst}
use Rattle.std.proofs.Math.Bool.{false}
use Prim.Native.Nat.{ℕ, suc, ◌+◌, ◌-◌, ◌*◌, ◌/◌, ◌%◌, ◌^◌, ◌≤◌, ◌<◌}
use Rattle.std.proofs.Math.Decide.{dec_le}
use native.Mathlib.Omega.{arith}
use Rattle.std.proofs.lemmas.Bool.{lt-leb}
use Rattle.std.proofs.Math.Pow.{high, low}
use Rattle.std.specs.Float.{nan, inf}
use Rattle.std.specs.Float.Ieee.{binary64, odd, of_fields, of_bits}
use Rattle.std.specs.Float.Ieee.Exact.{HasValue, odd_sign}
use Rattle.document.specs.Value.{fields64}
use Rattle.value.specs.Exact.{rescale}

-- there is one index of the highest set bit
pub one_top : (y h g : ℕ) → 2 ^ h ≤ y → y < 2 ^ (h + 1) → 2 ^ g ≤ y → y < 2 ^ (g + 1) → h ≡ g
one_top y h g a b c d = go (dec_le h g) (dec_le g h)
  where
    go : Dec (h ≤ g) → Dec (g ≤ h) → h ≡ g
    go (yes p) (yes q) = omega arith
    go (no p) q = let z : ⊥ = omega (arith, pow_mono {i = g + 1} {j = h} (omega arith)) in absurd z
    go (yes p) (no q) = let z : ⊥ = omega (arith, pow_mono {i = h + 1} {j = g} (omega arith)) in absurd z

-- the fields' value
pub field_value : (x t : ℕ) → suc x < 2047 → HasValue (of_fields binary64 false (suc x) t) false ((2 ^ 52 + t) * 2 ^ x) (2 ^ 1074)
unfolding of_fields
field_value x t h =
    subst (λ (b : Bool). HasValue (cond b (cond (eqb t 0) (inf false) nan) (odd 53 false (2 ^ 52 + t) x 1074)) false ((2 ^ 52 + t) * 2 ^ x) (2 ^ 1074))
    (sym (ne_eqb (suc x) 2047 (λ e. omega arith))) (odd_sign 53 false (2 ^ 52 + t) x 1074)

pub fields_of_bits : (x t : ℕ) → x < 2047 → t < 2 ^ 52 → of_bits binary64 (x * 2 ^ 52 + t) ≡ of_fields binary64 false x t
unfolding of_bits
fields_of_bits x t h k =
    let b : ℕ = x * 2 ^ 52 + t in
    let m : b % 2 ^ 63 ≡ b = mod-eq_of_lt (omega arith) in
    ap (λ (s : Bool). of_fields binary64 s (b % 2 ^ 63 / 2 ^ 52) (b % 2 ^ 52)) (lt-leb (2 ^ 63) b (omega arith))
    ∙ ap (λ (n : ℕ). of_fields binary64 false (n / 2 ^ 52) (b % 2 ^ 52)) m
    ∙ ap (λ (n : ℕ). of_fields binary64 false n (b % 2 ^ 52)) (high x 52 k)
    ∙ ap (of_fields binary64 false x) (low x 52 k)

regroup : (y p q r s : ℕ) → p * q * r ≡ s → y * p * q * r ≡ y * s
regroup y p q r s e = omega (arith, ap (λ (z : ℕ). y * z) e)

module _ (y l h : ℕ) (ll : l ≤ 33) (hh : h < 53) (a : 2 ^ h ≤ y) (b : y < 2 ^ (h + 1)) where
  -- 2 ^ 52 by h
  split : 2 ^ 52 ≡ 2 ^ h * 2 ^ (52 - h)
  split = let q : 52 ≡ h + (52 - h) = omega arith in ap (λ (x : ℕ). 2 ^ x) q ∙ pow-add 2 h (52 - h)

  rest : y - 2 ^ h < 2 ^ h
  rest = omega (arith, ap (λ (x : ℕ). 2 ^ x) (add-one h) ∙ pow-suc 2 h)

  pub small : (y - 2 ^ h) * 2 ^ (52 - h) < 2 ^ 52
  small = omega (arith, split, mul-lt-mul_of_pos_right {k = 2 ^ (52 - h)} rest (pow_pos (52 - h)))

  pub total : fields64 h y l < 2047 * 2 ^ 52
  unfolding fields64
  total = omega (arith, small)

  lead : 2 ^ 52 + (y - 2 ^ h) * 2 ^ (52 - h) ≡ y * 2 ^ (52 - h)
  lead = let q : 2 ^ h + (y - 2 ^ h) ≡ y = omega arith in omega (arith, split, ap (λ (x : ℕ). x * 2 ^ (52 - h)) q)

  powers : 2 ^ (52 - h) * 2 ^ (1022 + h - l) * 2 ^ l ≡ 2 ^ 1074
  powers =
      let q : 52 - h + (1022 + h - l) + l ≡ 1074 = omega arith in
      sym (ap (λ (x : ℕ). x * 2 ^ l) (pow-add 2 (52 - h) (1022 + h - l))) ∙ sym (pow-add 2 (52 - h + (1022 + h - l)) l) ∙ ap (λ (x : ℕ). 2 ^ x) q

  pub value : HasValue (of_bits binary64 (fields64 h y l)) false y (2 ^ l)
  unfolding fields64
  value =
      let t : ℕ = (y - 2 ^ h) * 2 ^ (52 - h) in
      let x : ℕ = 1022 + h - l in
      let e : 1023 + h - l ≡ suc x = omega arith in
      let v : HasValue (of_fields binary64 false (suc x) t) false ((2 ^ 52 + t) * 2 ^ x) (2 ^ 1074) = field_value x t (omega arith) in
      let w : HasValue (of_fields binary64 false (suc x) t) false y (2 ^ l) =
      rescale (of_fields binary64 false (suc x) t) false ((2 ^ 52 + t) * 2 ^ x) (2 ^ 1074) y (2 ^ l) (pow_pos 1074)
      (ap (λ (z : ℕ). z * 2 ^ x * 2 ^ l) lead ∙ regroup y (2 ^ (52 - h)) (2 ^ x) (2 ^ l) (2 ^ 1074) powers) v in
      subst (λ (f : Float). HasValue f false y (2 ^ l)) (sym (fields_of_bits (1023 + h - l) t (omega arith) small ∙ ap (λ (z : ℕ). of_fields binary64 false z t) e)) w

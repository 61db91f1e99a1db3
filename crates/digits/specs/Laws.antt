-- The digits of sums, products, shifts and remainders.
use Rattle.std.specs.Prelude.{◌≡◌, refl, Bool, true, false, ◌&&◌, cond, ℕ, zero, suc, ◌+◌, ◌-◌, ◌*◌, ◌/◌, ◌%◌, ◌^◌, ◌≤◌, ◌<◌, min}
use Rattle.std.proofs.Common.{sym, ap, ◌∙◌, mod-lt, mul_assoc, arith, shr-shr, pow-add, pow_pos, pow_mono}
use Rattle.std.proofs.Math.Nat.{div-eq_of_lt, mul-mod_left, two-pow-succ}
use Rattle.std.specs.Int.Bits.{bit_xor, bit_and, differ, xor_step, and_step}
use Rattle.std.proofs.lemmas.Nat.{xor_shr, and_shr, shl-shr}
use Rattle.std.proofs.Math.Pow.{field, mod-mod-pow}
use Rattle.theory.specs.Def.{◌⊕◌}
use Rattle.digits.specs.Def.{Word, nonzero, digit, number_of}

differ_bits : (x y : ℕ) → x < 2 → y < 2 → nonzero (differ x y) ≡ nonzero x ⊕ nonzero y
differ_bits zero y g h = refl
differ_bits (suc zero) zero g h = refl
differ_bits (suc zero) (suc zero) g h = refl
differ_bits (suc zero) (suc (suc y)) g h = absurd (omega arith)
differ_bits (suc (suc x)) y g h = absurd (omega arith)

min_bits : (x y : ℕ) → x < 2 → y < 2 → nonzero (min x y) ≡ (nonzero x && nonzero y)
min_bits zero y g h = let e : min 0 y ≡ 0 = omega arith in rw e
min_bits (suc zero) zero g h = refl
min_bits (suc zero) (suc zero) g h = refl
min_bits (suc zero) (suc (suc y)) g h = absurd (omega arith)
min_bits (suc (suc x)) y g h = absurd (omega arith)

low_xor : (x y : ℕ) → nonzero (bit_xor x y % 2) ≡ nonzero (x % 2) ⊕ nonzero (y % 2)
low_xor x y =
    let low : bit_xor x y % 2 ≡ differ (x % 2) (y % 2) = omega (arith, xor_step x y, differ_lt (x % 2) (y % 2) (omega arith) (omega arith)) in
    ap nonzero low ∙ differ_bits (x % 2) (y % 2) (omega arith) (omega arith)
  where
    differ_lt : (x y : ℕ) → x < 2 → y < 2 → differ x y < 2
    differ_lt zero y g h = h
    differ_lt (suc zero) zero g h = omega arith
    differ_lt (suc zero) (suc y) g h = omega arith
    differ_lt (suc (suc x)) y g h = absurd (omega arith)

low_and : (x y : ℕ) → nonzero (bit_and x y % 2) ≡ (nonzero (x % 2) && nonzero (y % 2))
low_and x y =
    let low : bit_and x y % 2 ≡ min (x % 2) (y % 2) = omega (arith, and_step x y) in
    ap nonzero low ∙ min_bits (x % 2) (y % 2) (omega arith) (omega arith)

pub digit-xor : (x y i : ℕ) → digit (bit_xor x y) i ≡ digit x i ⊕ digit y i
unfolding digit
digit-xor x y i = ap (λ n. nonzero (n % 2)) (xor_shr x y i) ∙ low_xor (x / 2 ^ i) (y / 2 ^ i)

pub digit_and : (x y i : ℕ) → digit (bit_and x y) i ≡ (digit x i && digit y i)
unfolding digit
digit_and x y i = ap (λ n. nonzero (n % 2)) (and_shr x y i) ∙ low_and (x / 2 ^ i) (y / 2 ^ i)

-- the digits from k on of a number below 2 ^ k
pub digit_past : (x k i : ℕ) → x < 2 ^ k → k ≤ i → digit x i ≡ false
unfolding digit
digit_past x k i h l =
    let b : x < 2 ^ i = omega (arith, pow_mono l) in
    ap (λ n. nonzero (n % 2)) (div-eq_of_lt b)

pub digit-zero : (i : ℕ) → digit 0 i ≡ false
digit-zero i = digit_past 0 0 i (omega arith) (omega arith)

pub digit-shr : (x k i : ℕ) → digit (x / 2 ^ k) i ≡ digit x (k + i)
unfolding digit
digit-shr x k i = rw shr-shr

pub digit-shl_below : (x k i : ℕ) → i < k → digit (x * 2 ^ k) i ≡ false
unfolding digit
digit-shl_below x k i h =
    let e : k ≡ ((k - suc i) + 1) + i = omega arith in
    rw (e, pow-add, ← mul_assoc, shl-shr, pow-add, ← mul_assoc) (ap nonzero (mul-mod_left (x * 2 ^ (k - suc i)) 2))

pub digit-shl : (x k i : ℕ) → k ≤ i → digit (x * 2 ^ k) i ≡ digit x (i - k)
unfolding digit
digit-shl x k i h =
    let e : i ≡ k + (i - k) = omega arith in
    ap (λ n. nonzero (n % 2)) (ap (λ z. x * 2 ^ k / 2 ^ z) e ∙ sym (shr-shr (x * 2 ^ k) k (i - k)) ∙ ap (λ z. z / 2 ^ (i - k)) (shl-shr x k))

pub digit-mod : (x k i : ℕ) → i < k → digit (x % 2 ^ k) i ≡ digit x i
unfolding digit
digit-mod x k i h =
    let e : k ≡ ((k - suc i) + 1) + i = omega arith in
    rw e (ap nonzero (ap (λ z. z % 2) (field x ((k - suc i) + 1) i) ∙ mod-mod-pow (x / 2 ^ i) (k - suc i) 1))

pub digit-mod_past : (x k i : ℕ) → k ≤ i → digit (x % 2 ^ k) i ≡ false
digit-mod_past x k i h = digit_past (x % 2 ^ k) k i (mod-lt x (pow_pos k)) h

pub digit-suc : (n i : ℕ) → digit n (suc i) ≡ digit (n / 2) i
digit-suc n i = let e : suc i ≡ 1 + i = omega arith in rw e (sym (digit-shr n 1 i))

pub digit_low : (n : ℕ) → digit n 0 ≡ nonzero (n % 2)
unfolding digit
digit_low n = let e : n / 1 ≡ n = omega arith in rw e

-- a number of w digits
pub number_below : (w : ℕ) (x : Word) → number_of w x < 2 ^ w
unfolding number_of
number_below zero x = omega arith
number_below (suc w) x = omega (arith, number_below w x, bit_below (x w), two-pow-succ w)
  where
    bit_below : (b : Bool) → cond b 1 0 < 2
    bit_below true = omega arith
    bit_below false = omega arith

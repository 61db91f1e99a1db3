-- Numbers, and words, are told by their digits.
use Rattle.std.specs.Prelude.{◌≡◌, refl, List, ℕ, zero, suc, ◌+◌, ◌*◌, ◌/◌, ◌%◌, ◌^◌, ◌≤◌, ◌<◌, get_or}
use Rattle.std.proofs.Common.{sym, ◌∙◌, true≢false, arith}
use Rattle.std.proofs.lemmas.Bool.{false≢true}
use Rattle.std.proofs.Math.Nat.{two-pow-succ}
use Rattle.digits.specs.Def.{nonzero, digit, bits_from}
use Rattle.digits.specs.Laws.{digit_low, digit-suc}

low_equal : (x y : ℕ) → x < 2 → y < 2 → nonzero x ≡ nonzero y → x ≡ y
low_equal zero zero g h e = refl
low_equal zero (suc y) g h e = absurd (false≢true e)
low_equal (suc x) zero g h e = absurd (true≢false e)
low_equal (suc x) (suc y) g h e = omega arith

-- two numbers with the same k digits
pub digits_equal : (k x y : ℕ) → x < 2 ^ k → y < 2 ^ k → ((i : ℕ) → i < k → digit x i ≡ digit y i) → x ≡ y
digits_equal zero x y g h e = omega arith
digits_equal (suc k) x y g h e =
    let low : x % 2 ≡ y % 2 = low_equal (x % 2) (y % 2) (omega arith) (omega arith) (sym (digit_low x) ∙ e 0 (omega arith) ∙ digit_low y) in
    let high : x / 2 ≡ y / 2 =
    digits_equal k (x / 2) (y / 2) (omega (arith, two-pow-succ k)) (omega (arith, two-pow-succ k))
    (λ i l. sym (digit-suc x i) ∙ e (suc i) (omega arith) ∙ digit-suc y i) in
    omega arith

-- a word of a row is told by the row's bits
pub word_equal : (ws out : List ℕ) (at to k : ℕ) → get_or ws (at + k) 0 < 2 ^ 64 → get_or out (to + k) 0 < 2 ^ 64
    → ((i : ℕ) → 64 * k ≤ i → i < 64 * (k + 1) → bits_from ws at i ≡ bits_from out to i) → get_or ws (at + k) 0 ≡ get_or out (to + k) 0
unfolding bits_from
word_equal ws out at to k g h e =
    digits_equal 64 (get_or ws (at + k) 0) (get_or out (to + k) 0) g h
    (λ i l. let q : (64 * k + i) / 64 ≡ k = omega arith in
    let m : (64 * k + i) % 64 ≡ i = omega arith in
    rw (q, m) at (e (64 * k + i) (omega arith) (omega arith)))

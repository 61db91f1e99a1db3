-- A number and its digits, the most significant first.
use mathlib.Core.Path.{◌≡◌, refl, sym, ap, ap₂, ◌∙◌}
use mathlib.Core.Bool.{cond}
use Prim.Native.Nat.{ℕ, zero, suc, ◌+◌, ◌-◌, ◌*◌, ◌/◌, ◌%◌, ◌^◌, ◌<◌}
use native.Mathlib.Nat.{two-pow-succ}
use native.Mathlib.Omega.{arith}
use Rattle.digits.specs.Def.{Word, Same, nonzero, digit, word_of, number_of}
use Rattle.digits.specs.Laws.{digit-suc, digit_low}
use Rattle.states.specs.Post.{Holds}

pub bit-number : (y : ℕ) → y < 2 → y ≡ cond (nonzero y) 1 0
bit-number zero h = refl
bit-number (suc zero) h = refl
bit-number (suc (suc y)) h = absurd (omega arith)

number_is : (n : ℕ) (x : Word) (r : ℕ) → r < 2 ^ n → ((j : ℕ) → j < n → digit r (n - suc j) ≡ x j) → r ≡ number_of n x
unfolding number_of
number_is zero x r l h = omega arith
number_is (suc n) x r l h =
    let top : r / 2 ≡ number_of n x =
    number_is n x (r / 2) (omega (arith, two-pow-succ n))
    (λ j i. let e : suc n - suc j ≡ suc (n - suc j) = omega arith in sym (digit-suc r (n - suc j)) ∙ ap (digit r) (sym e) ∙ h j (omega arith)) in
    let z : suc n - suc n ≡ 0 = omega arith in
    let low : r % 2 ≡ cond (x n) 1 0 = bit-number (r % 2) (omega arith) ∙ ap (λ b. cond b 1 0) (sym (digit_low r) ∙ ap (digit r) (sym z) ∙ h n (omega arith)) in
    let whole : r ≡ 2 * (r / 2) + r % 2 = omega arith in
    whole ∙ ap₂ (λ a b. 2 * a + b) top low

-- a word mirrored is the number of its bits
pub mirrored_number : (L x r : ℕ) (y : Word) → Holds L (word_of L x) r → Same L (digit x) y → r ≡ number_of L y
unfolding word_of
mirrored_number L x r y h e =
    number_is L y r h.small
    (λ j i. let g : L - suc (L - suc j) ≡ j = omega arith in h.bits (L - suc j) (omega arith) ∙ ap (digit x) g ∙ e j i)

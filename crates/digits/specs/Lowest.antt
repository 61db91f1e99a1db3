-- The lowest set digit of a number is at the count of its trailing zeros.
use Rattle.std.specs.Prelude.{◌≡◌, refl, true, false, ℕ, zero, suc, ◌/◌, ◌%◌, ◌^◌, ◌<◌}
use Rattle.std.proofs.Common.{ap, ◌∙◌, suc-le-suc, zero-lt-suc, add-one, arith, shr_lt}
use Rattle.std.specs.Int.Count.{count_trailing_zeros, under}
use Rattle.std.proofs.Math.Arith.{lt-one}
use Rattle.digits.specs.Def.{nonzero, digit}
use Rattle.digits.specs.Laws.{digit_low, digit-suc}

-- t is the place of the lowest set digit of n, which has k digits
pub record LowestDigit (k n t : ℕ) : Type 0 where
  pub place : t < k
  pub set : digit n t ≡ true
  pub lower : (j : ℕ) → j < t → digit n j ≡ false

pub lowest-digit : (k n : ℕ) → n < 2 ^ k → (n ≡ 0 → ⊥) → LowestDigit k n (count_trailing_zeros k n)
unfolding count_trailing_zeros
lowest-digit zero n h d = absurd (d (lt-one h))
lowest-digit (suc k) n h d = go (n % 2) refl (λ f. lowest-digit k (n / 2) (shr_lt k 1 (rw add-one h)) f)
  where
    go : (b : ℕ) → n % 2 ≡ b → ((n / 2 ≡ 0 → ⊥) → LowestDigit k (n / 2) (count_trailing_zeros k (n / 2)))
        → LowestDigit (suc k) n (under b (count_trailing_zeros k (n / 2)))
    go zero e rest =
        let r = rest (λ z. d (omega arith)) in
        record { place = suc-le-suc r.place; set = digit-suc n _ ∙ r.set; lower = λ j l. below r j l }
      where
        below : LowestDigit k (n / 2) (count_trailing_zeros k (n / 2)) → (j : ℕ) → j < suc (count_trailing_zeros k (n / 2)) → digit n j ≡ false
        below r zero l = digit_low n ∙ ap nonzero e
        below r (suc j) l = digit-suc n j ∙ r.lower j (omega arith)
    go (suc b) e rest = record { place = zero-lt-suc k; set = digit_low n ∙ ap nonzero e; lower = λ j l. absurd (omega arith) }

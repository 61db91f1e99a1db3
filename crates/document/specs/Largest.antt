-- Laws of the largest number that gets a yes, and of the highest power in a number.
use Rattle.std.specs.Prelude.{◌≡◌, refl, Bool, true, false, cond, ℕ, zero, suc, ◌+◌, ◌^◌, ◌≤◌, ◌<◌, leb}
use Rattle.std.proofs.Common.{sym, ap, ◌∙◌, true≢false, arith, leb-true, leb-false}
use Rattle.std.proofs.Math.Logic.{by_cases}
use Rattle.std.proofs.Math.Decide.{dec_lt, ℕ_discrete}
use Rattle.document.specs.Limits.{most_output}
use Rattle.document.specs.Report.{largest}
use Rattle.document.specs.Value.{highest}

-- a yes is taken, a no is passed
pub largest_yes : (f : ℕ → Bool) (n : ℕ) → f (suc n) ≡ true → largest f (suc n) ≡ suc n
unfolding largest
largest_yes f n e = ap (λ b. cond b (suc n) (largest f n)) e

pub largest_no : (f : ℕ → Bool) (n : ℕ) → f (suc n) ≡ false → largest f (suc n) ≡ largest f n
unfolding largest
largest_no f n e = ap (λ b. cond b (suc n) (largest f n)) e

-- the largest is at most the bound, gets a yes unless it is 0, and nothing above it up to the bound does
pub record Largest (f : ℕ → Bool) (n m : ℕ) : Type 0 where
  pub bound : m ≤ n
  pub holds : 0 < m → f m ≡ true
  pub above : (i : ℕ) → m < i → i ≤ n → f i ≡ false

pub largest_is : (f : ℕ → Bool) (n : ℕ) → Largest f n (largest f n)
unfolding largest
largest_is f zero = record { bound = omega arith; holds = λ h. absurd (omega arith); above = λ i h k. absurd (omega arith) }
largest_is f (suc n) = go (f (suc n)) refl (largest_is f n)
  where
    go : (b : Bool) → f (suc n) ≡ b → Largest f n (largest f n) → Largest f (suc n) (cond b (suc n) (largest f n))
    go true e x = record { bound = omega arith; holds = λ _. e; above = λ i h k. absurd (omega arith) }
    go false e x =
        record {
          bound = omega (arith, x.bound);
          holds = x.holds;
          above = λ i h k. by_cases (ℕ_discrete i (suc n)) (λ q. ap f q ∙ e) (λ d. x.above i h (omega arith));
        }

-- just one number is so
pub largest_unique : (f : ℕ → Bool) (n m k : ℕ) → Largest f n m → Largest f n k → m ≡ k
largest_unique f n m k x y = by_cases (dec_lt m k) (λ h. absurd (clash m k h x y)) (λ h. by_cases (dec_lt k m) (λ g. absurd (clash k m g y x)) (λ g. omega arith))
  where
    clash : (m k : ℕ) → m < k → Largest f n m → Largest f n k → ⊥
    clash m k h x y = true≢false (sym (y.holds (omega arith)) ∙ x.above k h y.bound)

-- ---- the highest power in y

pub highest_is : (y : ℕ) → 0 < y → y < 2 ^ most_output → (2 ^ highest y ≤ y) × (y < 2 ^ (highest y + 1))
unfolding highest
highest_is y p l = (low (ℕ_discrete h 0), high (dec_lt h 31))
  where
    h : ℕ
    h = largest (λ h. leb (2 ^ h) y) 31

    x : Largest (λ h. leb (2 ^ h) y) 31 h
    x = largest_is (λ h. leb (2 ^ h) y) 31

    low : Dec (h ≡ 0) → 2 ^ h ≤ y
    low (yes e) = rw e p
    low (no n) = leb-true (2 ^ h) y (x.holds (omega arith))

    high : Dec (h < 31) → y < 2 ^ (h + 1)
    high (yes g) = leb-false (2 ^ (h + 1)) y (x.above (h + 1) (omega arith) (omega arith))
    high (no g) = let e : h ≡ 31 = omega (arith, x.bound) in rw e l

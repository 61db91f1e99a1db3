-- The masks that a description's coefficients are laid in.
use mathlib.Core.Path.{◌≡◌, refl, sym, ap, ap₂, ◌∙◌}
use mathlib.Core.Bool.{false, not, cond}
use mathlib.Core.List.{List}
use mathlib.Core.Logic.{by_cases}
use native.Mathlib.Decide.{dec_lt, ℕ_discrete}
use Prim.Native.Nat.{ℕ, zero, suc, ◌+◌, ◌-◌, ◌*◌, ◌/◌, ◌%◌, ◌≤◌, ◌<◌}
use native.Mathlib.Omega.{arith}
use lib.Dec.{ltb}
use lib.ListN.{get_or, length, replicate, get_or-eq_default}
use borrow.Author.Tests.{lt-ltb, le-ltb}
use Rattle.theory.specs.Def.{◌⊕◌}
use Rattle.theory.specs.Laws.{⊕_false}
use Rattle.digits.specs.Def.{Word, Clear, digit, bits_of, word_of}
use Rattle.digits.specs.Laws.{digit-zero}
use Rattle.kinds.specs.Transpose.{place, taps}
use Rattle.kinds.specs.Adjoint.{place_below, place_from, place_past, taps_below, taps_at, taps_past}
use Rattle.states.specs.Post.{Holds, Flipped}

-- a state of zeros
pub none_set : (n b : ℕ) → bits_of (replicate n 0) b ≡ false
unfolding bits_of
none_set n b = ap (λ x. digit x (b % 64)) (zeros n (b / 64)) ∙ digit-zero (b % 64)
  where
    zeros : (n i : ℕ) → ◌≡◌ {A = ℕ} (get_or (replicate n 0) i 0) 0
    zeros zero i = refl
    zeros (suc n) zero = refl
    zeros (suc n) (suc i) = zeros n i

-- ---- coefficient_mask: the first j bytes are laid

abbrev laid : List ℕ → Word
laid c i = digit (get_or c (i / 8) 0) (7 - i % 8)

pub record Laying (c r : List ℕ) (j : ℕ) : Type 0 where
  pub done : (i : ℕ) → i < 8 * j → bits_of r i ≡ laid c i
  pub rest : Clear (8 * j) (bits_of r)

pub laying_start : (n : ℕ) (c : List ℕ) → Laying c (replicate n 0) 0
laying_start n c = record { done = λ i h. absurd (omega arith); rest = λ i _. none_set n i }

pub laying_step : (c r t : List ℕ) (j x y : ℕ) → Laying c r j → x ≡ get_or c j 0 → Holds 8 (word_of 8 x) y → ((i : ℕ) → bits_of t i ≡ bits_of r i ⊕ place (8 * j) 8 (digit y) i) → Laying c t (j + 1)
unfolding word_of
laying_step c r t j x y l e h p = record {
  done = λ i g. p i ∙ by_cases (dec_lt i (8 * j))
      (λ o. ap₂ ◌⊕◌ (l.done i o) (place_below (8 * j) 8 (digit y) i o) ∙ ⊕_false _)
      (λ o.
      let q : i / 8 ≡ j = omega arith in
      let a : 8 - suc (i - 8 * j) ≡ 7 - i % 8 = omega arith in
      ap₂ ◌⊕◌ (l.rest i (omega arith)) (place_from (8 * j) 8 (digit y) i (omega arith) (omega arith) ∙ h.bits (i - 8 * j) (omega arith))
      ∙ ap₂ digit (e ∙ ap (λ m. get_or c m 0) (sym q)) a);
  rest = λ i g. p i ∙ ap₂ ◌⊕◌ (l.rest i (omega arith)) (place_past (8 * j) 8 (digit y) i (omega arith));
}

pub laying_end : (n : ℕ) (c r : List ℕ) → length c ≡ n → Laying c r n → (i : ℕ) → bits_of r i ≡ laid c i
laying_end n c r l x i =
    by_cases (dec_lt i (8 * n)) (λ h. x.done i h)
    (λ h. x.rest i (omega arith) ∙ sym (ap (λ y. digit y (7 - i % 8)) (get_or-eq_default c 0 (omega arith)) ∙ digit-zero (7 - i % 8)))

-- ---- tap_mask: the bits from k - i on are done

pub record Tapping (k : ℕ) (c r : List ℕ) (i : ℕ) : Type 0 where
  pub bits : (b : ℕ) → bits_of r b ≡ cond (ltb b (k - i)) false (taps k (bits_of c) b)

pub tapping_start : (n k : ℕ) (c r : List ℕ) → Flipped (replicate n 0) k r → Tapping k c r 0
tapping_start n k c r f = record {
  bits = λ b. by_cases (dec_lt b k)
      (λ h. let g : b < k - 0 = omega arith in rw (lt-ltb b (k - 0) g) (f.other b (omega arith) ∙ none_set n b))
      (λ h. let g : k - 0 ≤ b = omega arith in rw (le-ltb b (k - 0) g) (by_cases (ℕ_discrete b k)
      (λ e. rw e (f.here ∙ ap not (none_set n k) ∙ sym (taps_at k (bits_of c))))
      (λ d. f.other b d ∙ none_set n b ∙ sym (taps_past k (bits_of c) b (omega arith)))));
}

module _ (k : ℕ) (c r : List ℕ) (i : ℕ) (x : Tapping k c r i) where
  tapping_low : (b : ℕ) → b < k - i → bits_of r b ≡ false
  tapping_low b h = x.bits b ∙ rw (lt-ltb b (k - i) h)

  tapping_high : (b : ℕ) → k - i ≤ b → bits_of r b ≡ taps k (bits_of c) b
  tapping_high b h = x.bits b ∙ rw (le-ltb b (k - i) h)

  pub tapping_step : (t : List ℕ) (y : ℕ) → i < k → Holds 1 (λ j. bits_of c (i + j)) y → ((b : ℕ) → bits_of t b ≡ bits_of r b ⊕ place (k - 1 - i) 1 (digit y) b) → Tapping k c t (i + 1)
  tapping_step t y l h p = record {
    bits = λ b. p b ∙ by_cases (dec_lt b (k - (i + 1)))
        (λ g. rw (lt-ltb b (k - (i + 1)) g) (ap₂ ◌⊕◌ (tapping_low b (omega arith)) (place_below (k - 1 - i) 1 (digit y) b (omega arith))))
        (λ g. let q : k - (i + 1) ≤ b = omega arith in rw (le-ltb b (k - (i + 1)) q) (by_cases (dec_lt b (k - i))
        (λ o. let e : b - (k - 1 - i) ≡ 0 = omega arith in let m : i + 0 ≡ k - suc b = omega arith in
        ap₂ ◌⊕◌ (tapping_low b o) (place_from (k - 1 - i) 1 (digit y) b (omega arith) (omega arith) ∙ ap (digit y) e ∙ h.bits 0 (omega arith) ∙ ap (bits_of c) m)
        ∙ sym (taps_below k (bits_of c) b (omega arith)))
        (λ o. ap₂ ◌⊕◌ (tapping_high b (omega arith)) (place_past (k - 1 - i) 1 (digit y) b (omega arith)) ∙ ⊕_false _)));
  }

pub tapping_end : (k : ℕ) (c r : List ℕ) → Tapping k c r k → (b : ℕ) → bits_of r b ≡ taps k (bits_of c) b
tapping_end k c r x b = let z : k - k ≤ b = omega arith in x.bits b ∙ rw (le-ltb b (k - k) z)

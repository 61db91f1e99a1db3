-- Kinds 3 and 4: the tempering and the move transposed.
use mathlib.Core.Path.{◌≡◌, sym, ap, ap₂, ◌∙◌}
use mathlib.Core.List.{List}
use mathlib.Core.Logic.{by_cases}
use native.Mathlib.Decide.{ℕ_discrete}
use Prim.Native.Nat.{ℕ, ◌+◌, ◌-◌, ◌*◌, ◌/◌, ◌%◌, ◌^◌, ◌≤◌, ◌<◌}
use native.Mathlib.Nat.{one-mul}
use native.Mathlib.Omega.{arith}
use lib.Dec.{lit<}
use lib.ListN.{replicate}
use lib.Pow.{pow-lt, shl_exact}
use Rattle.theory.specs.Def.{◌⊕◌, unit}
use Rattle.theory.specs.Sums.{unit_at, unit_other}
use Rattle.digits.specs.Def.{Same, Clear, digit, bits_of}
use Rattle.digits.specs.Laws.{digit-mod, digit-shr}
use Rattle.kinds.specs.Generator.{◌⊻◌, mersenne}
use Rattle.kinds.specs.Transpose.{down, place, untwist, un_left, un_right, first4, back4}
use Rattle.kinds.proofs.KindFour.{mersenne-rows}
use Rattle.kinds.specs.Adjoint.{same_place, same_untwist, same_un_left, same_un_right}
use Rattle.kinds.specs.Reads.{word_in}
use Rattle.states.specs.Post.{Holds}
use Rattle.document.specs.Limits.{most_bits}
use Rattle.states.proofs.StateLaws.{bit_here, bit_other}
use Rattle.running.specs.declared.ready.Twister.{Twister}
use Rattle.running.specs.Prepared.{machine4}
use Rattle.running.proofs.Masks.{none_set}
use Rattle.rows.specs.Post.{FirstRow, BackRow}
use Rattle.rows.proofs.Laws.{from_first, from_back}

-- the words that are read lie within the state
pub inside4 : (p : Twister) → ((p.r - p.m - 1) * p.w + p.w ≤ most_bits) × ((p.r - 1) * p.w + p.w ≤ most_bits) × ((p.r - 2) * p.w + p.w ≤ most_bits)
inside4 p =
    let x = word_in (p.r - p.m - 1) p.r p.w (omega (arith, p.middle.1)) in
    let z = word_in (p.r - 1) p.r p.w (omega (arith, p.middle.1)) in
    let u = word_in (p.r - 2) p.r p.w (omega (arith, p.middle.1)) in
    (omega (arith, p.words.fit), omega (arith, p.words.fit), omega (arith, p.words.fit))

-- 1 << j is the word with bit j alone
pub unit-word : (w j : ℕ) → w ≤ 32 → j < w → (1 * 2 ^ j % 2 ^ 64 < 2 ^ w) × Same w (digit (1 * 2 ^ j % 2 ^ 64)) (unit j)
unit-word w j l h = (rw exact (pow-lt {i = j} {j = w} h), bits)
  where
    exact : 1 * 2 ^ j % 2 ^ 64 ≡ 2 ^ j
    exact = shl_exact {a = 1} 1 j 64 (lit< tt) (omega arith) ∙ one-mul (2 ^ j)

    bits : Same w (digit (1 * 2 ^ j % 2 ^ 64)) (unit j)
    bits i g = by_cases (ℕ_discrete i j)
        (λ e. rw e (bit_here j (omega arith) ∙ sym (unit_at j)))
        (λ d. bit_other j i (omega arith) d ∙ sym (unit_other j i d))

pub first_word_is : (w U S b T c Z j x₀ x₁ x₂ x₃ x₄ : ℕ) → Same w (digit x₀) (unit j) → Holds w (un_right w Z (digit x₀)) x₁ → Holds w (un_left T (digit c) (digit x₁)) x₂
    → Holds w (un_left S (digit b) (digit x₂)) x₃ → Holds w (un_right w U (digit x₃)) x₄ → Holds w (first4 w U S (digit b) T (digit c) Z j) x₄
unfolding first4
first_word_is w U S b T c Z j x₀ x₁ x₂ x₃ x₄ e h₁ h₂ h₃ h₄ = record { small = h₄.small; bits = λ i l. h₄.bits i l ∙ same_un_right w U _ _ third i l }
  where
    first : Same w (digit x₁) (un_right w Z (unit j))
    first i l = h₁.bits i l ∙ same_un_right w Z _ _ e i l

    second : Same w (digit x₂) (un_left T (digit c) (un_right w Z (unit j)))
    second i l = h₂.bits i l ∙ same_un_left w T (digit c) _ _ first i l

    third : Same w (digit x₃) (un_left S (digit b) (un_left T (digit c) (un_right w Z (unit j))))
    third i l = h₃.bits i l ∙ same_un_left w S (digit b) _ _ second i l

module _ (ws d₀ d₁ d₂ d₃ : List ℕ) (r m w p a y z u : ℕ) (lp : p ≤ w) (hy : Holds w (λ j. bits_of ws (0 + j)) y) (hz : Holds w (untwist w (digit a) (digit y)) z) (e : u ≡ z % 2 ^ (w - p)) where
  first : Same w (digit y) (bits_of ws)
  first j h = let o : 0 + j ≡ j = omega arith in hy.bits j h ∙ ap (bits_of ws) o

  whole : Same w (digit z) (untwist w (digit a) (bits_of ws))
  whole j h = hz.bits j h ∙ same_untwist w (digit a) _ _ first j h

  pub backed4_is :
      ((i : ℕ) → bits_of d₀ i ≡ down w (bits_of ws) i)
      → ((i : ℕ) → bits_of d₁ i ≡ bits_of d₀ i ⊕ place ((r - m - 1) * w) w (digit y) i)
      → ((i : ℕ) → bits_of d₂ i ≡ bits_of d₁ i ⊕ place ((r - 1) * w) (w - p) (digit u) i)
      → ((i : ℕ) → bits_of d₃ i ≡ bits_of d₂ i ⊕ place ((r - 2) * w + (w - p)) p (digit (z / 2 ^ (w - p))) i)
      → (i : ℕ) → bits_of d₃ i ≡ back4 r m w p (digit a) (bits_of ws) i
  unfolding back4 ◌⊻◌
  backed4_is h₀ h₁ h₂ h₃ i =
      h₃ i ∙ ap₂ ◌⊕◌
      (h₂ i ∙ ap₂ ◌⊕◌ (h₁ i ∙ ap₂ ◌⊕◌ (h₀ i) (same_place _ w _ _ first i))
      (same_place _ (w - p) _ _ (λ j h. rw e (digit-mod z (w - p) j h) ∙ whole j (omega arith)) i))
      (same_place _ p _ _ (λ j h. digit-shr z (w - p) j ∙ whole (w - p + j) (omega arith)) i)

module _ (p : Twister) where
  pub first4_is : (n j : ℕ) (x : ℕ) (r : List ℕ) → j < p.bits → Holds p.w (first4 p.w p.u p.s (digit p.b) p.t (digit p.c) p.v j) x
      → ((i : ℕ) → bits_of r i ≡ bits_of (replicate n 0) i ⊕ place 0 p.w (digit x) i) → FirstRow (machine4 p) j r
  unfolding mersenne
  first4_is n j x r l h f =
      from_first (machine4 p) _ _
      (mersenne-rows p.r p.m p.w p.p p.bits (digit p.a) p.u p.s (digit p.b) p.t (digit p.c) p.v p.middle.0 p.middle.1 p.part p.words.bits p.shifts.0 p.shifts.1 p.shifts.2 p.shifts.3)
      j r l (λ i. f i ∙ ap₂ ◌⊕◌ (none_set n i) (same_place 0 p.w _ _ h.bits i))

  pub back4_is : (row r : List ℕ) → Clear (p.r * p.w - p.p) (bits_of row) → ((i : ℕ) → bits_of r i ≡ back4 p.r p.m p.w p.p (digit p.a) (bits_of row) i) → BackRow (machine4 p) row r
  unfolding mersenne
  back4_is row r c x =
      from_back (machine4 p) _ _
      (mersenne-rows p.r p.m p.w p.p p.bits (digit p.a) p.u p.s (digit p.b) p.t (digit p.c) p.v p.middle.0 p.middle.1 p.part p.words.bits p.shifts.0 p.shifts.1 p.shifts.2 p.shifts.3)
      row r c x

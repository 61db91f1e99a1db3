-- Kind 1: steps transposed.
use mathlib.Core.Path.{◌≡◌, refl, sym, ap, ap₂, ◌∙◌, fun_ext}
use mathlib.Core.Bool.{true, false, ◌&&◌, cond}
use mathlib.Core.List.{List}
use mathlib.Core.Logic.{by_cases}
use native.Mathlib.Decide.{dec_lt, ℕ_discrete}
use Prim.Native.Nat.{ℕ, ◌+◌, ◌-◌, ◌≤◌, ◌<◌}
use native.Mathlib.Numerals.{add-one}
use native.Mathlib.Omega.{arith}
use lib.Dec.{ltb}
use lib.ListN.{length}
use borrow.Author.Tests.{le-ltb}
use Rattle.theory.specs.Def.{◌⊕◌, unit}
use Rattle.theory.specs.Laws.{⊕_false}
use Rattle.theory.specs.Sums.{unit_other}
use Rattle.digits.specs.Def.{Word, Same, Clear, digit, bits_of}
use Rattle.digits.specs.Laws.{digit-zero}
use Rattle.kinds.specs.Generator.{◌⊻◌, right, enter, times, tausworthe}
use Rattle.kinds.specs.Transpose.{taps, back1, first1}
use Rattle.kinds.specs.Rows.{tausworthe-rows}
use Rattle.kinds.specs.Adjoint.{taps_at, taps_past, back1_clear}
use Rattle.states.specs.Post.{state_bits}
use Rattle.states.proofs.StateLaws.{bits_past}
use Rattle.document.specs.Limits.{row_words}
use Rattle.running.specs.declared.ready.Tausworthe.{Tausworthe}
use Rattle.running.specs.Ranges.{Mask}
use Rattle.running.specs.Prepared.{tapped, machine1}
use Rattle.running.proofs.KindOne.{tapped_below}
use Rattle.rows.specs.Post.{StepsBack, FirstRow, BackRow}
use Rattle.rows.proofs.Laws.{from_first, from_back}

enter-zero : (s : Word) (i : ℕ) → enter 1 (digit 0) s i ≡ right 1 s i
unfolding enter right
enter-zero s i = ap (λ b. cond (ltb i 1) b (s (i - 1))) (digit-zero i)

right_past : (k : ℕ) (s : Word) (i : ℕ) → Clear k s → k < i → right 1 s i ≡ false
unfolding right
right_past k s i c h = let l : 1 ≤ i = omega arith in rw (le-ltb i 1 l) (c (i - 1) (omega arith))

-- the mask is the taps of its coefficients
mask_taps : (k : ℕ) (mask : List ℕ) → Mask k mask → (i : ℕ) → bits_of mask i ≡ taps k (tapped k (bits_of mask)) i
mask_taps k mask m i =
    by_cases (dec_lt i k) (λ h. tapped_below k (bits_of mask) i h)
    (λ h. by_cases (ℕ_discrete i k)
    (λ e. rw e (m.at ∙ sym (taps_at k (tapped k (bits_of mask)))))
    (λ d. m.past i (omega arith) ∙ sym (taps_past k (tapped k (bits_of mask)) i (omega arith))))

module _ (k : ℕ) (mask row r : List ℕ) (m : Mask k mask) (c : Clear k (bits_of row)) (len : length r ≡ row_words) (e : Same state_bits (bits_of r) (enter 1 (digit 0) (bits_of row))) where
  abbrev a : Word
  a = tapped k (bits_of mask)

  moved_up : (i : ℕ) → bits_of r i ≡ right 1 (bits_of row) i
  moved_up i =
      by_cases (dec_lt i state_bits) (λ h. e i h ∙ enter-zero (bits_of row) i)
      (λ h. bits_past row_words r i len (omega arith) ∙ sym (right_past k (bits_of row) i c (omega (arith, m.most))))

  one_back : (t : List ℕ) → ((i : ℕ) → bits_of t i ≡ back1 k a (bits_of row) i) → StepsBack k mask 1 row t
  unfolding times
  one_back t f = record { clear = λ i h. f i ∙ back1_clear k a (bits_of row) m.least c i h; bits = f }

  pub back_set : (t : List ℕ) → bits_of row (k - 1) ≡ true → ((i : ℕ) → bits_of t i ≡ bits_of r i ⊕ bits_of mask i) → StepsBack k mask 1 row t
  unfolding back1 ◌⊻◌
  back_set t b f = one_back t (λ i. f i ∙ ap₂ ◌⊕◌ (moved_up i) (mask_taps k mask m i ∙ ap (λ x. x && taps k a i) (sym b)))

  pub back_unset : bits_of row (k - 1) ≡ false → StepsBack k mask 1 row r
  unfolding back1 ◌⊻◌
  back_unset b = one_back r (λ i. moved_up i ∙ sym (⊕_false _) ∙ ap (λ x. right 1 (bits_of row) i ⊕ (x && taps k a i)) (sym b))

pub steps_none : (k : ℕ) (mask row : List ℕ) → Clear k (bits_of row) → StepsBack k mask 0 row row
unfolding times
steps_none k mask row c = record { clear = c; bits = λ _. refl }

pub steps_more : (k : ℕ) (mask : List ℕ) (n : ℕ) (row r t : List ℕ) → StepsBack k mask n row r → StepsBack k mask 1 r t → StepsBack k mask (n + 1) row t
unfolding times
steps_more k mask n row r t x y = rw add-one (record {
  clear = y.clear;
  bits = λ i. y.bits i ∙ ap (λ s. back1 k (tapped k (bits_of mask)) s i) (fun_ext x.bits);
})

-- ---- the rows of the machine

module _ (p : Tausworthe) where
  pub unit_clear : (s : List ℕ) → ((i : ℕ) → bits_of s i ≡ unit 0 i) → Clear p.k (bits_of s)
  unit_clear s e i h = e i ∙ unit_other 0 i (omega (arith, p.taps.least))

  pub first1_is : (j : ℕ) (s r : List ℕ) → j < p.bits → ((i : ℕ) → bits_of s i ≡ unit 0 i) → StepsBack p.k p.mask j s r → FirstRow (machine1 p) j r
  unfolding tausworthe first1
  first1_is j s r l e x =
      from_first (machine1 p) _ _ (tausworthe-rows p.k p.bits p.nu (tapped p.k (bits_of p.mask)) p.taps.least) j r l
      (λ i. x.bits i ∙ ap (λ z. times j (back1 p.k (tapped p.k (bits_of p.mask))) z i) (fun_ext e))

  pub back1_is : (row r : List ℕ) → Clear p.k (bits_of row) → StepsBack p.k p.mask p.nu row r → BackRow (machine1 p) row r
  unfolding tausworthe
  back1_is row r c x =
      from_back (machine1 p) _ _ (tausworthe-rows p.k p.bits p.nu (tapped p.k (bits_of p.mask)) p.taps.least) row r c x.bits

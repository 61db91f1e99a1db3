-- Kind 4: the transpose of a move, and with that of the tempering its rows; kind 3 is a case of it.
use Rattle.std.specs.Prelude.{◌≡◌}
use Rattle.std.proofs.Math.Path.{refl, sym, ap, ap₂}
use Rattle.std.proofs.Common.{◌∙◌}
use Prim.Native.Nat.{ℕ, ◌+◌, ◌-◌, ◌*◌, ◌≤◌, ◌<◌}
use native.Mathlib.Omega.{arith}
use Rattle.theory.specs.Def.{◌⊕◌, pair}
use Rattle.theory.specs.Sums.{pair-sum, pair-sum_r, pair_same}
use Rattle.digits.specs.Def.{Word, Clear}
use Rattle.kinds.specs.Generator.{◌⊻◌, join, word, enter, next4, mersenne}
use Rattle.kinds.specs.Reads.{word_in}
use Rattle.kinds.specs.Transpose.{place, down, untwist, back4, first4, Transposed}
use Rattle.kinds.specs.Adjoint.{place_past, pair-join, pair-twist, pair-down, pair-enter, pair_place, four, lowered_clear, first4-sum}
use Rattle.kinds.specs.Generator.{twisted}
use Rattle.kinds.specs.Alike.{twisted_alike}
use Rattle.kinds.specs.Rows.{alike_rows}

-- ---- kind 4: a move

module _ (r m w p : ℕ) (a ρ s : Word) (pm : 1 ≤ m) (l : m < r) (q : p < w) (c : Clear (r * w - p) ρ) where
  abbrev rest : ℕ
  rest = r * w - p - w

  whole : (r - 1) * w + w ≤ r * w
  whole = word_in (r - 1) r w (omega arith)

  next : (r - 2) * w + w ≤ (r - 1) * w
  next = word_in (r - 2) (r - 1) w (omega arith)

  mid : (r - m - 1) * w + w ≤ (r - 1) * w
  mid = word_in (r - m - 1) (r - 1) w (omega arith)

  split : r * w - p ≡ w + rest
  split = omega (arith, whole, next)

  abbrev z : Word
  z = untwist w a ρ

  joined : pair w z (join (w - p) (word w (r - 1) s) (word w (r - 2) s)) ≡ pair (w - p) z (word w (r - 1) s) ⊕ pair p (λ j. z (w - p + j)) (λ j. word w (r - 2) s (w - p + j))
  joined =
      let e : w ≡ (w - p) + p = omega arith in
      ap (λ n. pair n z (join (w - p) (word w (r - 1) s) (word w (r - 2) s))) e ∙ pair-join (w - p) p z (word w (r - 1) s) (word w (r - 2) s)

  back4-sum : pair (r * w - p) (back4 r m w p a ρ) s ≡ pair (r * w - p) ρ (enter w (next4 r m w p a s) s)
  unfolding next4 back4 word ◌⊻◌
  back4-sum =
      pair-sum (r * w - p) _ (place ((r - 2) * w + (w - p)) p (λ j. z (w - p + j))) s
      ∙ ap₂ ◌⊕◌
      (pair-sum (r * w - p) _ (place ((r - 1) * w) (w - p) z) s
      ∙ ap₂ ◌⊕◌
      (pair-sum (r * w - p) (down w ρ) (place ((r - m - 1) * w) w ρ) s
      ∙ ap₂ ◌⊕◌ (ap (λ n. pair n (down w ρ) s) split ∙ pair-down w rest ρ s (rw split at c)) (pair_place (r * w - p) ((r - m - 1) * w) w ρ s (omega (arith, whole, mid))))
      (pair_place (r * w - p) ((r - 1) * w) (w - p) z s (omega (arith, whole))))
      (pair_place (r * w - p) ((r - 2) * w + (w - p)) p (λ j. z (w - p + j)) s (omega (arith, whole, next))
      ∙ pair_same p _ _ _ _ (λ _ _. refl) (λ j h. let e : (r - 2) * w + (w - p) + j ≡ (r - 2) * w + (w - p + j) = omega arith in ap s e))
      ∙ sym
      (ap (λ n. pair n ρ (enter w (next4 r m w p a s) s)) split
      ∙ pair-enter w rest ρ _ s
      ∙ ap (λ b. b ⊕ pair rest (λ i. ρ (w + i)) s)
      (pair-sum_r w ρ (word w (r - m - 1) s) _ ∙ ap (λ b. pair w ρ (word w (r - m - 1) s) ⊕ b) (pair-twist w a ρ _ (omega arith) ∙ joined))
      ∙ four (pair rest (λ i. ρ (w + i)) s) _ _ _)

  back4_clear : Clear (r * w - p) (back4 r m w p a ρ)
  unfolding back4 ◌⊻◌
  back4_clear i h =
      rw (
        lowered_clear w (r * w - p) ρ c i h,
        place_past ((r - m - 1) * w) w ρ i (omega (arith, whole, mid)),
        place_past ((r - 1) * w) (w - p) (untwist w a ρ) i (omega (arith, whole)),
        place_past ((r - 2) * w + (w - p)) p (λ j. untwist w a ρ (w - p + j)) i (omega (arith, whole, next)),
      )

pub mersenne-rows : (r m w p L : ℕ) (a : Word) (U S : ℕ) (b : Word) (T : ℕ) (c : Word) (Z : ℕ) → 1 ≤ m → m < r → p < w → L ≤ w → U ≤ w → S ≤ w → T ≤ w → Z ≤ w
    → Transposed (mersenne r m w p L a U S b T c Z) (back4 r m w p a) (λ j. place 0 w (first4 w U S b T c Z j))
unfolding mersenne
mersenne-rows r m w p L a U S b T c Z pm l q o hU hS hT hZ =
    let inside : w ≤ r * w - p = omega (arith, word_in 1 r w (omega arith)) in
    record {
      back_clear = λ ρ h. back4_clear r m w p a ρ ρ pm l q h;
      back_sum = λ ρ s h. back4-sum r m w p a ρ s pm l q h;
      first_clear = λ j h i g. place_past 0 w _ i (omega arith);
      first_sum = λ j s h. first4-sum (r * w - p) w U S b T c Z j s inside hU hS hT hZ (omega arith);
    }

-- kind 3 is kind 4 with p = 0 and right shifts by w
pub twisted-rows : (r m w L : ℕ) (a : Word) (S : ℕ) (b : Word) (T : ℕ) (c : Word) → 1 ≤ w → 1 ≤ m → m < r → L ≤ w → S ≤ w → T ≤ w
    → Transposed (twisted r m w L a S b T c) (back4 r m w 0 a) (λ j. place 0 w (first4 w w S b T c w j))
twisted-rows r m w L a S b T c pw pm l pl hS hT =
    alike_rows (mersenne r m w 0 L a w S b T c w) (twisted r m w L a S b T c) _ _
    (twisted_alike r m w L a a S b b T c c pm l pl (λ _ _. refl) (λ _ _. refl) (λ _ _. refl) pw)
    (mersenne-rows r m w 0 L a w S b T c w pm l pw pl (omega arith) hS hT (omega arith))

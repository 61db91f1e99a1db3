-- Kind 2: the first word added at each word that has its coefficient.
use mathlib.Core.Path.{◌≡◌, sym, ap, ap₂, ◌∙◌}
use mathlib.Core.Bool.{Bool, true, false, ◌&&◌}
use mathlib.Core.List.{List}
use Prim.Native.Nat.{ℕ, ◌+◌, ◌*◌, ◌<◌}
use native.Mathlib.Numerals.{add-one}
use native.Mathlib.Omega.{arith}
use Rattle.theory.specs.Def.{◌⊕◌, xorsum, unit}
use Rattle.theory.specs.Laws.{⊕_assoc, ⊕_false, xorsum_cong}
use Rattle.digits.specs.Def.{Same, Clear, digit, bits_of}
use Rattle.kinds.specs.Generator.{◌⊻◌, gfsr}
use Rattle.kinds.specs.Transpose.{down, place, back2}
use Rattle.kinds.specs.Rows.{gfsr-rows}
use Rattle.kinds.specs.Adjoint.{same_place}
use Rattle.states.specs.Post.{Holds}
use Rattle.running.specs.declared.ready.Gfsr.{Gfsr}
use Rattle.running.specs.Prepared.{machine2}
use Rattle.rows.specs.Post.{FirstRow, BackRow}
use Rattle.rows.proofs.Laws.{from_first, from_back}

-- a choice that was made
module _ (b : Bool) (d : List ℕ) (pos n y : ℕ) where
  pub chosen : (r : List ℕ) → b ≡ true → ((i : ℕ) → bits_of r i ≡ bits_of d i ⊕ place pos n (digit y) i) → (i : ℕ) → bits_of r i ≡ bits_of d i ⊕ b && place pos n (digit y) i
  chosen r e f i = rw e (f i)

  pub not_chosen : b ≡ false → (i : ℕ) → bits_of d i ≡ bits_of d i ⊕ b && place pos n (digit y) i
  not_chosen e i = rw e (sym (⊕_false (bits_of d i)))

-- d is c with the word y added at the first i words that are chosen
pub record Laid (mask : List ℕ) (w y : ℕ) (c d : List ℕ) (i : ℕ) : Type 0 where
  pub bits : (b : ℕ) → bits_of d b ≡ bits_of c b ⊕ xorsum i (λ q. bits_of mask q && place (q * w) w (digit y) b)

pub laid-start : (mask : List ℕ) (w y : ℕ) (c : List ℕ) → Laid mask w y c c 0
unfolding xorsum
laid-start mask w y c = record { bits = λ b. sym (⊕_false _) }

module _ (mask : List ℕ) (w y : ℕ) (c d : List ℕ) where
  laid_step : (t : List ℕ) (i : ℕ) → Laid mask w y c d i → ((b : ℕ) → bits_of t b ≡ bits_of d b ⊕ bits_of mask i && place (i * w) w (digit y) b) → Laid mask w y c t (i + 1)
  unfolding xorsum
  laid_step t i x f = rw add-one (record {
    bits = λ b.
        f b
        ∙ ap (λ a. a ⊕ bits_of mask i && place (i * w) w (digit y) b) (x.bits b)
        ∙ ⊕_assoc (bits_of c b) (xorsum i (λ q. bits_of mask q && place (q * w) w (digit y) b)) (bits_of mask i && place (i * w) w (digit y) b);
  })

  pub laid_chosen : (t : List ℕ) (i : ℕ) → Laid mask w y c d i → bits_of mask i ≡ true → ((b : ℕ) → bits_of t b ≡ bits_of d b ⊕ place (i * w) w (digit y) b) → Laid mask w y c t (i + 1)
  laid_chosen t i x e f = laid_step t i x (λ b. rw e (f b))

  pub laid_not : (i : ℕ) → Laid mask w y c d i → bits_of mask i ≡ false → Laid mask w y c d (i + 1)
  laid_not i x e = laid_step d i x (λ b. rw e (sym (⊕_false (bits_of d b))))

laid_end : (mask row : List ℕ) (r w y : ℕ) (c d : List ℕ) → Holds w (λ j. bits_of row (0 + j)) y → ((b : ℕ) → bits_of c b ≡ down w (bits_of row) b) → Laid mask w y c d r
    → (b : ℕ) → bits_of d b ≡ back2 r w (bits_of mask) (bits_of row) b
unfolding back2 ◌⊻◌
laid_end mask row r w y c d h l x b =
    x.bits b ∙ ap₂ ◌⊕◌ (l b) (xorsum_cong r _ _ (λ q _. ap (λ z. bits_of mask q && z) (same_place (q * w) w (digit y) (bits_of row) first b)))
  where
    first : Same w (digit y) (bits_of row)
    first j g = let o : 0 + j ≡ j = omega arith in h.bits j g ∙ ap (bits_of row) o

module _ (p : Gfsr) where
  pub first2_is : (j : ℕ) (r : List ℕ) → j < p.bits → ((i : ℕ) → bits_of r i ≡ unit j i) → FirstRow (machine2 p) j r
  unfolding gfsr
  first2_is j r l e = from_first (machine2 p) _ _ (gfsr-rows p.r p.w p.bits (bits_of p.mask) p.words.some p.words.bits) j r l e

  pub back2_is : (row c r : List ℕ) (x : ℕ) → Clear (p.r * p.w) (bits_of row) → Holds p.w (λ j. bits_of row (0 + j)) x → ((b : ℕ) → bits_of c b ≡ down p.w (bits_of row) b)
      → Laid p.mask p.w x c r p.r → BackRow (machine2 p) row r
  unfolding gfsr
  back2_is row c r x l h e z =
      from_back (machine2 p) _ _ (gfsr-rows p.r p.w p.bits (bits_of p.mask) p.words.some p.words.bits) row r
      l (laid_end p.mask row p.r p.w x c r h e z)

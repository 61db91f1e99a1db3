-- Two machines that are the same on the bits that count: their outputs are the same from every start state, for every n.
use Rattle.std.specs.Prelude.{◌≡◌, refl, ℕ, ◌-◌, ◌*◌, ◌≤◌, ◌<◌}
use Rattle.std.proofs.Common.{◌∙◌}
use native.Mathlib.Omega.{arith}
use Rattle.digits.specs.Def.{Word, Same}
use Rattle.kinds.specs.Generator.{Machine, output_bit, stepped, word, tausworthe, gfsr, twisted, mersenne}
use Rattle.kinds.specs.Reads.{same_times, same_stepped, same_enter, same_next2, same_next4, same_temper4, same_word, word_in, three_is_four, tempers_alike}

pub record Alike (M N : Machine) : Type 0 where
  pub size : M.size ≡ N.size
  pub width : M.width ≡ N.width
  pub move : (s t : Word) → Same N.size s t → Same N.size (M.move s) (N.move t)
  pub out : (s t : Word) → Same N.size s t → Same N.width (M.out s) (N.out t)

pub alike_output : (M N : Machine) → Alike M N → (n j : ℕ) → j < N.width → (s t : Word) → Same N.size s t → output_bit M n j s ≡ output_bit N n j t
unfolding output_bit
alike_output M N a n j h s t e = a.out _ _ (same_times N.size n M.move N.move a.move s t e) j h

-- ---- each kind: only the first bits of its coefficients and constants are read

pub tausworthe_alike : (k L ν : ℕ) (a b : Word) → 1 ≤ k → Same k a b → Alike (tausworthe k L ν a) (tausworthe k L ν b)
unfolding tausworthe
tausworthe_alike k L ν a b p f =
    let one : (s t : Word) → Same k s t → Same k (stepped k a s) (stepped k b t) = λ s t. same_stepped k a b s t f in
    record { size = refl; width = refl; move = same_times k ν _ _ one; out = λ s t e j _. same_times k j _ _ one s t e 0 (omega arith) }

pub gfsr_alike : (r w L : ℕ) (a b : Word) → 1 ≤ r → L ≤ w → Same r a b → Alike (gfsr r w L a) (gfsr r w L b)
unfolding gfsr
gfsr_alike r w L a b p l f =
    record {
      size = refl;
      width = refl;
      move = λ s t e i h. same_enter w _ _ (same_next2 r w a b s t f e) (r * w) s t e i (omega arith);
      out = λ s t e j h. same_word (r * w) w 0 s t e (omega (arith, word_in 0 r w p)) j (omega arith);
    }

-- what kinds 3 and 4 ask of their numbers
module _ (r m w L : ℕ) (a a' : Word) (S : ℕ) (b b' : Word) (T : ℕ) (c c' : Word) (pm : 1 ≤ m) (l : m < r) (pl : L ≤ w) (ea : Same w a a') (eb : Same w b b') (ec : Same w c c') where
  pub mersenne_alike : (p U Z : ℕ) → p < w → Alike (mersenne r m w p L a U S b T c Z) (mersenne r m w p L a' U S b' T c' Z)
  unfolding mersenne
  mersenne_alike p U Z q =
      record {
        size = refl;
        width = refl;
        move = λ s t e i h. same_enter w _ _ (same_next4 r m w p a a' s t (omega arith) pm l q ea e) (r * w - p) s t e i (omega arith);
        out = λ s t e j h. same_temper4 w U S b b' T c c' Z _ _ eb ec (same_word (r * w - p) w 0 s t e (omega (arith, word_in 1 r w (omega arith)))) j (omega arith);
      }

  -- kind 3 is kind 4 with p = 0 and right shifts by w
  pub twisted_alike : 1 ≤ w → Alike (mersenne r m w 0 L a w S b T c w) (twisted r m w L a' S b' T c')
  unfolding mersenne twisted
  twisted_alike pw =
      let whole : r * w - 0 ≡ r * w = omega arith in
      record {
        size = whole;
        width = refl;
        move = λ s t e i h. same_enter w _ _
            (λ j k. same_next4 r m w 0 a a' s t pw pm l pw ea (rw whole e) j k ∙ three_is_four r m w a' t pw j k)
            (r * w) s t e i (omega arith);
        out = λ s t e j h.
            same_temper4 w w S b b' T c c' w _ _ eb ec (same_word (r * w) w 0 s t e (omega (arith, word_in 0 r w (omega arith)))) j (omega arith)
            ∙ tempers_alike w S b' T c' (word w 0 t) j (omega arith);
      }

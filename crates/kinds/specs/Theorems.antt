-- What is proved of the four kinds: every move and output is linear, bits from k on play no part, and the recurrences of document 01 hold for every n. (That each bit of each
-- output is a sum of bits of the start state is in `proofs/Outputs.antt` and `proofs/Single.antt`.)
use Rattle.std.specs.Prelude.{◌≡◌, refl, Bool, ◌&&◌, ℕ, suc, ◌+◌, ◌-◌, ◌*◌, ◌≤◌, ◌<◌}
use Rattle.std.proofs.Common.{ap, ap₂, ◌∙◌, arith}
use Rattle.theory.specs.Def.{xorsum}
use Rattle.theory.specs.Laws.{xorsum_cong}
use Rattle.digits.specs.Def.{Word, Same}
use Rattle.kinds.specs.Generator.{Machine, times, output_bit, ◌⊻◌, join, twist, temper3, temper4, stepped, word, next2, next3, next4, tausworthe, gfsr, twisted, mersenne}
use Rattle.kinds.specs.Linear.{LinearMachine}
use Rattle.kinds.specs.Linear as L
use Rattle.kinds.specs.Reads.{LocalMachine}
use Rattle.kinds.specs.Reads as R
use Rattle.kinds.specs.Recurrence as N

-- ---- linear, and local

pub tausworthe_linear : (k L ν : ℕ) (a : Word) → LinearMachine (tausworthe k L ν a)
tausworthe_linear = L.tausworthe_linear

pub gfsr_linear : (r w L : ℕ) (a : Word) → LinearMachine (gfsr r w L a)
gfsr_linear = L.gfsr_linear

pub twisted_linear : (r m w L : ℕ) (a : Word) (S : ℕ) (b : Word) (T : ℕ) (c : Word) → LinearMachine (twisted r m w L a S b T c)
twisted_linear = L.twisted_linear

pub mersenne_linear : (r m w p L : ℕ) (a : Word) (U S : ℕ) (b : Word) (T : ℕ) (c : Word) (Z : ℕ) → LinearMachine (mersenne r m w p L a U S b T c Z)
mersenne_linear = L.mersenne_linear

pub tausworthe_local : (k L ν : ℕ) (a : Word) → 1 ≤ k → LocalMachine (tausworthe k L ν a)
tausworthe_local = R.tausworthe_local

pub gfsr_local : (r w L : ℕ) (a : Word) → 1 ≤ r → L ≤ w → LocalMachine (gfsr r w L a)
gfsr_local = R.gfsr_local

pub twisted_local : (r m w L : ℕ) (a : Word) (S : ℕ) (b : Word) (T : ℕ) (c : Word) → 1 ≤ w → m < r → L ≤ w → LocalMachine (twisted r m w L a S b T c)
twisted_local = R.twisted_local

pub mersenne_local : (r m w p L : ℕ) (a : Word) (U S : ℕ) (b : Word) (T : ℕ) (c : Word) (Z : ℕ) → 1 ≤ m → m < r → p < w → L ≤ w → LocalMachine (mersenne r m w p L a U S b T c Z)
mersenne_local = R.mersenne_local

-- each bit of each output is then the same from start states with the same first k bits
pub output_local : (M : Machine) → LocalMachine M → (n j : ℕ) → j < M.width → (s t : Word) → Same M.size s t → output_bit M n j s ≡ output_bit M n j t
output_local = R.output_local

-- ---- kind 1: x_n is the first bit of the state after n steps

module _ (k L ν : ℕ) (a s : Word) where
  abbrev pub x : ℕ → Bool
  x n = times n (stepped k a) s 0

  -- the start state is x_0, .., x_(k-1)
  pub tausworthe-start : (n : ℕ) → n < k → x n ≡ s n
  tausworthe-start = N.bits_start k a s

  -- x_n = a_1·x_(n-1) + .. + a_k·x_(n-k), at n + k for n
  pub tausworthe_recurrence : (n : ℕ) → 1 ≤ k → x (n + k) ≡ xorsum k (λ i. a i && x (n + (k - suc i)))
  tausworthe_recurrence = N.bits_next k a s

  -- bit j of output n is x_(nν+j)
  pub tausworthe-output : (n j : ℕ) → output_bit (tausworthe k L ν a) n j s ≡ x (n * ν + j)
  unfolding output_bit tausworthe
  tausworthe-output = N.bits_output k ν a s

-- ---- kinds 2 to 4: v_n is the first word of the state after n moves, and so the last of its r words after r - 1 moves more

-- The words of the states that the machine M runs through from s: v n is v_(n+1-r), for every n from 0 on.
-- The start state is v_0, v_(-1), .., v_(1-r); the word after r of them is `next`; output n is v_n tempered.
pub record Words (r w : ℕ) (M : Machine) (s : Word) (next : (ℕ → Word) → ℕ → Word) (temper : Word → Word) : Type 0 where
  pub v : ℕ → Word
  pub words : (n : ℕ) → v n ≡ word w (r - 1) (times n M.move s)
  pub start : (n : ℕ) → n < r → v n ≡ word w (r - 1 - n) s
  pub recurrence : (n : ℕ) → Same w (v (n + r)) (next v n)
  pub output : (n j : ℕ) → output_bit M n j s ≡ temper (v (n + (r - 1))) j

-- v_n = a_1·v_(n-1) + .. + a_r·v_(n-r)
pub gfsr_words : (r w L : ℕ) (a s : Word) → 1 ≤ r → Words r w (gfsr r w L a) s (λ v n j. xorsum r (λ i. a i && v (n + (r - suc i)) j)) (λ x. x)
unfolding gfsr output_bit next2
gfsr_words r w L a s p =
    record {
      v = λ n. word w (r - 1) (times n (gfsr r w L a).move s);
      words = λ n. refl;
      start = N.words_start w (next2 r w a) s r;
      recurrence = λ n j h.
          N.last_word w (next2 r w a) s r n p j h
          ∙ xorsum_cong r _ _ (λ i l. let e : i ≡ r - 1 - (r - suc i) = omega arith in
          ap (λ x. a i && x j) (ap (λ q. word w q (times n (gfsr r w L a).move s)) e ∙ N.before_last w (next2 r w a) s r (r - suc i) n (omega arith)));
      output = λ n j. ap (λ x. x j) (N.first_is_last w (next2 r w a) s r n p);
    }

-- v_n = v_(n+m-r) + A·v_(n-r)
pub twisted_words : (r m w L : ℕ) (a : Word) (S : ℕ) (b : Word) (T : ℕ) (c s : Word) → m < r
    → Words r w (twisted r m w L a S b T c) s (λ v n. v (n + m) ⊻ twist w a (v n)) (temper3 w S b T c)
unfolding twisted output_bit next3
twisted_words r m w L a S b T c s l =
    record {
      v = λ n. word w (r - 1) (times n (twisted r m w L a S b T c).move s);
      words = λ n. refl;
      start = N.words_start w (next3 r m w a) s r;
      recurrence = λ n j h.
          let e : r - m - 1 ≡ r - 1 - m = omega arith in
          N.last_word w (next3 r m w a) s r n (omega arith) j h
          ∙ ap (λ x. ◌⊻◌ x (twist w a (word w (r - 1) (times n (twisted r m w L a S b T c).move s))) j)
          (ap (λ q. word w q (times n (twisted r m w L a S b T c).move s)) e ∙ N.before_last w (next3 r m w a) s r m n l);
      output = λ n j. ap (λ x. temper3 w S b T c x j) (N.first_is_last w (next3 r m w a) s r n (omega arith));
    }

-- v_n = v_(n+m-r) + A·(first w - p bits of v_(n-r), then last p bits of v_(n-r+1))
pub mersenne_words : (r m w p L : ℕ) (a : Word) (U S : ℕ) (b : Word) (T : ℕ) (c : Word) (Z : ℕ) (s : Word) → 1 ≤ m → m < r
    → Words r w (mersenne r m w p L a U S b T c Z) s (λ v n. v (n + m) ⊻ twist w a (join (w - p) (v n) (v (n + 1)))) (temper4 w U S b T c Z)
unfolding mersenne output_bit next4
mersenne_words r m w p L a U S b T c Z s pm l =
    let run : ℕ → Word = λ n. times n (mersenne r m w p L a U S b T c Z).move s in
    record {
      v = λ n. word w (r - 1) (run n);
      words = λ n. refl;
      start = N.words_start w (next4 r m w p a) s r;
      recurrence = λ n j h.
          let e : r - m - 1 ≡ r - 1 - m = omega arith in
          let f : r - 2 ≡ r - 1 - 1 = omega arith in
          N.last_word w (next4 r m w p a) s r n (omega arith) j h
          ∙ ap₂ (λ x y. ◌⊻◌ x (twist w a (join (w - p) (word w (r - 1) (run n)) y)) j)
          (ap (λ q. word w q (run n)) e ∙ N.before_last w (next4 r m w p a) s r m n l)
          (ap (λ q. word w q (run n)) f ∙ N.before_last w (next4 r m w p a) s r 1 n (omega arith));
      output = λ n j. ap (λ x. temper4 w U S b T c Z x j) (N.first_is_last w (next4 r m w p a) s r n (omega arith));
    }

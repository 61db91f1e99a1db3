-- What a move and an output read: of a word of w bits the first w, of a state of k bits the first k.
use Rattle.std.specs.Prelude.{◌≡◌, refl, Bool, cond, ℕ, zero, suc, ◌+◌, ◌-◌, ◌*◌, ◌≤◌, ◌<◌, ltb}
use Rattle.std.proofs.Common.{ap, ◌∙◌, mul-le-mul_right, suc-mul, arith, lt-ltb, le-ltb}
use Rattle.std.proofs.Math.Path.{ap₂}
use Rattle.std.proofs.Math.Bool.{◌&&◌}
use Rattle.std.proofs.Math.Logic.{by_cases}
use Rattle.std.proofs.Math.Decide.{dec_lt}
use Rattle.theory.specs.Def.{◌⊕◌}
use Rattle.theory.specs.Laws.{xorsum_cong, ⊕_false}
use Rattle.digits.specs.Def.{Word, Same}
use Rattle.kinds.specs.Generator.{Machine, times, output_bit, ◌⊻◌, masked, right, left, join, twist, add_left, add_right, temper3, temper4, next_bit, stepped, word, enter, next2, next3, next4, tausworthe, gfsr, twisted, mersenne}

-- a choice by a place, where each side need only agree if it is taken
pub same_cond : (i n : ℕ) {x y z u : Bool} → (i < n → x ≡ y) → (n ≤ i → z ≡ u) → cond (ltb i n) x z ≡ cond (ltb i n) y u
same_cond i n f g =
    by_cases (dec_lt i n) (λ h. rw (lt-ltb i n h) (f h)) (λ h. let l : n ≤ i = omega arith in rw (le-ltb i n l) (g l))

-- ---- words of w bits

module _ (w : ℕ) (x y : Word) (e : Same w x y) where
  pub same_right : (u : ℕ) → Same w (right u x) (right u y)
  unfolding right
  same_right u j h = same_cond j u (λ _. refl) (λ l. e (j - u) (omega arith))

  pub same_left : (u : ℕ) → Same w (left w u x) (left w u y)
  unfolding left
  same_left u j h = same_cond (j + u) w (λ l. e (j + u) l) (λ _. refl)

  pub same_sum : (z u : Word) → Same w z u → Same w (x ⊻ z) (y ⊻ u)
  unfolding ◌⊻◌
  same_sum z u f j h = ap₂ ◌⊕◌ (e j h) (f j h)

  pub same_twist : (a b : Word) → Same w a b → 1 ≤ w → Same w (twist w a x) (twist w b y)
  unfolding twist ◌⊻◌
  same_twist a b f p j h = ap₂ ◌⊕◌ (same_right 1 j h) (ap₂ ◌&&◌ (f j h) (e _ (omega arith)))

  pub same_add_left : (u : ℕ) (a b : Word) → Same w a b → Same w (add_left w u a x) (add_left w u b y)
  unfolding add_left ◌⊻◌ masked
  same_add_left u a b f j h = ap₂ ◌⊕◌ (e j h) (ap₂ ◌&&◌ (f j h) (same_left u j h))

  pub same_add_right : (u : ℕ) → Same w (add_right u x) (add_right u y)
  unfolding add_right ◌⊻◌
  same_add_right u j h = ap₂ ◌⊕◌ (e j h) (same_right u j h)

  -- a new word enters: n bits are known before, n + w after
  pub same_enter : (n : ℕ) (s t : Word) → Same n s t → Same (n + w) (enter w x s) (enter w y t)
  unfolding enter
  same_enter n s t f i h = same_cond i w (e i) (λ l. f (i - w) (omega arith))

  pub same_join : (n : ℕ) (z u : Word) → Same w z u → Same w (join n x z) (join n y u)
  unfolding join
  same_join n z u f j h = same_cond j n (λ _. e j h) (λ _. f j h)

pub same_temper3 : (w S : ℕ) (b b' : Word) (T : ℕ) (c c' x y : Word) → Same w b b' → Same w c c' → Same w x y → Same w (temper3 w S b T c x) (temper3 w S b' T c' y)
unfolding temper3
same_temper3 w S b b' T c c' x y f g e = same_add_left w _ _ (same_add_left w x y e S b b' f) T c c' g

pub same_temper4 : (w U S : ℕ) (b b' : Word) (T : ℕ) (c c' : Word) (Z : ℕ) (x y : Word) → Same w b b' → Same w c c' → Same w x y
    → Same w (temper4 w U S b T c Z x) (temper4 w U S b' T c' Z y)
unfolding temper4
same_temper4 w U S b b' T c c' Z x y f g e = same_add_right w _ _ (same_temper3 w S b b' T c c' _ _ f g (same_add_right w x y e U)) Z

-- ---- a word of the state

-- the word q lies within r words
pub word_in : (q r w : ℕ) → q < r → q * w + w ≤ r * w
word_in q r w h = omega (arith, mul-le-mul_right w h, suc-mul q w)

pub same_word : (k w q : ℕ) (s t : Word) → Same k s t → q * w + w ≤ k → Same w (word w q s) (word w q t)
unfolding word
same_word k w q s t e l j h = e (q * w + j) (omega arith)

-- ---- the new words

pub same_next2 : (r w : ℕ) (a b s t : Word) → Same r a b → Same (r * w) s t → Same w (next2 r w a s) (next2 r w b t)
unfolding next2
same_next2 r w a b s t f e j h = xorsum_cong r _ _ (λ i l. ap₂ ◌&&◌ (f i l) (same_word (r * w) w i s t e (word_in i r w l) j h))

pub same_next3 : (r m w : ℕ) (a b s t : Word) → 1 ≤ w → m < r → Same w a b → Same (r * w) s t → Same w (next3 r m w a s) (next3 r m w b t)
unfolding next3
same_next3 r m w a b s t pw l f e =
    same_sum w _ _ (same_word (r * w) w (r - m - 1) s t e (word_in (r - m - 1) r w (omega arith))) _ _
    (same_twist w _ _ (same_word (r * w) w (r - 1) s t e (word_in (r - 1) r w (omega arith))) a b f pw)

-- kind 4 has no last p bits of its last word, and reads none
pub same_next4 : (r m w p : ℕ) (a b s t : Word) → 1 ≤ w → 1 ≤ m → m < r → p < w → Same w a b → Same (r * w - p) s t → Same w (next4 r m w p a s) (next4 r m w p b t)
unfolding next4 join word ◌⊻◌
same_next4 r m w p a b s t pw pm l q f e j k =
    let whole : (r - 1) * w + w ≤ r * w = word_in (r - 1) r w (omega arith) in
    let next : (r - 2) * w + w ≤ (r - 1) * w = word_in (r - 2) (r - 1) w (omega arith) in
    let mid : (r - m - 1) * w + w ≤ (r - 1) * w = word_in (r - m - 1) (r - 1) w (omega arith) in
    ap₂ ◌⊕◌ (e ((r - m - 1) * w + j) (omega arith))
    (same_twist w _ _
    (λ j k. same_cond j (w - p) (λ o. e ((r - 1) * w + j) (omega arith)) (λ o. e ((r - 2) * w + j) (omega arith)))
    a b f pw j k)

pub same_stepped : (k : ℕ) (a b s t : Word) → Same k a b → Same k s t → Same k (stepped k a s) (stepped k b t)
unfolding stepped next_bit
same_stepped k a b s t f e i h =
    same_cond (suc i) k (λ l. e (suc i) l) (λ l. xorsum_cong k _ _ (λ j g. ap₂ ◌&&◌ (f j g) (e (k - suc j) (omega arith))))

pub same_times : (k n : ℕ) (f g : Word → Word) → ((s t : Word) → Same k s t → Same k (f s) (g t)) → (s t : Word) → Same k s t → Same k (times n f s) (times n g t)
unfolding times
same_times k zero f g h s t e = e
same_times k (suc n) f g h s t e = h (times n f s) (times n g t) (same_times k n f g h s t e)

-- ---- the machines

-- bits from k on play no part: the move and the output read the first k bits of the state
pub record LocalMachine (M : Machine) : Type 0 where
  pub move : (s t : Word) → Same M.size s t → Same M.size (M.move s) (M.move t)
  pub out : (s t : Word) → Same M.size s t → Same M.width (M.out s) (M.out t)

entered : (k w : ℕ) (new : Word → Word) → ((s t : Word) → Same k s t → Same w (new s) (new t)) → (s t : Word) → Same k s t → Same k (enter w (new s) s) (enter w (new t) t)
entered k w new h s t e i l = same_enter w (new s) (new t) (h s t e) k s t e i (omega arith)

pub tausworthe_local : (k L ν : ℕ) (a : Word) → 1 ≤ k → LocalMachine (tausworthe k L ν a)
unfolding tausworthe
tausworthe_local k L ν a p =
    record {
      move = same_times k ν _ _ one;
      out = λ s t e j _. same_times k j _ _ one s t e 0 (omega arith);
    }
  where
    one : (s t : Word) → Same k s t → Same k (stepped k a s) (stepped k a t)
    one s t = same_stepped k a a s t (λ _ _. refl)

first_word : (k w L : ℕ) (s t : Word) → w ≤ k → Same k s t → Same w (word w 0 s) (word w 0 t)
first_word k w L s t h e = same_word k w 0 s t e (omega arith)

pub gfsr_local : (r w L : ℕ) (a : Word) → 1 ≤ r → L ≤ w → LocalMachine (gfsr r w L a)
unfolding gfsr
gfsr_local r w L a pr pl =
    record {
      move = entered (r * w) w _ (λ s t. same_next2 r w a a s t (λ _ _. refl));
      out = λ s t e j h. first_word (r * w) w L s t (omega (arith, word_in 0 r w pr)) e j (omega arith);
    }

pub twisted_local : (r m w L : ℕ) (a : Word) (S : ℕ) (b : Word) (T : ℕ) (c : Word) → 1 ≤ w → m < r → L ≤ w → LocalMachine (twisted r m w L a S b T c)
unfolding twisted
twisted_local r m w L a S b T c pw l pl =
    record {
      move = entered (r * w) w _ (λ s t. same_next3 r m w a a s t pw l (λ _ _. refl));
      out = λ s t e j h.
          same_temper3 w S b b T c c _ _ (λ _ _. refl) (λ _ _. refl) (first_word (r * w) w L s t (omega (arith, word_in 0 r w (omega arith))) e) j (omega arith);
    }

pub mersenne_local : (r m w p L : ℕ) (a : Word) (U S : ℕ) (b : Word) (T : ℕ) (c : Word) (Z : ℕ) → 1 ≤ m → m < r → p < w → L ≤ w → LocalMachine (mersenne r m w p L a U S b T c Z)
unfolding mersenne
mersenne_local r m w p L a U S b T c Z pm l q pl =
    record {
      move = entered (r * w - p) w _ (λ s t. same_next4 r m w p a a s t (omega arith) pm l q (λ _ _. refl));
      out = λ s t e j h.
          same_temper4 w U S b b T c c Z _ _ (λ _ _. refl) (λ _ _. refl) (first_word (r * w - p) w L s t (omega (arith, word_in 1 r w (omega arith))) e) j (omega arith);
    }

pub output_local : (M : Machine) → LocalMachine M → (n j : ℕ) → j < M.width → (s t : Word) → Same M.size s t → output_bit M n j s ≡ output_bit M n j t
unfolding output_bit
output_local M l n j h s t e = l.out _ _ (same_times M.size _ _ _ l.move s t e) j h

-- ---- kind 3 is kind 4 with p = 0 and right shifts by w

pub three_is_four : (r m w : ℕ) (a s : Word) → 1 ≤ w → Same w (next4 r m w 0 a s) (next3 r m w a s)
unfolding next4 next3 join ◌⊻◌
three_is_four r m w a s p j h =
    ap (λ x. word w (r - m - 1) s j ⊕ x)
    (same_twist w _ (word w (r - 1) s) (λ j k. let g : j < w - 0 = omega arith in rw (lt-ltb j (w - 0) g)) a a (λ _ _. refl) p j h)

add_right-all : (w : ℕ) (x : Word) → Same w (add_right w x) x
unfolding add_right right ◌⊻◌
add_right-all w x j h = rw (lt-ltb j w h) (⊕_false (x j))

pub tempers_alike : (w S : ℕ) (b : Word) (T : ℕ) (c x : Word) → Same w (temper4 w w S b T c w x) (temper3 w S b T c x)
unfolding temper4
tempers_alike w S b T c x j h = add_right-all w _ j h ∙ same_temper3 w S b b T c c _ x (λ _ _. refl) (λ _ _. refl) (add_right-all w x) j h

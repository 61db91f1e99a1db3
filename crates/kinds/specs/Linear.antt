-- Each move and each output is linear: an algebra of linear maps, and a line for each definition. (`proofs/Outputs.antt`: so are the bits of outputs.)
use Rattle.std.specs.Prelude.{◌≡◌, refl, Bool, true, false, ◌&&◌, cond, ℕ, zero, suc, ◌+◌, ◌-◌, ◌*◌, ltb}
use Rattle.std.proofs.Common.{ap, ap₂, ◌∙◌}
use Rattle.std.proofs.Math.Path.{fun_ext}
use Rattle.theory.specs.Def.{◌⊕◌, xorsum}
use Rattle.theory.specs.Laws.{⊕_swap, and-⊕, xorsum-⊕, xorsum_cong}
use Rattle.digits.specs.Def.{Word}
use Rattle.kinds.specs.Generator.{Machine, times, ◌⊻◌, masked, right, left, join, twist, add_left, add_right, temper3, temper4, next_bit, stepped, word, enter, next2, next3, next4, tausworthe, gfsr, twisted, mersenne}

-- a map of words that keeps sums
abbrev pub Lin : (Word → Word) → Type 0
Lin f = (s t : Word) → f (s ⊻ t) ≡ f s ⊻ f t

cond-⊕ : (b x y z u : Bool) → cond b (x ⊕ y) (z ⊕ u) ≡ cond b x z ⊕ cond b y u
cond-⊕ true x y z u = refl
cond-⊕ false x y z u = refl

-- ---- the algebra

lin_sum : (f g : Word → Word) → Lin f → Lin g → Lin (λ s. f s ⊻ g s)
unfolding ◌⊻◌
lin_sum f g l m s t = fun_ext (λ j. ap₂ (λ x y. x j ⊕ y j) (l s t) (m s t) ∙ ⊕_swap (f s j) (f t j) (g s j) (g t j))

pub lin_then : (f g : Word → Word) → Lin f → Lin g → Lin (λ s. f (g s))
lin_then f g l m s t = ap f (m s t) ∙ l (g s) (g t)

-- bits of two linear words, picked by their places
lin_cond : (b : ℕ → Bool) (f g : Word → Word) → Lin f → Lin g → Lin (λ s j. cond (b j) (f s j) (g s j))
unfolding ◌⊻◌
lin_cond b f g l m s t = fun_ext (λ j. ap₂ (λ x y. cond (b j) (x j) (y j)) (l s t) (m s t) ∙ cond-⊕ (b j) (f s j) (f t j) (g s j) (g t j))

-- bits of the state, each times a constant
lin_pick : (b : Word) (p : ℕ → ℕ) → Lin (λ s j. b j && s (p j))
unfolding ◌⊻◌
lin_pick b p s t = fun_ext (λ j. and-⊕ (b j) (s (p j)) (t (p j)))

lin_at : (p : ℕ → ℕ) → Lin (λ s j. s (p j))
unfolding ◌⊻◌
lin_at p s t = refl

lin_none : Lin (λ s j. false)
unfolding ◌⊻◌
lin_none s t = refl

lin_id : Lin (λ x. x)
lin_id s t = refl

pub lin_times : (n : ℕ) (f : Word → Word) → Lin f → Lin (times n f)
unfolding times
lin_times zero f l = lin_id
lin_times (suc n) f l = lin_then _ _ l (lin_times n f l)

-- ---- words and tempering

lin_right : (u : ℕ) → Lin (right u)
unfolding right
lin_right u = lin_cond (λ j. ltb j u) (λ x j. false) (λ x j. x (j - u)) lin_none (lin_at (λ j. j - u))

lin_left : (w u : ℕ) → Lin (left w u)
unfolding left
lin_left w u = lin_cond (λ j. ltb (j + u) w) (λ x j. x (j + u)) (λ x j. false) (lin_at (λ j. j + u)) lin_none

lin_masked : (b : Word) → Lin (masked b)
unfolding masked
lin_masked b = lin_pick b (λ j. j)

lin_join : (n : ℕ) (f g : Word → Word) → Lin f → Lin g → Lin (λ s. join n (f s) (g s))
unfolding join
lin_join n f g = lin_cond (λ j. ltb j n) f g

lin_twist : (w : ℕ) (a : Word) → Lin (twist w a)
unfolding twist
lin_twist w a = lin_sum _ _ (lin_right 1) (lin_pick a _)

lin_add_left : (w u : ℕ) (b : Word) → Lin (add_left w u b)
unfolding add_left
lin_add_left w u b = lin_sum (λ x. x) (λ x. masked b (left w u x)) lin_id (lin_then (masked b) (left w u) (lin_masked b) (lin_left w u))

lin_add_right : (u : ℕ) → Lin (add_right u)
unfolding add_right
lin_add_right u = lin_sum (λ x. x) (right u) lin_id (lin_right u)

lin_temper3 : (w S : ℕ) (b : Word) (T : ℕ) (c : Word) → Lin (temper3 w S b T c)
unfolding temper3
lin_temper3 w S b T c = lin_then (add_left w T c) (add_left w S b) (lin_add_left w T c) (lin_add_left w S b)

lin_temper4 : (w U S : ℕ) (b : Word) (T : ℕ) (c : Word) (Z : ℕ) → Lin (temper4 w U S b T c Z)
unfolding temper4
lin_temper4 w U S b T c Z = lin_then _ _ (lin_add_right Z) (lin_then _ _ (lin_temper3 w S b T c) (lin_add_right U))

lin_word : (w q : ℕ) → Lin (word w q)
unfolding word
lin_word w q = lin_at (λ j. q * w + j)

lin_enter : (w : ℕ) (new : Word → Word) → Lin new → Lin (λ s. enter w (new s) s)
unfolding enter
lin_enter w new l = lin_cond (λ i. ltb i w) new (λ s i. s (i - w)) l (lin_at (λ i. i - w))

lin_next2 : (r w : ℕ) (a : Word) → Lin (next2 r w a)
unfolding next2 word ◌⊻◌
lin_next2 r w a s t =
    fun_ext (λ j. xorsum_cong r _ _ (λ i _. and-⊕ (a i) (s (i * w + j)) (t (i * w + j))) ∙ xorsum-⊕ r (λ i. a i && s (i * w + j)) (λ i. a i && t (i * w + j)))

lin_next3 : (r m w : ℕ) (a : Word) → Lin (next3 r m w a)
unfolding next3
lin_next3 r m w a = lin_sum _ _ (lin_word w (r - m - 1)) (lin_then _ _ (lin_twist w a) (lin_word w (r - 1)))

lin_next4 : (r m w p : ℕ) (a : Word) → Lin (next4 r m w p a)
unfolding next4
lin_next4 r m w p a = lin_sum _ _ (lin_word w (r - m - 1)) (lin_then _ _ (lin_twist w a) (lin_join (w - p) _ _ (lin_word w (r - 1)) (lin_word w (r - 2))))

lin_stepped : (k : ℕ) (a : Word) → Lin (stepped k a)
unfolding stepped next_bit ◌⊻◌
lin_stepped k a =
    lin_cond (λ i. ltb (suc i) k) (λ s i. s (suc i)) (λ s i. next_bit k a s) (lin_at suc)
    (λ s t. fun_ext (λ i. ap (xorsum k) (lin_pick a (λ i. k - suc i) s t) ∙ xorsum-⊕ k (λ i. a i && s (k - suc i)) (λ i. a i && t (k - suc i))))

-- ---- the machines

-- a machine whose move and output keep sums
pub record LinearMachine (M : Machine) : Type 0 where
  pub move : Lin M.move
  pub out : Lin M.out

pub tausworthe_linear : (k L ν : ℕ) (a : Word) → LinearMachine (tausworthe k L ν a)
unfolding tausworthe ◌⊻◌
tausworthe_linear k L ν a =
    record {
      move = lin_times ν (stepped k a) (lin_stepped k a);
      out = λ s t. fun_ext (λ j. ap (λ x. x 0) (lin_times j (stepped k a) (lin_stepped k a) s t));
    }

pub gfsr_linear : (r w L : ℕ) (a : Word) → LinearMachine (gfsr r w L a)
unfolding gfsr
gfsr_linear r w L a = record { move = lin_enter w _ (lin_next2 r w a); out = lin_word w 0 }

pub twisted_linear : (r m w L : ℕ) (a : Word) (S : ℕ) (b : Word) (T : ℕ) (c : Word) → LinearMachine (twisted r m w L a S b T c)
unfolding twisted
twisted_linear r m w L a S b T c =
    record { move = lin_enter w _ (lin_next3 r m w a); out = lin_then _ _ (lin_temper3 w S b T c) (lin_word w 0) }

pub mersenne_linear : (r m w p L : ℕ) (a : Word) (U S : ℕ) (b : Word) (T : ℕ) (c : Word) (Z : ℕ) → LinearMachine (mersenne r m w p L a U S b T c Z)
unfolding mersenne
mersenne_linear r m w p L a U S b T c Z =
    record { move = lin_enter w _ (lin_next4 r m w p a); out = lin_then _ _ (lin_temper4 w U S b T c Z) (lin_word w 0) }

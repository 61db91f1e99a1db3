-- The proofs that the recurrences of document 01 hold of the states that are run through, for every n.
use Rattle.std.specs.Prelude.{◌≡◌, refl, ◌&&◌}
use Rattle.std.proofs.Math.Path.{sym, ap, fun_ext}
use Rattle.std.proofs.Common.{◌∙◌}
use Prim.Native.Nat.{ℕ, zero, suc, ◌+◌, ◌-◌, ◌*◌, ◌≤◌, ◌<◌}
use Rattle.std.proofs.Math.Nat.{suc-mul, add-zero, add-suc}
use native.Mathlib.Omega.{arith}
use borrow.Author.Tests.{lt-ltb, le-ltb}
use Rattle.theory.specs.Def.{xorsum}
use Rattle.theory.specs.Laws.{xorsum_cong}
use Rattle.digits.specs.Def.{Word, Same}
use Rattle.kinds.specs.Generator.{times, next_bit, stepped, word, enter}

pub times-add : (m n : ℕ) (f : Word → Word) (s : Word) → times (m + n) f s ≡ times m f (times n f s)
unfolding times
times-add zero n f s = let e : zero + n ≡ n = omega arith in rw e
times-add (suc m) n f s = let e : suc m + n ≡ suc (m + n) = omega arith in rw e (ap f (times-add m n f s))

pub times-first : (n : ℕ) (f : Word → Word) (s : Word) → times (suc n) f s ≡ times n f (f s)
unfolding times
times-first zero f s = refl
times-first (suc n) f s = ap f (times-first n f s)

times-mul : (n ν : ℕ) (f : Word → Word) (s : Word) → times n (times ν f) s ≡ times (n * ν) f s
unfolding times
times-mul zero ν f s = let e : zero * ν ≡ 0 = omega arith in rw e
times-mul (suc n) ν f s =
    let e : suc n * ν ≡ ν + n * ν = omega (arith, suc-mul n ν) in
    rw e (ap (times ν f) (times-mul n ν f s) ∙ sym (times-add ν (n * ν) f s))

-- ---- kind 1

module _ (k : ℕ) (a s : Word) where
  one_down : (n i : ℕ) → suc i < k → times (suc n) (stepped k a) s i ≡ times n (stepped k a) s (suc i)
  unfolding times stepped
  one_down n i h = rw (lt-ltb (suc i) k h)

  -- bit i of the state after n steps is x_(n+i)
  shift : (n i : ℕ) → i < k → times n (stepped k a) s i ≡ times (n + i) (stepped k a) s 0
  shift n zero h = rw add-zero
  shift n (suc i) h =
      let e : suc n + i ≡ n + suc i = omega arith in
      sym (one_down n i h) ∙ shift (suc n) i (omega arith) ∙ ap (λ m. times m (stepped k a) s 0) e

  pub bits_start : (n : ℕ) → n < k → times n (stepped k a) s 0 ≡ s n
  unfolding times
  bits_start n h = let e : 0 + n ≡ n = omega arith in sym (shift 0 n h ∙ ap (λ m. times m (stepped k a) s 0) e)

  last_bit : (n : ℕ) → 1 ≤ k → times (suc n) (stepped k a) s (k - 1) ≡ next_bit k a (times n (stepped k a) s)
  unfolding times stepped
  last_bit n p = let l : k ≤ suc (k - 1) = omega arith in rw (le-ltb (suc (k - 1)) k l)

  pub bits_next : (n : ℕ) → 1 ≤ k → times (n + k) (stepped k a) s 0 ≡ xorsum k (λ i. a i && times (n + (k - suc i)) (stepped k a) s 0)
  unfolding next_bit
  bits_next n p =
      let e : n + k ≡ suc n + (k - 1) = omega arith in
      ap (λ m. times m (stepped k a) s 0) e ∙ sym (shift (suc n) (k - 1) (omega arith)) ∙ last_bit n p
      ∙ xorsum_cong k _ _ (λ i h. ap (λ b. a i && b) (shift n (k - suc i) (omega arith)))

pub bits_output : (k ν : ℕ) (a s : Word) (n j : ℕ) → times j (stepped k a) (times n (times ν (stepped k a)) s) 0 ≡ times (n * ν + j) (stepped k a) s 0
bits_output k ν a s n j =
    let e : j + n * ν ≡ n * ν + j = omega arith in
    ap (λ t. times j (stepped k a) t 0) (times-mul n ν (stepped k a) s)
    ∙ ap (λ t. t 0) (sym (times-add j (n * ν) (stepped k a) s))
    ∙ ap (λ m. times m (stepped k a) s 0) e

-- ---- kinds 2 to 4: any move that lets a new word enter

module _ (w : ℕ) (new : Word → Word) (s : Word) where
  abbrev run : ℕ → Word
  run n = times n (λ s. enter w (new s) s) s

  entered : (q : ℕ) (x t : Word) → word w (suc q) (enter w x t) ≡ word w q t
  unfolding word enter
  entered q x t = fun_ext (λ j.
      let e : suc q * w + j - w ≡ q * w + j = omega (arith, suc-mul q w) in
      let l : w ≤ suc q * w + j = omega (arith, suc-mul q w) in
      rw (le-ltb (suc q * w + j) w l, e))

  -- the word q of a state is the word q + d of the state d moves later
  pub moved_along : (d q n : ℕ) → word w (q + d) (run (n + d)) ≡ word w q (run n)
  unfolding times
  moved_along zero q n = rw (add-zero q, add-zero n)
  moved_along (suc d) q n = rw (add-suc q d, add-suc n d) (entered (q + d) _ _ ∙ moved_along d q n)

  -- the new word stands in front after the move
  front : (n j : ℕ) → j < w → word w 0 (run (suc n)) j ≡ new (run n) j
  unfolding times word enter
  front n j h = let e : 0 * w + j ≡ j = omega arith in rw (e, lt-ltb j w h)

  -- and is the last of r words r moves later
  pub last_word : (r n : ℕ) → 1 ≤ r → Same w (word w (r - 1) (run (n + r))) (new (run n))
  last_word r n p j h =
      let e : n + r ≡ suc n + (r - 1) = omega arith in
      let f : r - 1 ≡ 0 + (r - 1) = omega arith in
      ap (λ m. word w (r - 1) (run m) j) e
      ∙ ap (λ q. word w q (run (suc n + (r - 1))) j) f
      ∙ ap (λ x. x j) (moved_along (r - 1) 0 (suc n))
      ∙ front n j h

  -- the word m before the last is the last m moves later; the last is counted from 1 - r
  pub before_last : (r m n : ℕ) → m < r → word w (r - 1 - m) (run n) ≡ word w (r - 1) (run (n + m))
  before_last r m n h =
      let e : r - 1 ≡ (r - 1 - m) + m = omega arith in
      sym (ap (λ i. word w i (run (n + m))) e ∙ moved_along m (r - 1 - m) n)

  -- the r words of the start
  pub words_start : (r n : ℕ) → n < r → word w (r - 1) (run n) ≡ word w (r - 1 - n) s
  unfolding times
  words_start r n h =
      let e : n ≡ 0 + n = omega arith in
      ap (λ i. word w (r - 1) (run i)) e ∙ sym (before_last r n 0 h)

  pub first_is_last : (r n : ℕ) → 1 ≤ r → word w 0 (run n) ≡ word w (r - 1) (run (n + (r - 1)))
  first_is_last r n h =
      let e : 0 ≡ r - 1 - (r - 1) = omega arith in
      ap (λ i. word w i (run n)) e ∙ before_last r (r - 1) n (omega arith)

-- Kind 1: a step, many steps, and the output's bits one by one.
use mathlib.Core.Path.{◌≡◌, refl, sym, ap, ap₂, ◌∙◌}
use mathlib.Core.Bool.{Bool, true, false, not, ◌&&◌, cond}
use mathlib.Core.List.{List}
use mathlib.Core.Logic.{by_cases}
use native.Mathlib.Decide.{dec_lt}
use Prim.Native.Nat.{ℕ, suc, ◌+◌, ◌-◌, ◌*◌, ◌/◌, ◌%◌, ◌^◌, ◌≤◌, ◌<◌}
use native.Mathlib.Nat.{lt_of_lt_of_le}
use native.Mathlib.Numerals.{add-one}
use native.Mathlib.Omega.{arith}
use lib.Pow.{pow_mono}
use lib.ListN.{get_or}
use borrow.Author.Tests.{lt-ltb, le-ltb}
use Rattle.theory.specs.Def.{◌⊕◌, xorsum, pair}
use Rattle.theory.specs.Laws.{⊕_same}
use Rattle.theory.specs.Sums.{pair_same, pair_cut}
use Rattle.digits.specs.Def.{Word, Same, Clear, digit, bits_of, number_of}
use Rattle.digits.specs.Laws.{number_below}
use Rattle.kinds.specs.Generator.{next_bit, stepped, times}
use Rattle.kinds.specs.Reads.{same_stepped}
use Rattle.kinds.specs.Transpose.{down, taps}
use Rattle.kinds.specs.Adjoint.{taps-sum}
use Rattle.kinds.specs.Recurrence.{bits_start}
use Rattle.states.specs.Post.{Flipped, Holds, state_bits}
use Rattle.running.specs.Ranges.{Mask}
use Rattle.running.specs.Prepared.{Stepped, tapped}
use Rattle.running.specs.Ready.{same_bits}
use Rattle.running.proofs.Numbers.{bit-number}

-- the taps of the coefficients of a mask are its bits
pub tapped_below : (k : ℕ) (mask : Word) → Same k mask (taps k (tapped k mask))
unfolding taps tapped
tapped_below k mask i h = let e : i ≡ k - suc (k - suc i) = omega arith in rw (lt-ltb i k h) (ap mask e)

-- the sum over the mask is the new bit and the bit k
mask_sum : (n k : ℕ) (mask s : Word) → k < n → mask k ≡ true → Clear (suc k) mask → xorsum n (λ i. mask i && s i) ≡ next_bit k (tapped k mask) s ⊕ s k
unfolding pair xorsum
mask_sum n k mask s l e c =
    pair_cut (suc k) n mask s l (λ b h _. c b h)
    ∙ ap₂ ◌⊕◌ (pair_same k mask (taps k (tapped k mask)) s s (tapped_below k mask) (λ _ _. refl) ∙ taps-sum k (tapped k mask) s) (ap (λ b. b && s k) e)

other_bit : (a b : Bool) → a ⊕ b ≡ true → not b ≡ a
other_bit true true e = e
other_bit true false e = refl
other_bit false true e = refl
other_bit false false e = sym e

module _ (k : ℕ) (mask s r : List ℕ) (c : Mask k mask) (lowers : (i : ℕ) → bits_of r i ≡ down 1 (bits_of s) i) where
  abbrev sum : Bool
  sum = xorsum state_bits (λ j. bits_of mask j && bits_of s j)

  abbrev new : Bool
  new = next_bit k (tapped k (bits_of mask)) (bits_of s)

  sum_is : sum ≡ new ⊕ bits_of s k
  sum_is = mask_sum state_bits k (bits_of mask) (bits_of s) (omega (arith, c.most)) c.at c.past

  -- what is to stand below k
  one_step : (t : List ℕ) → ((i : ℕ) → suc i < k → bits_of t i ≡ bits_of s (suc i)) → bits_of t (k - 1) ≡ new → Stepped k mask 1 s t
  unfolding times stepped
  one_step t below at = record {
    bits = λ i h. by_cases (dec_lt (suc i) k)
        (λ j. rw (lt-ltb (suc i) k j) (below i j))
        (λ j. let g : k ≤ suc i = omega arith in let q : i ≡ k - 1 = omega arith in rw (le-ltb (suc i) k g) (ap (bits_of t) q ∙ at));
  }

  down-suc : (i : ℕ) → bits_of r i ≡ bits_of s (suc i)
  unfolding down
  down-suc i = let e : i + 1 ≡ suc i = omega arith in rw e at (lowers i)

  down_last : bits_of r (k - 1) ≡ bits_of s k
  down_last = let e : suc (k - 1) ≡ k = omega (arith, c.least) in down-suc (k - 1) ∙ ap (bits_of s) e

  pub stepped-zero : sum ≡ false → Stepped k mask 1 s r
  stepped-zero e = one_step r (λ i _. down-suc i) (down_last ∙ sym (⊕_same (sym sum_is ∙ e)))

  pub stepped_one : (t : List ℕ) → sum ≡ true → Flipped r (k - 1) t → Stepped k mask 1 s t
  stepped_one t e f = one_step t (λ i h. f.other i (omega arith) ∙ down-suc i) (f.here ∙ ap not down_last ∙ other_bit new (bits_of s k) (sym sum_is ∙ e))

pub stepped-none : (k : ℕ) (mask s : List ℕ) → Stepped k mask 0 s s
unfolding times
stepped-none k mask s = record { bits = λ _ _. refl }

pub stepped_more : (k : ℕ) (mask : List ℕ) (n : ℕ) (s r t : List ℕ) → Stepped k mask n s r → Stepped k mask 1 r t → Stepped k mask (n + 1) s t
unfolding times
stepped_more k mask n s r t x y = rw add-one (record { bits = λ i h. y.bits i h ∙ same_stepped k _ _ _ _ (λ _ _. refl) x.bits i h })

-- ---- the output: r has its first j bits, and t is the state j steps later

abbrev pub out_of : ℕ → List ℕ → List ℕ → Word
out_of k mask s j = times j (stepped k (tapped k (bits_of mask))) (bits_of s) 0

pub record Put (k : ℕ) (mask s t : List ℕ) (r j : ℕ) : Type 0 where
  pub number : r ≡ number_of j (out_of k mask s)
  pub state : Stepped k mask j s t

pub put_start : (k : ℕ) (mask s : List ℕ) → Put k mask s s 0 0
unfolding number_of
put_start k mask s = record { number = refl; state = stepped-none k mask s }

first_bit : (t : List ℕ) → get_or t 0 0 % 2 ≡ cond (bits_of t 0) 1 0
unfolding bits_of digit
first_bit t = let e : get_or t 0 0 / 1 ≡ get_or t 0 0 = omega arith in rw e (bit-number (get_or t 0 0 % 2) (omega arith))

pub put_more : (k : ℕ) (mask s t u : List ℕ) (r j : ℕ) → 1 ≤ k → Put k mask s t r j → Stepped k mask 1 t u → Put k mask s u (r * 2 + get_or t 0 0 % 2) (j + 1)
unfolding number_of
put_more k mask s t u r j p x y = record {
  number =
      let e : r * 2 + get_or t 0 0 % 2 ≡ 2 * r + get_or t 0 0 % 2 = omega arith in
      let f : j + 1 ≡ suc j = omega arith in
      rw f (e ∙ ap₂ (λ a b. 2 * a + b) x.number (first_bit t ∙ ap (λ b. cond b 1 0) (x.state.bits 0 p)));
  state = stepped_more k mask j s t u x.state y;
}

pub put_small : (k : ℕ) (mask s t : List ℕ) (r j n : ℕ) → j ≤ n → Put k mask s t r j → r < 2 ^ n
put_small k mask s t r j n h x = rw x.number (lt_of_lt_of_le (number_below j (out_of k mask s)) (pow_mono h))

-- ---- the first L bits of the state are the output where there are so many

pub first_is : (k : ℕ) (a : Word) (n x r : ℕ) (ws : List ℕ) → n ≤ k → Holds n (λ j. bits_of ws (0 + j)) x → r ≡ number_of n (digit x)
    → r ≡ number_of n (λ j. times j (stepped k a) (bits_of ws) 0)
first_is k a n x r ws l h e =
    e ∙ same_bits n _ _ (λ j b. let z : 0 + j ≡ j = omega arith in h.bits j b ∙ ap (bits_of ws) z ∙ sym (bits_start k a (bits_of ws) j (omega arith)))

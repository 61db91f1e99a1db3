-- What the laws of words say of the bits of rows.
use mathlib.Core.Path.{◌≡◌, refl, sym, ap, ◌∙◌}
use mathlib.Core.Logic.{by_cases}
use mathlib.Core.List.{List}
use mathlib.Core.Bool.{true, false}
use Prim.Native.Nat.{ℕ, ◌+◌, ◌-◌, ◌*◌, ◌/◌, ◌%◌, ◌^◌, ◌≤◌, ◌<◌}
use native.Mathlib.Nat.{one-mul}
use native.Mathlib.Decide.{dec_lt, ℕ_discrete}
use native.Mathlib.Omega.{arith}
use lib.ListN.{length, get_or}
use lib.Seq.{get_or-set_same}
use lib.Dec.{lit<}
use Rattle.theory.specs.Def.{◌⊕◌, unit}
use Rattle.theory.specs.Laws.{⊕_false}
use Rattle.theory.specs.Sums.{unit_at, unit_other}
use Rattle.digits.specs.Def.{digit, bits_from}
use Rattle.digits.specs.Laws.{digit-xor, digit-zero, digit-shl, digit-shl_below, digit_past}
use Rattle.digits.specs.Lowest.{LowestDigit}
use Rattle.span.specs.Def.{Zero, Leading}
use Rattle.elimination.specs.Words.{Kept, Added, flipped}
use Rattle.elimination.proofs.Words.{row_end, flipped_word}

-- a row whose words are the same has the same bits
pub bits_same : (ws out : List ℕ) (at i : ℕ) → get_or out (at + i / 64) 0 ≡ get_or ws (at + i / 64) 0 → bits_from out at i ≡ bits_from ws at i
unfolding bits_from
bits_same ws out at i e = rw e

-- words of zeros
pub bits_zero : (ws : List ℕ) (at i : ℕ) → get_or ws (at + i / 64) 0 ≡ 0 → bits_from ws at i ≡ false
unfolding bits_from
bits_zero ws at i e = rw e (digit-zero _)

-- the rows other than q, where only row q changes
pub others_same : {ws out : List ℕ} (q stride width : ℕ) → Kept ws (q * stride) width out → width ≤ stride → (p : ℕ) → ¬ (p ≡ q) → (i : ℕ) → i < 64 * width
    → bits_from out (p * stride) i ≡ bits_from ws (p * stride) i
others_same {ws} {out} q stride width x w p d i l =
    bits_same ws out (p * stride) i
    (by_cases (dec_lt p q)
    (λ h. x.below _ (omega (arith, row_end p q stride width h w)))
    (λ g. let h : q < p = omega arith in x.above _ (omega (arith, row_end q p stride width h w))))

-- the words of the row at src are added from the word `from` on
module _ {ws out : List ℕ} {n : ℕ} (dst src from : ℕ) (x : Added ws (dst + from) (src + from) n out) where
  pub added_bit : (i : ℕ) → 64 * from ≤ i → i < 64 * (from + n) → bits_from out dst i ≡ bits_from ws dst i ⊕ bits_from ws src i
  unfolding bits_from
  added_bit i l h =
      let k : ℕ = i / 64 - from in
      let e : dst + i / 64 ≡ (dst + from) + k = omega arith in
      let f : src + i / 64 ≡ (src + from) + k = omega arith in
      rw (e, f, x.here k (omega arith)) (digit-xor _ _ _)

  pub added_before : (i : ℕ) → i < 64 * from → bits_from out dst i ≡ bits_from ws dst i
  added_before i h = bits_same ws out dst i (x.kept.below _ (omega arith))

-- ---- a flip

digit_one : digit 1 0 ≡ true
unfolding digit
digit_one = refl

digit-pow : (k j : ℕ) → digit (1 * 2 ^ k) j ≡ unit k j
digit-pow k j =
    by_cases (dec_lt j k)
    (λ l. digit-shl_below 1 k j l ∙ sym (unit_other k j (omega arith)))
    (λ g.
    by_cases (ℕ_discrete j k)
    (λ e. let z : k - k ≡ 0 = omega arith in rw e (digit-shl 1 k k (omega arith) ∙ ap (digit 1) z ∙ digit_one ∙ sym (unit_at k)))
    (λ n. digit-shl 1 k j (omega arith) ∙ digit_past 1 1 (j - k) (lit< tt) (omega arith) ∙ sym (unit_other k j n)))

unit_same : (i j : ℕ) → j / 64 ≡ i / 64 → unit (i % 64) (j % 64) ≡ unit i j
unit_same i j e =
    by_cases (ℕ_discrete j i)
    (λ q. rw (q, unit_at i, unit_at (i % 64)))
    (λ n. unit_other (i % 64) (j % 64) (omega arith) ∙ sym (unit_other i j n))

pub unit_shift : (a i j : ℕ) → unit (a + i) (a + j) ≡ unit i j
unit_shift a i j =
    by_cases (ℕ_discrete j i) (λ e. rw (e, unit_at (a + i), unit_at i)) (λ n. unit_other (a + i) (a + j) (omega arith) ∙ sym (unit_other i j n))

pub flipped-bit : (ws : List ℕ) (at i j : ℕ) → at + i / 64 < length ws → bits_from (flipped ws at i) at j ≡ bits_from ws at j ⊕ unit i j
unfolding bits_from flipped
flipped-bit ws at i j h =
    by_cases (ℕ_discrete (j / 64) (i / 64))
    (λ e. let w : ℕ = get_or ws (at + i / 64) 0 in
    rw (e, get_or-set_same ws (at + i / 64) _ 0 h)
    (digit-xor w (2 ^ (i % 64)) (j % 64) ∙ ap (λ b. digit w (j % 64) ⊕ b) (rw one-mul at (digit-pow (i % 64) (j % 64)) ∙ unit_same i j e)))
    (λ g. rw (flipped_word ws at i (at + j / 64) (omega arith))
    (sym (ap (λ b. digit (get_or ws (at + j / 64) 0) (j % 64) ⊕ b) (unit_other i j (λ e. g (ap (λ (x : ℕ). x / 64) e))) ∙ ⊕_false _)))

-- ---- the leading bit

-- the words from `from` to k are zero, as those before are
pub zero_words : (ws : List ℕ) (at from k : ℕ) → Zero (64 * from) (bits_from ws at) → ((j : ℕ) → from ≤ j → j < k → get_or ws (at + j) 0 ≡ 0) → Zero (64 * k) (bits_from ws at)
zero_words ws at from k z e j h =
    by_cases (dec_lt j (64 * from)) (λ l. z j l) (λ g. bits_zero ws at j (e (j / 64) (omega arith) (omega arith)))

module _ (ws : List ℕ) (at k : ℕ) (z : Zero (64 * k) (bits_from ws at)) where
  pub leading_found : (lead t : ℕ) → k < lead → LowestDigit 64 (get_or ws (at + k) 0) t → Leading (64 * lead) (bits_from ws at) (64 * k + t)
  unfolding bits_from
  leading_found lead t h r =
      let p : t < 64 = r.place in
      let q : (64 * k + t) / 64 ≡ k = omega arith in
      let m : (64 * k + t) % 64 ≡ t = omega arith in
      record {
        within = omega arith;
        set = λ _. rw (q, m) r.set;
        lower = λ j l.
            by_cases (dec_lt j (64 * k))
            (λ b. z j b)
            (λ g. let e : j / 64 ≡ k = omega arith in rw e (r.lower (j % 64) (omega arith)));
      }

pub leading_none : (ws : List ℕ) (at lead : ℕ) → Zero (64 * lead) (bits_from ws at) → Leading (64 * lead) (bits_from ws at) (64 * lead)
leading_none ws at lead z = record { within = omega arith; set = λ l. absurd (omega arith); lower = z }

-- all of the row at src is added, where its words before `from` are zero
pub added_row : {ws out : List ℕ} (dst src from n : ℕ) → from ≤ n → Added ws (dst + from) (src + from) (n - from) out → Zero (64 * from) (bits_from ws src)
    → (i : ℕ) → i < 64 * n → bits_from out dst i ≡ bits_from ws dst i ⊕ bits_from ws src i
added_row {ws} dst src from n h x z i l =
    by_cases (dec_lt i (64 * from))
    (λ g. added_before dst src from x i g ∙ sym (ap (λ t. bits_from ws dst i ⊕ t) (z i g) ∙ ⊕_false (bits_from ws dst i)))
    (λ g. added_bit dst src from x i (omega arith) (omega arith))

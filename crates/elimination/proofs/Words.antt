-- Laws of the words of a buffer.
use mathlib.Core.Path.{◌≡◌, refl, ◌∙◌}
use mathlib.Core.Logic.{inl, inr, by_cases}
use mathlib.Core.List.{List}
use Prim.Native.Nat.{ℕ, ◌-◌, ◌+◌, ◌*◌, ◌/◌, ◌≤◌, ◌<◌}
use native.Mathlib.Nat.{mul-le-mul_right, suc-mul}
use native.Mathlib.Decide.{dec_lt}
use native.Mathlib.Omega.{arith}
use lib.ListN.{length, get_or, set, take, drop, replicate, length-set}
use Rattle.std.proofs.Common.{◌++◌}
use Rattle.std.proofs.lemmas.Grind.{common_steps}
use lib.Seq.{get_or-set_same, get_or-set_other}
use Rattle.elimination.specs.Words.{Apart, Kept, Written, Cleared, flipped}

-- an earlier row ends before a later one begins
pub row_end : (p r stride width : ℕ) → p < r → width ≤ stride → p * stride + width ≤ r * stride
row_end p r stride width h w = omega (arith, mul-le-mul_right stride h, suc-mul p stride)

pub apart_rows : (q r stride width : ℕ) → ¬ (q ≡ r) → width ≤ stride → Apart (q * stride) (r * stride) width
apart_rows q r stride width d w =
    by_cases (dec_lt q r) (λ l. inl (row_end q r stride width l w)) (λ g. inr (row_end r q stride width (omega arith) w))

pub apart_from : (a b n from : ℕ) → from ≤ n → Apart a b n → Apart (a + from) (b + from) (n - from)
apart_from a b n from h (inl l) = inl (omega arith)
apart_from a b n from h (inr l) = inr (omega arith)

pub kept_all : (ws : List ℕ) (at n : ℕ) → Kept ws at n ws
kept_all ws at n = record { long = refl; below = λ j h. refl; above = λ j h. refl }

-- the words from `from` on, of n at `at`
pub kept_from : {ws out : List ℕ} (at n from : ℕ) → from ≤ n → Kept ws (at + from) (n - from) out → Kept ws at n out
kept_from at n from h x = record { long = x.long; below = λ j l. x.below j (omega arith); above = λ j l. x.above j (omega arith) }

-- within the same range again
pub kept_more : {ws mid out : List ℕ} {at n a m : ℕ} → at ≤ a → a + m ≤ at + n → Kept ws at n mid → Kept mid a m out → Kept ws at n out
kept_more h l x y =
    record {
      long = y.long ∙ x.long;
      below = λ j k. y.below j (omega arith) ∙ x.below j k;
      above = λ j k. y.above j (omega arith) ∙ x.above j k;
    }

module _ {ws : List ℕ} {at : ℕ} {v : ℕ → ℕ} where
  pub written_none : Written ws at 0 v ws
  written_none = record { kept = kept_all ws at 0; here = λ k h. absurd (omega arith) }

  pub written_more : {buf : List ℕ} {k : ℕ} (y : ℕ) → at + k < length ws → y ≡ v k → Written ws at k v buf → Written ws at (k + 1) v (set buf (at + k) y)
  written_more {buf} {k} y l e x =
      record {
        kept =
            record {
              long = simp length-set x.kept.long;
              below = λ j h. get_or-set_other buf (at + k) j y 0 (omega arith) ∙ x.kept.below j h;
              above = λ j h. get_or-set_other buf (at + k) j y 0 (omega arith) ∙ x.kept.above j (omega arith);
            };
        here = λ j h.
            by_cases (dec_lt j k)
            (λ q. get_or-set_other buf (at + k) (at + j) y 0 (omega arith) ∙ x.here j q)
            (λ g. let i : j ≡ k = omega arith in rw i (get_or-set_same buf (at + k) y 0 (omega (arith, x.kept.long)) ∙ e));
      }

  -- the words of a range that is apart, and those still to come, are as they were
  pub written_apart : {buf : List ℕ} {k : ℕ} (b n : ℕ) → k < n → Apart at b n → Written ws at k v buf → get_or buf (b + k) 0 ≡ get_or ws (b + k) 0
  written_apart {k = k} b n l (inl p) x = x.kept.above (b + k) (omega arith)
  written_apart {k = k} b n l (inr p) x = x.kept.below (b + k) (omega arith)

-- the first n words of a list give way to zeros
pub cleared_front : {front ws : List ℕ} {n : ℕ} → n ≤ length ws → front ≡ replicate (length (take n ws)) 0 → Cleared ws 0 n (front ++ drop n ws)
cleared_front {front} {ws} {n} h e =
    record {
      kept =
          record {
            long = grind (arith, common_steps);
            below = λ j l. absurd (omega arith);
            above = λ j l. grind (arith, common_steps);
          };
      here = λ k l. grind (arith, common_steps);
    }

-- ---- a flip

pub flipped_long : (ws : List ℕ) (at i : ℕ) → length (flipped ws at i) ≡ length ws
unfolding flipped
flipped_long ws at i = simp length-set

pub flipped_word : (ws : List ℕ) (at i j : ℕ) → ¬ (j ≡ at + i / 64) → get_or (flipped ws at i) j 0 ≡ get_or ws j 0
unfolding flipped
flipped_word ws at i j h = get_or-set_other ws (at + i / 64) j _ 0 h

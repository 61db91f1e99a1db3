-- A turn of `reduce_row`.
use mathlib.Core.Path.{◌≡◌, refl, sym, ap, ap₂, ◌∙◌}
use mathlib.Core.Logic.{inr, by_cases}
use mathlib.Core.List.{List}
use mathlib.Core.Bool.{Bool, false, false≢true}
use Prim.Native.Nat.{ℕ, ◌+◌, ◌-◌, ◌*◌, ◌/◌, ◌≤◌, ◌<◌}
use native.Mathlib.Decide.{dec_lt}
use native.Mathlib.Omega.{arith}
use Rattle.theory.specs.Def.{◌⊕◌}
use Rattle.theory.specs.Laws.{⊕_false}
use Rattle.digits.specs.Def.{Word, bits_from}
use Rattle.span.specs.Def.{Zero, Leading, Slotted}
use Rattle.span.specs.Spans.{plus_none, plus_row, plus_same}
use Rattle.elimination.specs.Words.{Apart, Added}
use Rattle.elimination.specs.Rows.{rows_of, slot_of, Reduced}
use Rattle.elimination.proofs.Words.{row_end, kept_all, kept_more}
use Rattle.elimination.proofs.RowBits.{bits_same, added_bit, added_before}

pub reduced_start : {ws : List ℕ} {r stride width lead b : ℕ} → Leading (64 * lead) (rows_of ws stride r) b → Reduced ws r stride width lead ws b
reduced_start {ws} {r} {stride} {width} x =
    record { kept = kept_all ws (r * stride) width; plus = plus_none (rows_of ws stride r); leading = x }

-- the leading bit of a row that has nothing up to b is above b
above : (L b c : ℕ) (ρ : Word) → b < L → ((i : ℕ) → i < b → ρ i ≡ false) → ρ b ≡ false → Leading L ρ c → b < c
above L b c ρ h low at x =
    by_cases (dec_lt b c)
    (λ g. g)
    (λ g. absurd (false≢true (sym (by_cases (dec_lt c b) (λ l. low c l) (λ l. let e : c ≡ b = omega arith in rw e at)) ∙ x.set (omega arith))))

-- What a turn may rest on: row s, which b leads too, comes before row r, and once it is added the row's leading bit is above b.
pub record Turn (ws : List ℕ) (r stride width lead : ℕ) (buf : List ℕ) (b s : ℕ) : Type 0 where
  pub ends : s * stride + width ≤ r * stride
  pub apart : Apart (r * stride + b / 64) (s * stride + b / 64) (width - b / 64)
  pub zero : {out : List ℕ} → Added buf (r * stride + b / 64) (s * stride + b / 64) (width - b / 64) out → Zero (64 * (b / 64)) (bits_from out (r * stride))
  pub rises : {out : List ℕ} {c : ℕ} → Added buf (r * stride + b / 64) (s * stride + b / 64) (width - b / 64) out → Leading (64 * lead) (rows_of out stride r) c → b < c
  pub more : {out : List ℕ} {c : ℕ} → Added buf (r * stride + b / 64) (s * stride + b / 64) (width - b / 64) out → Leading (64 * lead) (rows_of out stride r) c
      → Reduced ws r stride width lead out c

module _ {ws : List ℕ} {r stride width lead : ℕ} (slots : List ℕ) (lw : lead ≤ width) (wl : width ≤ stride)
    (sl : Slotted (64 * lead) r (rows_of ws stride) (slot_of slots)) {buf : List ℕ} {b : ℕ} (s : ℕ) (x : Reduced ws r stride width lead buf b)
    (hb : b < 64 * lead) (es : slot_of slots b ≡ s + 1) where
  told : (s < r) × (sl.lead s ≡ b)
  told = sl.taken b s hb (omega arith)

  -- the row that is added comes before row r
  source_before : s < r
  source_before = told.0

  source_end : s * stride + width ≤ r * stride
  source_end = row_end s r stride width source_before wl

  source_apart : Apart (r * stride + b / 64) (s * stride + b / 64) (width - b / 64)
  source_apart = inr (omega (arith, source_end))

  -- and b leads it
  source_leading : Leading (64 * lead) (rows_of ws stride s) b
  source_leading = rw told.1 at (sl.leading s source_before)

  module _ (out : List ℕ) (y : Added buf (r * stride + b / 64) (s * stride + b / 64) (width - b / 64) out) where
    source_bit : (i : ℕ) → i < 64 * width → bits_from buf (s * stride) i ≡ bits_from ws (s * stride) i
    source_bit i l = bits_same ws buf (s * stride) i (x.kept.below _ (omega (arith, source_end)))

    -- all of it is added: the words that are left out are zero
    bits : (i : ℕ) → i < 64 * width → bits_from out (r * stride) i ≡ bits_from buf (r * stride) i ⊕ bits_from ws (s * stride) i
    bits i l =
        let a : Bool = bits_from buf (r * stride) i in
        by_cases (dec_lt i (64 * (b / 64)))
        (λ g. added_before (r * stride) (s * stride) (b / 64) y i g
        ∙ sym (ap (λ t. a ⊕ t) (source_leading.lower i (omega arith)) ∙ ⊕_false a))
        (λ g. added_bit (r * stride) (s * stride) (b / 64) y i (omega arith) (omega arith) ∙ ap (λ t. a ⊕ t) (source_bit i l))

    low : (i : ℕ) → i < b → bits_from out (r * stride) i ≡ false
    low i l = bits i (omega arith) ∙ ap₂ ◌⊕◌ (x.leading.lower i l) (source_leading.lower i l)

    gone : bits_from out (r * stride) b ≡ false
    gone = bits b (omega arith) ∙ ap₂ ◌⊕◌ (x.leading.set hb) (source_leading.set hb)

    words_zero : Zero (64 * (b / 64)) (bits_from out (r * stride))
    words_zero i l = low i (omega arith)

    leading_rises : (c : ℕ) → Leading (64 * lead) (rows_of out stride r) c → b < c
    leading_rises c z = above (64 * lead) b c (rows_of out stride r) hb low gone z

    reduced_more : (c : ℕ) → Leading (64 * lead) (rows_of out stride r) c → Reduced ws r stride width lead out c
    reduced_more c z =
        record {
          kept = kept_more {at = r * stride} {n = width} {a = r * stride + b / 64} {m = width - b / 64} (omega arith) (omega arith) x.kept y.kept;
          plus =
              plus_same (rows_of ws stride) (rows_of ws stride r) (rows_of ws stride r)
              (λ i. rows_of buf stride r i ⊕ rows_of ws stride s i) (rows_of out stride r) (λ _ _ _ _. refl) (λ _ _. refl) bits
              (plus_row (rows_of ws stride r) (rows_of buf stride r) s source_before x.plus);
          leading = z;
        }

  pub turn : Turn ws r stride width lead buf b s
  turn =
      record {
        ends = source_end;
        apart = source_apart;
        zero = λ {out} y. words_zero out y;
        rises = λ {out} {c} y z. leading_rises out y c z;
        more = λ {out} {c} y z. reduced_more out y c z;
      }

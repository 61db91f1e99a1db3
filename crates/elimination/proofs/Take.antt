-- What `take_row` does to the rows, and a turn of `eliminate`.
use mathlib.Core.Path.{◌≡◌, refl, sym, ◌∙◌}
use mathlib.Core.Logic.{by_cases}
use mathlib.Core.List.{List}
use mathlib.Core.Bool.{Bool, true, false, true≢false, false≢true}
use Prim.Native.Nat.{ℕ, ◌+◌, ◌*◌, ◌≤◌, ◌<◌}
use native.Mathlib.Nat.{add-mul, zero-add}
use native.Mathlib.Numerals.{add-one}
use native.Mathlib.Decide.{dec_lt}
use native.Mathlib.Omega.{arith}
use lib.ListN.{length, get_or, set, length-set}
use lib.Seq.{get_or-set_same, get_or-set_other}
use Rattle.digits.specs.Def.{Word}
use Rattle.span.specs.Def.{Slotted, Eliminated}
use Rattle.span.specs.Spans.{plus_same}
use Rattle.span.specs.Leads.{eliminated_start, eliminated_row, slotted_same, slotted_more}
use Rattle.elimination.specs.Words.{Cleared}
use Rattle.elimination.specs.Rows.{rows_of, slot_of, Reduced, SlotsKept, Taken, Eliminating, Finished}
use Rattle.elimination.proofs.Words.{row_end}
use Rattle.elimination.proofs.RowBits.{bits_same, others_same}

-- ---- `take_row`

module _ (ws : List ℕ) (r stride width lead : ℕ) (slots out : List ℕ) (b : ℕ) (lw : lead ≤ width) (wl : width ≤ stride)
    (sl : Slotted (64 * lead) r (rows_of ws stride) (slot_of slots)) (x : Reduced ws r stride width lead out b) where
  -- the rows before r are as they were
  still : Slotted (64 * lead) r (rows_of out stride) (slot_of slots)
  still = slotted_same (rows_of out stride) (λ p h i l. others_same r stride width x.kept wl p (omega arith) i (omega arith)) sl

  pub taken_yes : 64 * lead ≤ length slots → b < 64 * lead → (b < 64 * lead → slot_of slots b ≡ 0) → Taken ws r stride width lead slots out (set slots b (r + 1)) true
  taken_yes hs hb free =
      record {
        kept = x.kept;
        plus = x.plus;
        slots_kept = record { long = simp length-set; behind = λ j l. get_or-set_other slots b j (r + 1) 0 (omega arith) };
        yes = λ _.
            slotted_more (slot_of (set slots b (r + 1))) b hb x.leading (free hb) (get_or-set_same slots b (r + 1) 0 (omega arith) ∙ add-one r)
            (λ j d. get_or-set_other slots b j (r + 1) 0 d) still;
        no = λ e. absurd (true≢false e);
      }

  pub taken_no : 64 * lead ≤ b → Taken ws r stride width lead slots out slots false
  taken_no h =
      record {
        kept = x.kept;
        plus = x.plus;
        slots_kept = record { long = refl; behind = λ j l. refl };
        yes = λ e. absurd (false≢true e);
        no = λ _. (λ i l. x.leading.lower i (omega arith), still);
      }

-- ---- one row more, for any rows `old` of which row r stands in the buffer

module _ {ws : List ℕ} {r stride width lead : ℕ} {slots out slots' : List ℕ} {t : Bool} (old : ℕ → Word) (lw : lead ≤ width) (wl : width ≤ stride)
    (x : Eliminated (64 * lead) (64 * width) r r old (rows_of ws stride) (slot_of slots)) (came : (i : ℕ) → i < 64 * width → rows_of ws stride r i ≡ old r i)
    (y : Taken ws r stride width lead slots out slots' t) where
  made_more : Eliminated (64 * lead) (64 * width) r (r + 1) old (rows_of out stride) (slot_of slots)
  made_more =
      eliminated_row (rows_of out stride) (omega arith) (λ p h i l. others_same r stride width y.kept wl p (omega arith) i l) x
      (plus_same (rows_of ws stride) (rows_of ws stride r) (old r) (rows_of out stride r) (rows_of out stride r) (λ _ _ _ _. refl) (λ i l. sym (came i l)) (λ _ _. refl) y.plus)

  pub taken_more : t ≡ true → Eliminated (64 * lead) (64 * width) (r + 1) (r + 1) old (rows_of out stride) (slot_of slots')
  taken_more e = record { made = made_more.made; slotted = y.yes e }

  pub taken_last : t ≡ false → Eliminated (64 * lead) (64 * width) r (r + 1) old (rows_of out stride) (slot_of slots')
  taken_last e = record { made = made_more.made; slotted = (y.no e).1 }

-- ---- `eliminate`

pub slots_cleared : (slots : List ℕ) (n : ℕ) (out : List ℕ) → Cleared slots 0 n out → SlotsKept n slots out
slots_cleared slots n out x = record { long = x.kept.long; behind = λ b h. x.kept.above b (omega arith) }

pub slots_again : {n : ℕ} {slots mid out : List ℕ} → SlotsKept n slots mid → SlotsKept n mid out → SlotsKept n slots out
slots_again x y = record { long = y.long ∙ x.long; behind = λ b h. y.behind b h ∙ x.behind b h }

pub eliminating_start : (ws : List ℕ) (stride width lead : ℕ) (slots cleared : List ℕ) → Cleared slots 0 (64 * lead) cleared
    → Eliminating ws 0 0 stride width lead ws cleared
eliminating_start ws stride width lead slots cleared x =
    record {
      long = refl;
      rows = eliminated_start (rows_of ws stride) (rows_of ws stride) (slot_of cleared) (λ b h. rw zero-add at (x.here b h));
      between = λ p k h l m. refl;
      behind = λ j h. refl;
    }

module _ (ws : List ℕ) (r stride width lead : ℕ) (buf slots : List ℕ) (lw : lead ≤ width) (wl : width ≤ stride)
    (x : Eliminating ws r r stride width lead buf slots) (out slots' : List ℕ) (t : Bool) (y : Taken buf r stride width lead slots out slots' t) where
  came : (i : ℕ) → i < 64 * width → rows_of buf stride r i ≡ rows_of ws stride r i
  came i l = bits_same ws buf (r * stride) i (x.behind _ (omega arith))

  between_more : (p k : ℕ) → p < r + 1 → width ≤ k → k < stride → get_or out (p * stride + k) 0 ≡ get_or ws (p * stride + k) 0
  between_more p k h l m =
      by_cases (dec_lt p r)
      (λ g. y.kept.below _ (omega (arith, row_end p r stride stride g (omega arith))) ∙ x.between p k g l m)
      (λ g. let e : p ≡ r = omega arith in rw e (y.kept.above _ (omega arith) ∙ x.behind _ (omega arith)))

  behind_more : (j : ℕ) → (r + 1) * stride ≤ j → get_or out j 0 ≡ get_or ws j 0
  behind_more j h =
      let e : (r + 1) * stride ≡ r * stride + stride = omega (arith, add-mul r 1 stride) in
      y.kept.above j (omega arith) ∙ x.behind j (omega arith)

  pub eliminating_more : t ≡ true → Eliminating ws (r + 1) (r + 1) stride width lead out slots'
  eliminating_more e =
      record {
        long = y.kept.long ∙ x.long;
        rows = taken_more (rows_of ws stride) lw wl x.rows came y e;
        between = between_more;
        behind = behind_more;
      }

  pub eliminating_last : t ≡ false → Eliminating ws r (r + 1) stride width lead out slots'
  eliminating_last e =
      record {
        long = y.kept.long ∙ x.long;
        rows = taken_last (rows_of ws stride) lw wl x.rows came y e;
        between = between_more;
        behind = behind_more;
      }

pub finish : (ws : List ℕ) (rows stride width lead : ℕ) (slots cleared out slots' : List ℕ) → Cleared slots 0 (64 * lead) cleared → SlotsKept (64 * lead) cleared slots'
    → Eliminating ws rows rows stride width lead out slots' → Finished ws rows stride width lead slots out slots'
finish ws rows stride width lead slots cleared out slots' k y x =
    record { state = x; slots_kept = slots_again (slots_cleared slots (64 * lead) cleared k) y }

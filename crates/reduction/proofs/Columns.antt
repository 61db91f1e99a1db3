-- The turns of the loops over rows and columns.
use mathlib.Core.Path.{◌≡◌, refl, sym, ap, ap₂, ◌∙◌}
use mathlib.Core.Bool.{Bool, true, false, ◌&&◌}
use mathlib.Core.List.{List}
use mathlib.Core.Logic.{by_cases}
use native.Mathlib.Decide.{dec_lt, ℕ_discrete}
use Prim.Native.Nat.{ℕ, ◌-◌, ◌+◌, ◌*◌, ◌/◌, ◌≤◌, ◌<◌}
use native.Mathlib.Omega.{arith}
use borrow.Author.Tests.{eq-eqb, ne_eqb}
use Rattle.theory.specs.Def.{◌⊕◌, Spanned}
use Rattle.theory.specs.Laws.{⊕_false, xor-ac}
use Rattle.span.specs.Def.{Zero}
use Rattle.span.specs.Spans.{spanned_row, spanned_same, spanned_add}
use Rattle.span.specs.Columns.{reducing_start, reducing_turn, reducing_pass}
use Rattle.elimination.specs.Words.{Kept, Added}
use Rattle.elimination.specs.Rows.{rows_of}
use Rattle.std.specs.Prelude.{Some, None}
use Rattle.elimination.proofs.Words.{row_end, kept_all, kept_from}
use Rattle.elimination.proofs.RowBits.{others_same, added_row}
use Rattle.reduction.specs.Columns.{RowsKept, Holder, AddedIf, Column, brought, Brought, Pivoted, ReducedForm}

twice : (a b : Bool) → a ⊕ (b ⊕ a) ≡ b
twice a b = simp xor-ac

-- ---- what is kept

pub rows_kept_all : (ws : List ℕ) (n stride width : ℕ) → RowsKept ws n stride width ws
rows_kept_all ws n stride width = record { long = refl; between = λ p k h l m. refl; behind = λ j h. refl }

pub rows_kept_again : {ws mid out : List ℕ} {n stride width : ℕ} → RowsKept ws n stride width mid → RowsKept mid n stride width out → RowsKept ws n stride width out
rows_kept_again x y =
    record {
      long = y.long ∙ x.long;
      between = λ p k h l m. y.between p k h l m ∙ x.between p k h l m;
      behind = λ j h. y.behind j h ∙ x.behind j h;
    }

-- one row of n changes
pub row_kept : (ws : List ℕ) (n q stride width : ℕ) (out : List ℕ) → q < n → width ≤ stride → Kept ws (q * stride) width out → RowsKept ws n stride width out
row_kept ws n q stride width out h w x =
    record {
      long = x.long;
      between = λ p k l m s.
          by_cases (dec_lt p q)
          (λ g. x.below _ (omega (arith, row_end p q stride stride g (omega arith))))
          (λ g. by_cases (dec_lt q p)
          (λ e. x.above _ (omega (arith, row_end q p stride width e w)))
          (λ e. let f : p ≡ q = omega arith in rw f (x.above _ (omega arith))));
      behind = λ j l. x.above j (omega (arith, row_end q n stride width h w));
    }

-- ---- one row into another

module _ (ws : List ℕ) (q r stride width c : ℕ) where
  pub added_yes : (out : List ℕ) → c < 64 * width → Zero (64 * (c / 64)) (rows_of ws stride r)
      → Added ws (q * stride + c / 64) (r * stride + c / 64) (width - c / 64) out → rows_of ws stride q c ≡ true → AddedIf ws q r stride width c out
  added_yes out h z x e =
      record {
        kept = kept_from (q * stride) width (c / 64) (omega arith) x.kept;
        bits = λ i l.
            added_row (q * stride) (r * stride) (c / 64) width (omega arith) x z i l
            ∙ ap (λ b. rows_of ws stride q i ⊕ b && rows_of ws stride r i) (sym e);
      }

  pub added_no : rows_of ws stride q c ≡ false → AddedIf ws q r stride width c ws
  added_no e =
      record {
        kept = kept_all ws (q * stride) width;
        bits = λ i l. sym (ap (λ b. rows_of ws stride q i ⊕ b && rows_of ws stride r i) e ∙ ⊕_false (rows_of ws stride q i));
      }

-- ---- one column

module _ (ws : List ℕ) (n r stride width c : ℕ) where
  pub column_none : Column ws n r stride width c 0 ws
  column_none =
      record { kept = rows_kept_all ws n stride width; here = λ i l. refl; done = λ q h. absurd (omega arith); rest = λ q h i l. refl }

  module _ (m : ℕ) (buf : List ℕ) (x : Column ws n r stride width c m buf) where
    pub column_skip : m ≡ r → Column ws n r stride width c (m + 1) buf
    column_skip e =
        record { kept = x.kept; here = x.here; done = λ q h d. x.done q (omega arith) d; rest = λ q h. x.rest q (omega arith) }

    pub column_add : (out : List ℕ) → m < n → ¬ (m ≡ r) → width ≤ stride → c < 64 * width → AddedIf buf m r stride width c out
        → Column ws n r stride width c (m + 1) out
    column_add out h d w hc y =
        let o : (p : ℕ) → ¬ (p ≡ m) → (i : ℕ) → i < 64 * width → rows_of out stride p i ≡ rows_of buf stride p i = others_same m stride width y.kept w in
        record {
          kept = rows_kept_again x.kept (row_kept buf n m stride width out h w y.kept);
          here = λ i l. o r (λ e. d (sym e)) i l ∙ x.here i l;
          done = λ q h f i l.
              by_cases (ℕ_discrete q m)
              (λ e. rw e (y.bits i l ∙ ap₂ ◌⊕◌ (x.rest m (omega arith) i l) (ap₂ ◌&&◌ (x.rest m (omega arith) c hc) (x.here i l))))
              (λ e. o q e i l ∙ x.done q (omega arith) f i l);
          rest = λ q h i l. o q (omega arith) i l ∙ x.rest q (omega arith) i l;
        }

module _ (ws : List ℕ) (r p stride width : ℕ) where
  pub brought_same : p ≡ r → Brought ws r p stride width ws
  unfolding brought
  brought_same e = record { kept = kept_all ws (r * stride) width; here = λ i l. rw (eq-eqb p r e) }

  pub brought-add : (from : ℕ) (out : List ℕ) → ¬ (p ≡ r) → from ≤ width → Zero (64 * from) (rows_of ws stride p)
      → Added ws (r * stride + from) (p * stride + from) (width - from) out → Brought ws r p stride width out
  unfolding brought
  brought-add from out d h z x =
      record {
        kept = kept_from (r * stride) width from h x.kept;
        here = λ i l. rw (ne_eqb p r d) (added_row (r * stride) (p * stride) from width h x z i l);
      }

  pub brought_zero : (b : ℕ) → Zero b (rows_of ws stride r) → Zero b (rows_of ws stride p) → Zero b (brought ws r p stride)
  unfolding brought
  brought_zero b y z i l =
      by_cases (ℕ_discrete p r) (λ e. rw (eq-eqb p r e) (y i l)) (λ d. rw (ne_eqb p r d) (ap₂ ◌⊕◌ (y i l) (z i l)))

pub pivoted : (ws : List ℕ) (n r p stride width c : ℕ) (mid out : List ℕ) → r < n → width ≤ stride → c < 64 * width → Brought ws r p stride width mid
    → Column mid n r stride width c n out → Pivoted ws n r p stride width c out
pivoted ws n r p stride width c mid out hr w hc x y =
    let o : (q : ℕ) → ¬ (q ≡ r) → (i : ℕ) → i < 64 * width → rows_of mid stride q i ≡ rows_of ws stride q i = others_same r stride width x.kept w in
    record {
      kept = rows_kept_again (row_kept ws n r stride width mid hr w x.kept) y.kept;
      swept =
          record {
            here = λ i l. y.here i l ∙ x.here i l;
            others = λ q h d i l. y.done q h d i l ∙ ap₂ ◌⊕◌ (o q d i l) (ap₂ ◌&&◌ (o q d c hc) (x.here i l));
          };
    }

-- ---- all columns

pub form_start : (ws : List ℕ) (n stride width : ℕ) → ReducedForm ws n stride width 0 0 ws
form_start ws n stride width = record { kept = rows_kept_all ws n stride width; rows = reducing_start (64 * width) n (rows_of ws stride) }

module _ (ws : List ℕ) (n stride width c rank : ℕ) (buf : List ℕ) (x : ReducedForm ws n stride width c rank buf) (hc : c < 64 * width) where
  pub form_pass : Holder buf rank n stride c None → ReducedForm ws n stride width (c + 1) rank buf
  form_pass z = record { kept = x.kept; rows = reducing_pass x.rows z }

  module _ (p : ℕ) (z : Holder buf rank n stride c (Some p)) (out : List ℕ) (y : Pivoted buf n rank p stride width c out) where
    -- in the two cases, what is brought
    ρ_is : (A : Bool → Type 0) (i : ℕ) → A (rows_of buf stride rank i) → A (rows_of buf stride rank i ⊕ rows_of buf stride p i) → A (brought buf rank p stride i)
    unfolding brought
    ρ_is A i a b = by_cases (ℕ_discrete p rank) (λ e. rw (eq-eqb p rank e) a) (λ d. rw (ne_eqb p rank d) b)

    one : brought buf rank p stride c ≡ true
    unfolding brought
    one =
        by_cases (ℕ_discrete p rank)
        (λ e. rw (eq-eqb p rank e) (rw e at z.2))
        (λ d. rw (ne_eqb p rank d) (ap₂ ◌⊕◌ (z.3 rank (omega arith) (omega (arith, z.0))) z.2))

    hr : rank < n
    hr = omega (arith, z.0, z.1)

    within : Spanned (64 * width) n (rows_of buf stride) (brought buf rank p stride)
    unfolding brought
    within =
        by_cases (ℕ_discrete p rank)
        (λ e. spanned_same (rows_of buf stride rank) _ (λ i l. rw (eq-eqb p rank e)) (spanned_row rank hr))
        (λ d. spanned_same (λ i. rows_of buf stride rank i ⊕ rows_of buf stride p i) _ (λ i l. rw (ne_eqb p rank d))
        (spanned_add (rows_of buf stride rank) (rows_of buf stride p) (spanned_row rank hr) (spanned_row p z.1)))

    -- the row that stood at `rank` is found again: it is row p, or their sum was added to row p
    returns : Spanned (64 * width) n (rows_of out stride) (rows_of buf stride rank)
    unfolding brought
    returns =
        by_cases (ℕ_discrete p rank)
        (λ e. spanned_same (rows_of out stride rank) _ (λ i l. sym (y.swept.here i l ∙ rw (eq-eqb p rank e))) (spanned_row rank hr))
        (λ d. spanned_same (rows_of out stride p) _
        (λ i l. let a : Bool = rows_of buf stride p i in
        let b : Bool = rows_of buf stride rank i in
        let e : brought buf rank p stride i ≡ b ⊕ a = rw (ne_eqb p rank d) in
        sym (y.swept.others p z.1 d i l ∙ ap (λ t. a ⊕ t && brought buf rank p stride i) z.2 ∙ ap (λ t. a ⊕ t) e ∙ twice a b))
        (spanned_row p z.1))

    pub form_turn : ReducedForm ws n stride width (c + 1) (rank + 1) out
    form_turn =
        let w = x.rows in
        record {
          kept = rows_kept_again x.kept y.kept;
          rows =
              reducing_turn (rows_of out stride) (brought buf rank p stride) w y.swept hc hr one
              (λ i l. ρ_is (λ b. b ≡ false) i (w.rest rank (omega arith) hr i l) (ap₂ ◌⊕◌ (w.rest rank (omega arith) hr i l) (w.rest p z.0 z.1 i l)))
              (λ q h. ρ_is (λ b. b ≡ false) (w.lead q) (w.alone q rank h hr (omega arith))
              (ap₂ ◌⊕◌ (w.alone q rank h hr (omega arith)) (w.alone q p h z.1 (omega (arith, z.0)))))
              within returns;
        }

-- ---- `find_row`

pub held : (p n stride c : ℕ) → p < n → c / 64 < stride → p * stride + c / 64 < n * stride
held p n stride c h l = omega (arith, row_end p n stride stride h (omega arith))

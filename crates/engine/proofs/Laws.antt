-- What is answered in each case.
use mathlib.Core.Path.{◌≡◌, refl}
use mathlib.Core.List.{List}
use mathlib.Core.Bool.{Bool, true, false, true≢false, false≢true}
use Prim.Native.Nat.{ℕ, ◌*◌, ◌/◌, ◌<◌}
use native.Mathlib.Omega.{arith}
use lib.ListN.{length}
use Rattle.span.specs.Leads.{dependent_same, independent_same}
use Rattle.elimination.specs.Rows.{rows_of, Outcome, Tagging}
use Rattle.elimination.specs.Theorems.{finished_independent, stopped_independent, stopped_set, stopped_set_ends}
use Rattle.elimination.proofs.RowBits.{bits_same}
use Rattle.std.specs.Prelude.{Option, Some, None, unwrap_or}
use Rattle.reduction.specs.Columns.{ReducedForm}
use Rattle.reduction.specs.Packs.{Packed}
use Rattle.engine.specs.Answers.{Tells, Fits, Sized, Roomy, Eliminates, FirstSets, Bases, bad}

-- ---- the test `!t`

pub told_no : (t : Bool) {A : Type 0} → t ≡ false → Tells t A → ¬ A
told_no true e x = absurd (true≢false e)
told_no false e x = x

pub told_yes : (t : Bool) {A : Type 0} → t ≡ true → Tells t A → A
told_yes true e x = x
told_yes false e x = absurd (false≢true e)

-- what is left of a question
pub told_rest : (t : Bool) {A B : Type 0} → (A → B) → (B → A) → Tells t A → Tells t B
told_rest true f g x = f x
told_rest false f g x = λ b. x (g b)

module _ (ws : List ℕ) (rows stride width lead : ℕ) (slots : List ℕ) where
  -- ---- without sets

  pub refused : ¬ Sized (length ws) (length slots) rows stride width lead → Eliminates ws rows stride width lead slots ws slots bad
  refused n =
      record { within = λ s. absurd (n s); found = λ s. absurd (n s); none = λ s. absurd (n s); refused = λ _. (refl, refl, refl) }

  pub answered : (out slots' : List ℕ) (f : Option ℕ) → Sized (length ws) (length slots) rows stride width lead → Outcome ws rows stride width lead slots out slots' f
      → Eliminates ws rows stride width lead slots out slots' (unwrap_or f rows)
  answered out slots' (Some d) s x =
      record {
        within = λ _. omega (arith, x.place);
        found = λ _ _. x;
        none = λ _ e. absurd (omega (arith, x.place));
        refused = λ n. absurd (n s);
      }
  answered out slots' None s x =
      record { within = λ _. omega arith; found = λ _ l. absurd (omega arith); none = λ _ _. x; refused = λ n. absurd (n s) }

  -- ---- with sets

  pub set_refused : ¬ (Sized (length ws) (length slots) rows stride width lead × Roomy rows width lead) → FirstSets ws rows stride width lead slots ws slots bad
  set_refused n =
      record { within = λ s. absurd (n s); found = λ s. absurd (n s); none = λ s. absurd (n s); refused = λ _. (refl, refl, refl) }

  module _ (mid : List ℕ) (t : Tagging ws rows stride width lead mid) (s : Sized (length ws) (length slots) rows stride width lead) (room : Roomy rows width lead) where
    -- the tags leave the leading words alone
    leading_words : (p : ℕ) → p < rows → (i : ℕ) → i < 64 * lead → rows_of ws stride p i ≡ rows_of mid stride p i
    leading_words p h i l = bits_same mid ws (p * stride) i (same (t.before p (i / 64) h (omega arith)))
      where
        same : {a b : ℕ} → a ≡ b → b ≡ a
        same e = rw e

    pub set_answered : (out slots' : List ℕ) (f : Option ℕ) → Outcome mid rows stride width lead slots out slots' f → FirstSets ws rows stride width lead slots out slots' (unwrap_or f rows)
    set_answered out slots' (Some d) x =
        record {
          within = λ _. omega (arith, x.place);
          found = λ _ _.
              record {
                set = dependent_same (rows_of ws stride) (λ p h. leading_words p (omega (arith, x.place))) (stopped_set s.leads x room t.tags);
                ends = stopped_set_ends s.leads x room t.tags;
                before =
                    independent_same (64 * lead) d (rows_of mid stride) (rows_of ws stride) (λ p h. leading_words p (omega (arith, x.place))) (stopped_independent s.leads x);
              };
          none = λ _ e. absurd (omega (arith, x.place));
          refused = λ n. absurd (n (s, room));
        }
    set_answered out slots' None x =
        record {
          within = λ _. omega arith;
          found = λ _ l. absurd (omega arith);
          none = λ _ _. independent_same (64 * lead) rows (rows_of mid stride) (rows_of ws stride) leading_words (finished_independent s.leads x);
          refused = λ n. absurd (n (s, room));
        }

-- ---- the reduced form

pub basis_refused : (ws : List ℕ) (rows stride width k : ℕ) → ¬ (Fits (length ws) rows stride width × Roomy k width 0) → Bases ws rows stride width k ws bad
basis_refused ws rows stride width k n = record { done = λ f. absurd (n f); refused = λ _. (refl, refl) }

pub basis_answered : (ws : List ℕ) (rows stride width k : ℕ) (mid out : List ℕ) (r : ℕ) → Fits (length ws) rows stride width × Roomy k width 0
    → ReducedForm ws rows stride width k r mid → Packed mid r stride width (rows * stride) out → Bases ws rows stride width k out r
basis_answered ws rows stride width k mid out r f x y =
    record { done = λ _. record { middle = mid; form = x; packs = y }; refused = λ n. absurd (n f) }

-- What the result of `reduce` says of the rows as they came.
use Rattle.std.specs.Prelude.{◌≡◌, List, Bool, false, ℕ, ◌*◌, ◌<◌, ◌≤◌}
use Rattle.std.proofs.Common.{arith}
use Rattle.theory.specs.Def.{Spanned, Reduced}
use Rattle.theory.specs.Theorems as Machine
use Rattle.span.specs.Theorems as Span
use Rattle.span.specs.Def.{Zero}
use Rattle.span.specs.Spans.{spanned_fewer, spanned_cut, spanned_through}
use Rattle.elimination.specs.Rows.{rows_of}
use Rattle.reduction.specs.Columns.{ReducedForm}

module _ {ws : List ℕ} {n stride width k rank : ℕ} {out : List ℕ} (x : ReducedForm ws n stride width k rank out) where
  -- The first `rank` rows are in reduced row echelon form,
  pub reduced : Reduced k rank (rows_of out stride) x.rows.lead
  reduced = Span.reduced x.rows

  -- the others are zero,
  pub zero : (q : ℕ) → rank ≤ q → q < n → Zero k (rows_of out stride q)
  zero = x.rows.rest

  module _ (wk : k ≤ 64 * width) where
    -- each is a sum of rows as they came,
    pub from_rows : (p : ℕ) → p < rank → Spanned k n (rows_of ws stride) (rows_of out stride p)
    from_rows p h = spanned_fewer wk (x.rows.from p (omega (arith, x.rows.few)))

    -- and each row as it came is a sum of the first `rank`.
    pub to_rows : (p : ℕ) → p < n → Spanned k rank (rows_of out stride) (rows_of ws stride p)
    to_rows p h = spanned_cut (rows_of ws stride p) x.rows.few (λ q l m. zero q l m) (spanned_fewer wk (x.rows.back p h))

    -- There is no other such list of rows.
    pub only : {m : ℕ} {R : ℕ → ℕ → Bool} {lead : ℕ → ℕ} → Reduced k m R lead → ((p : ℕ) → p < m → Spanned k n (rows_of ws stride) (R p))
        → ((p : ℕ) → p < n → Spanned k m R (rows_of ws stride p)) → (rank ≡ m) × ((p : ℕ) → p < rank → (b : ℕ) → b < k → rows_of out stride p b ≡ R p b)
    only {m} {R} r to from =
        Machine.reduced_unique reduced r
        (λ p h. spanned_through n (rows_of ws stride) (rows_of out stride p) from (from_rows p h))
        (λ p h. spanned_through n (rows_of ws stride) (R p) to_rows (to p h))

  -- A bit from k on that no row had, no row has.
  pub clear : (i : ℕ) → i < 64 * width → ((p : ℕ) → p < n → rows_of ws stride p i ≡ false) → (p : ℕ) → p < n → rows_of out stride p i ≡ false
  clear = Span.clear x.rows

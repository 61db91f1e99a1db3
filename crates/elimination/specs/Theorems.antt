-- What the outcome of `eliminate` says of the rows as they came.
use Rattle.std.specs.Prelude.{◌≡◌, List, Bool, false, ℕ, ◌+◌, ◌-◌, ◌*◌, ◌<◌, ◌≤◌}
use Rattle.std.proofs.Common.{arith}
use Rattle.span.specs.Def.{DependentRows, IndependentRows, Tagged}
use Rattle.span.specs.Theorems as Span
use Rattle.elimination.specs.Rows.{rows_of, set_of, Stopped, Finished}

module _ {ws : List ℕ} {rows stride width lead : ℕ} {slots out slots' : List ℕ} (lw : lead ≤ width) where
  -- Nothing was found: the rows are independent.
  pub finished_independent : Finished ws rows stride width lead slots out slots' → IndependentRows (64 * lead) (rows_of ws stride) rows
  finished_independent x = Span.independent x.state.rows (omega arith) (omega arith)

  module _ {d : ℕ} (x : Stopped ws rows stride width lead slots out slots' d) where
    -- The row d was found: no dependent set ends before d,
    pub stopped_independent : IndependentRows (64 * lead) (rows_of ws stride) d
    stopped_independent = Span.independent x.state.rows (omega arith) (omega arith)

    -- and one ends at d.
    pub stopped_dependent : (S : ℕ → Bool) × DependentRows (64 * lead) (rows_of ws stride) d S
    stopped_dependent = Span.dependent x.state.rows (omega arith) d (omega arith) x.zero

    module _ (few : 64 * lead + rows ≤ 64 * width) (tags : Tagged (64 * lead) (64 * (width - lead)) rows (rows_of ws stride)) where
      -- Where the rows carried their own sets, that set stands in the words of row d from `lead` to `width`,
      pub stopped_set : DependentRows (64 * lead) (rows_of ws stride) d (set_of out stride lead d)
      stopped_set =
          Span.set x.state.rows (64 * (width - lead)) (omega arith) (omega (arith, x.place)) (λ p q h l. tags p q (omega (arith, x.place)) l) d (omega arith) x.zero

      -- with nothing above d.
      pub stopped_set_ends : (p : ℕ) → d < p → p < 64 * (width - lead) → set_of out stride lead d p ≡ false
      stopped_set_ends =
          Span.set_ends x.state.rows (64 * (width - lead)) (omega arith) (omega (arith, x.place)) (λ p q h l. tags p q (omega (arith, x.place)) l) d (omega arith)

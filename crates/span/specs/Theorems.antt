-- What elimination shows (`Def.antt` has the definitions). `old` are the rows as they came, `new` as elimination left them; L leading bits are looked at.
use Rattle.std.specs.Prelude.{◌≡◌, Bool, false, ℕ, suc, ◌+◌, ◌≤◌, ◌<◌}
use Rattle.theory.specs.Def.{Bits, Linear, Equidistributed, Dependent, Reduced}
use Rattle.digits.specs.Def.{Word}
use Rattle.span.specs.Def.{DependentRows, IndependentRows, Zero, Eliminated, Tagged, Reducing, RowsOf, FirstSet}
use Rattle.span.specs.Leads
use Rattle.span.specs.Sets
use Rattle.span.specs.Outputs
use Rattle.span.specs.Columns

module _ {L W n m : ℕ} {old new : ℕ → Word} {slot : ℕ → ℕ} (x : Eliminated L W n m old new slot) where
  -- Rows that got leading bits of their own were independent.
  pub independent : L ≤ W → n ≤ m → IndependentRows L old n
  independent = Leads.eliminated_independent x

  -- A row that became zero ends a dependent set.
  pub dependent : L ≤ W → (d : ℕ) → d < m → Zero L (new d) → (S : ℕ → Bool) × DependentRows L old d S
  dependent = Leads.eliminated_dependent x

  -- Where the rows carry their own sets in T more bits, its bits there are that set,
  pub set : (T : ℕ) → L + T ≤ W → m ≤ T → Tagged L T m old → (d : ℕ) → d < m → Zero L (new d) → DependentRows L old d (λ p. new d (L + p))
  set T = Sets.carried L T x.made

  -- and have nothing above d.
  pub set_ends : (T : ℕ) → L + T ≤ W → m ≤ T → Tagged L T m old → (d : ℕ) → d < m → (p : ℕ) → d < p → p < T → new d (L + p) ≡ false
  set_ends T = Sets.carried_none L T x.made

module _ {W n k rank : ℕ} {old row : ℕ → Word} (x : Reducing W n old k rank row) where
  -- After the last column the rows are in reduced row echelon form,
  pub reduced : Reduced k rank row x.lead
  reduced = Columns.reducing_done x

  -- and a bit that no row had is still in none.
  pub clear : (i : ℕ) → i < W → ((p : ℕ) → p < n → old p i ≡ false) → (p : ℕ) → p < n → row p i ≡ false
  clear = Columns.reducing_clear x

module _ {k L n : ℕ} {row : ℕ → Word} {out : ℕ → Bits k → Bool} (x : RowsOf L n row out) where
  -- A dependent set of rows is one of output bits, and the other way round.
  pub dependent_outputs : (d : ℕ) → d < n → (S : ℕ → Bool) → DependentRows L row d S → Dependent out d S
  dependent_outputs = Outputs.dependent_outputs x

  pub dependent_rows : (d : ℕ) → d < n → (S : ℕ → Bool) → Dependent out d S → DependentRows L row d S
  dependent_rows = Outputs.dependent_rows x

  module _ (linear : (i : ℕ) → Linear (out i)) where
    -- Independent rows: every pattern comes from equally many states,
    pub even : (m : ℕ) → m ≤ n → IndependentRows L row m → Equidistributed out m
    even = Outputs.independent_even x linear

    -- and there are no more of them than state bits.
    pub bound : (m : ℕ) → m ≤ n → IndependentRows L row m → m ≤ k
    bound = Outputs.rows_bound x linear

    -- A dependent set: from its end on no number of output bits is equidistributed.
    pub uneven : (d : ℕ) (S : ℕ → Bool) → d < n → DependentRows L row d S → (m : ℕ) → d < m → ¬ Equidistributed out m
    uneven = Outputs.dependent_uneven x linear

-- Two first sets are one.
pub first_unique : {k d e : ℕ} {out : ℕ → Bits k → Bool} {S T : ℕ → Bool} → FirstSet out d S → FirstSet out e T → (d ≡ e) × ((i : ℕ) → i < suc d → S i ≡ T i)
first_unique x y = (Outputs.first-place x y, Outputs.first_only x y)

-- Theorems (`Def.antt` has the definitions; `proofs/Theorems.antt` has the counting theorem). `out` are the output bits of a machine whose state has k bits.
use Rattle.std.specs.Prelude.{◌≡◌, Bool, ◌⊎◌, ◌↔◌, ℕ, suc, ◌<◌}
use Rattle.theory.specs.Def.{Bits, Linear, Cancels, NonEmpty, Dependent, Independent, Spanned, Reduced}
use Rattle.theory.specs.Cells
use Rattle.theory.specs.Echelon

module _ {k : ℕ} (out : ℕ → Bits k → Bool) (linear : (i : ℕ) → Linear (out i)) where
  -- No dependent set of the first m output bits ends below m just where no non-empty set of them sums to zero from every state.
  pub independent_sets : (m : ℕ) → Independent out m ↔ ((S : ℕ → Bool) → NonEmpty m S → ¬ Cancels out m S)
  independent_sets = Cells.independent_sets out

  -- Either the first m output bits are independent, or there is a least d where a dependent set ends,
  pub first : (m : ℕ) → Independent out m ⊎ ((d : ℕ) × (d < m) × Independent out d × ((S : ℕ → Bool) × Dependent out d S))
  first = Cells.first out linear

  -- and just one dependent set ends there.
  pub unique : (d : ℕ) → Independent out d → (S T : ℕ → Bool) → Dependent out d S → Dependent out d T → (i : ℕ) → i < suc d → S i ≡ T i
  unique = Cells.unique out

-- Two lists of rows in reduced row echelon form, each of whose rows are sums of rows of the other, are one.
pub reduced_unique : {k n n' : ℕ} {R R' : ℕ → ℕ → Bool} {lead lead' : ℕ → ℕ} → Reduced k n R lead → Reduced k n' R' lead'
    → ((i : ℕ) → i < n → Spanned k n' R' (R i)) → ((i : ℕ) → i < n' → Spanned k n R (R' i)) → (n ≡ n') × ((i : ℕ) → i < n → (b : ℕ) → b < k → R i b ≡ R' i b)
reduced_unique = Echelon.reduced_unique

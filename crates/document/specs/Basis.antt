-- "Basis: for t·l at most k, the reduced row echelon form of the t·l rows over the k state bits".
use Rattle.std.specs.Prelude.{ℕ, ◌*◌, ◌<◌}
use Rattle.theory.specs.Def.{unit, Spanned, Reduced}
use Rattle.digits.specs.Def.{Word, Clear}
use Rattle.kinds.specs.Generator.{Machine}
use Rattle.document.specs.Cells.{bit_of, successive}

-- row i names the state bits that output bit i sums: those that alone set it
unfoldable pub row : Machine → ℕ → ℕ → Word
row M l i b = bit_of M successive l i (unit b)

-- "a row led by its lowest-numbered bit, leading bits rising", "rows of zeros are left out": n rows R with the same sums as the t·l rows
pub record BasisOf (M : Machine) (t l n : ℕ) (R : ℕ → Word) : Type 0 where
  pub lead : ℕ → ℕ
  pub reduced : Reduced M.size n R lead
  pub past : (i : ℕ) → i < n → Clear M.size (R i)
  pub sums : (i : ℕ) → i < n → Spanned M.size (t * l) (row M l) (R i)
  pub all : (i : ℕ) → i < t * l → Spanned M.size n R (row M l i)

-- Rows of state bits that stand for output bits: a row's sum over a state is the bit.
use Rattle.std.specs.Prelude.{◌≡◌, List, ℕ}
use Rattle.theory.specs.Def.{pair}
use Rattle.digits.specs.Def.{Word, Clear, bits_of}
use Rattle.kinds.specs.Generator.{Machine, times}
use Rattle.kinds.specs.Transpose.{back1}
use Rattle.running.specs.Prepared.{tapped}

-- the row of bit j of the output of a state
pub record FirstRow (M : Machine) (j : ℕ) (row : List ℕ) : Type 0 where
  pub clear : Clear M.size (bits_of row)
  pub sum : (s : Word) → pair M.size (bits_of row) s ≡ M.out s j

-- the row r before a move: its sum over a state is that of `row` over the state moved
pub record BackRow (M : Machine) (row r : List ℕ) : Type 0 where
  pub clear : Clear M.size (bits_of r)
  pub sum : (s : Word) → pair M.size (bits_of r) s ≡ pair M.size (bits_of row) (M.move s)

-- kind 1: r is `row` before n steps
pub record StepsBack (k : ℕ) (mask : List ℕ) (n : ℕ) (row r : List ℕ) : Type 0 where
  pub clear : Clear k (bits_of r)
  pub bits : (i : ℕ) → bits_of r i ≡ times n (back1 k (tapped k (bits_of mask))) (bits_of row) i

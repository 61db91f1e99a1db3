-- What the steps of a question find.
use Rattle.std.specs.Prelude.{◌≡◌, Bool, false, List, ℕ, ◌+◌, ◌*◌, ◌^◌, ◌<◌, ◌≤◌, length, get_or, Option, None, MatchOption, IsSomeAnd}
use Rattle.digits.specs.Def.{bits_of}
use Rattle.kinds.specs.Generator.{Machine}
use Rattle.document.specs.Limits.{row_words, work_words}
use Rattle.document.specs.Memory.{Front}
use Rattle.rows.specs.Theorems.{RowOf}
use Rattle.span.specs.Def.{DependentRows, IndependentRows}
use Rattle.elimination.specs.Rows.{set_of}
use Rattle.filling.specs.Rows.{stride, state_row}
use Rattle.question.specs.declared.Dependent.{Dependent}

-- n rows are enough to tell of m output bits, where a state has k bits
pub record Enough (k m n : ℕ) : Type 0 where
  pub under : n ≤ m
  pub most : n ≤ k + 1
  pub past : k < m → n ≡ k + 1
  pub all : m ≤ k → n ≡ m

-- S is the dependent set that ends at d, none ends before, and S has nothing else
pub record FirstOf (M : Machine) (l n d : ℕ) (S : ℕ → Bool) : Type 0 where
  pub place : d < n
  pub set : DependentRows (64 * row_words) (state_row M l) d S
  pub before : IndependentRows (64 * row_words) (state_row M l) d
  pub ends : (i : ℕ) → d < i → i < 64 * row_words → S i ≡ false

-- The set that ends at d stands in the second half of row d, the row found; or none is, and the n rows are independent.
pub record Searched (M : Machine) (l n : ℕ) (ws : List ℕ) (found : Option ℕ) (out : List ℕ) : Type 0 where
  pub rows : (i : ℕ) → i < n → RowOf M l i (state_row M l i)
  pub cases : MatchOption found (IndependentRows (64 * row_words) (state_row M l) n) (λ d. FirstOf M l n d (set_of out stride row_words d))
  pub long : length out ≡ length ws
  pub behind : (j : ℕ) → n * stride ≤ j → get_or out j 0 ≡ get_or ws j 0

-- a set that ends at d, in the words of the second half of row d
pub record SetOf (ws : List ℕ) (d : ℕ) (first : Dependent) : Type 0 where
  pub place : first.d ≡ d
  pub long : length first.set ≡ row_words
  pub small : (k : ℕ) → k < row_words → get_or first.set k 0 < 2 ^ 64
  pub words : (k : ℕ) → k < row_words → get_or first.set k 0 ≡ get_or ws (d * stride + row_words + k) 0

-- such a set for the row found, if one was
abbrev pub Gives : List ℕ → Option ℕ → Option Dependent → Type 0
Gives ws found first = MatchOption found (first ≡ None) (λ d. IsSomeAnd first (SetOf ws d))

-- the first dependent set of n rows, in eight words
pub record Finds (M : Machine) (l n : ℕ) (first : Dependent) : Type 0 where
  pub first_of : FirstOf M l n first.d (bits_of first.set)
  pub long : length first.set ≡ row_words
  pub small : (k : ℕ) → k < row_words → get_or first.set k 0 < 2 ^ 64

-- the verdict on n rows, and the work buffer as zero
pub record Decided (M : Machine) (l n : ℕ) (was : List ℕ) (first : Option Dependent) (now : List ℕ) : Type 0 where
  pub rows : (i : ℕ) → i < n → RowOf M l i (state_row M l i)
  pub cases : MatchOption first (IndependentRows (64 * row_words) (state_row M l) n) (Finds M l n)
  pub memory : Front work_words (λ _. 0) was now

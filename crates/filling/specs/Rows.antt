-- Rows of output bits in a buffer.
use Rattle.std.specs.Prelude.{◌≡◌, Bool, false, cond, List, ℕ, ◌+◌, ◌*◌, ◌<◌, ◌≤◌, ltb, length, get_or}
use Rattle.digits.specs.Def.{Word, bits_from}
use Rattle.kinds.specs.Generator.{Machine}
use Rattle.document.specs.Limits.{row_words}
use Rattle.document.specs.Basis.{row}
use Rattle.rows.specs.Theorems.{RowOf}
use Rattle.span.specs.Def.{DependentRows, IndependentRows}
use Rattle.elimination.specs.Words.{Kept}

-- the words of a row, with the room for a set beside it
abbrev pub stride : ℕ
stride = 2 * row_words

-- the row of output bit i, with no bit from k on
unfoldable pub state_row : Machine → ℕ → ℕ → Word
state_row M l i b = cond (ltb b M.size) (row M l i b) false

-- the words at `at` are the row of output bit i
pub record Stands (M : Machine) (l i : ℕ) (ws : List ℕ) (at : ℕ) : Type 0 where
  pub is : RowOf M l i (state_row M l i)
  pub bits : (b : ℕ) → b < 64 * row_words → bits_from ws at b ≡ state_row M l i b

-- the rows of the first n output bits stand `off` words into their places
abbrev pub StandsAll : Machine → ℕ → ℕ → ℕ → List ℕ → Type 0
StandsAll M l n off ws = (i : ℕ) → i < n → Stands M l i ws (i * stride + off)

-- the first n rows are those of the first n output bits; the words beside them, and all words behind them, are as they were
pub record Filled (M : Machine) (l n : ℕ) (ws out : List ℕ) : Type 0 where
  pub long : length out ≡ length ws
  pub rows : StandsAll M l n 0 out
  pub between : (i k : ℕ) → i < n → row_words ≤ k → k < stride → get_or out (i * stride + k) 0 ≡ get_or ws (i * stride + k) 0
  pub behind : (j : ℕ) → n * stride ≤ j → get_or out j 0 ≡ get_or ws j 0

-- the row of output bit i stands in both halves of its place; all other words are as they were
pub record Laid (M : Machine) (l i : ℕ) (ws out : List ℕ) : Type 0 where
  pub kept : Kept ws (i * stride) stride out
  pub first : Stands M l i out (i * stride)
  pub second : Stands M l i out (i * stride + row_words)

-- Of the first n rows, no dependent set ends before d, and one ends at d unless d is n. The words behind the n rows are as they were.
pub record FirstDependent (M : Machine) (l n : ℕ) (ws : List ℕ) (d : ℕ) (out : List ℕ) : Type 0 where
  pub most : d ≤ n
  pub rows : (i : ℕ) → i < n → i ≤ d → RowOf M l i (state_row M l i)
  pub before : IndependentRows (64 * row_words) (state_row M l) d
  pub at : d < n → (S : ℕ → Bool) × DependentRows (64 * row_words) (state_row M l) d S
  pub long : length out ≡ length ws
  pub behind : (j : ℕ) → n * stride ≤ j → get_or out j 0 ≡ get_or ws j 0

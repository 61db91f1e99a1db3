-- Rows moved to the front of their buffer.
use Rattle.std.specs.Prelude.{◌≡◌, List, ℕ, ◌+◌, ◌*◌, ◌<◌, ◌≤◌, length, get_or}

-- the first `width` words of each of n rows stand at the front, one row behind the other; the words behind them are as they were
pub record Moved (ws : List ℕ) (n stride width : ℕ) (out : List ℕ) : Type 0 where
  pub long : length out ≡ length ws
  pub words : (p k : ℕ) → p < n → k < width → get_or out (p * width + k) 0 ≡ get_or ws (p * stride + k) 0
  pub behind : (j : ℕ) → n * width ≤ j → get_or out j 0 ≡ get_or ws j 0

-- and then zeros up to the word `total`
pub record Packed (ws : List ℕ) (n stride width total : ℕ) (out : List ℕ) : Type 0 where
  pub long : length out ≡ length ws
  pub words : (p k : ℕ) → p < n → k < width → get_or out (p * width + k) 0 ≡ get_or ws (p * stride + k) 0
  pub zeros : (j : ℕ) → n * width ≤ j → j < total → get_or out j 0 ≡ 0
  pub behind : (j : ℕ) → total ≤ j → get_or out j 0 ≡ get_or ws j 0

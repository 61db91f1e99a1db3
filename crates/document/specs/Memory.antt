-- What a call leaves in lent memory.
use Rattle.std.specs.Prelude.{◌≡◌, List, ℕ, ◌≤◌, ◌<◌, length, get_or}

-- `now` has f 0, .., f (n - 1) at its front, and is `was` behind them
pub record Front (n : ℕ) (f : ℕ → ℕ) (was now : List ℕ) : Type 0 where
  pub long : length now ≡ length was
  pub front : (i : ℕ) → i < n → get_or now i 0 ≡ f i
  pub rest : (i : ℕ) → n ≤ i → get_or now i 0 ≡ get_or was i 0

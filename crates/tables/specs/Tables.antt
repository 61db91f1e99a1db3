-- The tables of a report for any test of (t, l), any k and any L.
use Rattle.std.specs.Prelude.{◌≡◌, Bool, List, ℕ, ◌+◌, ◌-◌, ◌*◌, ◌/◌, ◌≤◌, ◌<◌, min, leb, length, get_or}
use Rattle.document.specs.Report.{largest}

-- the question (t, l), answered by the first dependent bit at the resolution l
unfoldable pub says : List ℕ → ℕ → ℕ → Bool
says first t l = leb (t * l) (get_or first (l - 1) 0)

module _ (yes : ℕ → ℕ → Bool) (k L : ℕ) where
  -- l_t, from min(L, k div t) down
  unfoldable pub resolution_of : ℕ → ℕ
  resolution_of t = largest (λ l. yes t l) (min L (k / t))

module _ (yes : ℕ → ℕ → Bool) (k : ℕ) where
  -- t_l, from k div l down
  unfoldable pub dimension_of : ℕ → ℕ
  dimension_of l = largest (λ t. yes t l) (k / l)

-- a table of `size` numbers: f 1 to f n, and zeros behind them
pub record Entries (size n : ℕ) (f : ℕ → ℕ) (table : List ℕ) : Type 0 where
  pub long : length table ≡ size
  pub entry : (i : ℕ) → i < n → get_or table i 0 ≡ f (i + 1)
  pub past : (i : ℕ) → n ≤ i → get_or table i 0 ≡ 0

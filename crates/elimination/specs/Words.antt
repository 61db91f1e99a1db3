-- What the functions on words do to a list of words.
use Rattle.std.specs.Prelude.{Option, MatchOption, ◌≡◌, ◌⊎◌, List, ℕ, ◌+◌, ◌/◌, ◌%◌, ◌^◌, ◌<◌, ◌≤◌, length, get_or, set}
use Rattle.std.specs.Int.Bits.{bit_xor}

-- two ranges of n words have none in common
abbrev pub Apart : ℕ → ℕ → ℕ → Type 0
Apart a b n = (a + n ≤ b) ⊎ (b + n ≤ a)

-- `out` is `ws` but for the n words at `at`
pub record Kept (ws : List ℕ) (at n : ℕ) (out : List ℕ) : Type 0 where
  pub long : length out ≡ length ws
  pub below : (j : ℕ) → j < at → get_or out j 0 ≡ get_or ws j 0
  pub above : (j : ℕ) → at + n ≤ j → get_or out j 0 ≡ get_or ws j 0

-- `out` is `ws` with v 0, .., v (n - 1) in the n words at `at`
pub record Written (ws : List ℕ) (at n : ℕ) (v : ℕ → ℕ) (out : List ℕ) : Type 0 where
  pub kept : Kept ws at n out
  pub here : (k : ℕ) → k < n → get_or out (at + k) 0 ≡ v k

-- the n words at `src` are added into the n words at `dst`
abbrev pub Added : List ℕ → ℕ → ℕ → ℕ → List ℕ → Type 0
Added ws dst src n out = Written ws dst n (λ k. bit_xor (get_or ws (dst + k) 0) (get_or ws (src + k) 0)) out

-- the n words at `at` are zero
abbrev pub Cleared : List ℕ → ℕ → ℕ → List ℕ → Type 0
Cleared ws at n out = Written ws at n (λ k. 0) out

-- the first word from `from` on, of the `lead` words at `at`, that is not zero
abbrev pub FirstWord : List ℕ → ℕ → ℕ → ℕ → Option ℕ → Type 0
FirstWord ws at from lead r =
    MatchOption r ((j : ℕ) → from ≤ j → j < lead → get_or ws (at + j) 0 ≡ 0)
    (λ k. (from ≤ k) × (k < lead) × ¬ (get_or ws (at + k) 0 ≡ 0) × ((j : ℕ) → from ≤ j → j < k → get_or ws (at + j) 0 ≡ 0))

-- bit i of the row at word `at` is flipped
unfoldable pub flipped : List ℕ → ℕ → ℕ → List ℕ
flipped ws at i = set ws (at + i / 64) (bit_xor (get_or ws (at + i / 64) 0) (2 ^ (i % 64)))

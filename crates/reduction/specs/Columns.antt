-- What the reduction does to the rows in a buffer.
use Rattle.std.specs.Prelude.{Option, MatchOption, ◌≡◌, List, true, false, ◌&&◌, cond, ℕ, ◌+◌, ◌*◌, ◌<◌, ◌≤◌, length, get_or, eqb}
use Rattle.theory.specs.Def.{◌⊕◌}
use Rattle.digits.specs.Def.{Word}
use Rattle.span.specs.Def.{Reducing, Swept}
use Rattle.elimination.specs.Words.{Kept}
use Rattle.elimination.specs.Rows.{rows_of}

-- `out` is `ws` but for the first `width` words of the first n rows
pub record RowsKept (ws : List ℕ) (n stride width : ℕ) (out : List ℕ) : Type 0 where
  pub long : length out ≡ length ws
  pub between : (p k : ℕ) → p < n → width ≤ k → k < stride → get_or out (p * stride + k) 0 ≡ get_or ws (p * stride + k) 0
  pub behind : (j : ℕ) → n * stride ≤ j → get_or out j 0 ≡ get_or ws j 0

-- the first row from `from` on that has the bit c
abbrev pub Holder : List ℕ → ℕ → ℕ → ℕ → ℕ → Option ℕ → Type 0
Holder ws from n stride c r =
    MatchOption r ((q : ℕ) → from ≤ q → q < n → rows_of ws stride q c ≡ false)
    (λ p. (from ≤ p) × (p < n) × (rows_of ws stride p c ≡ true) × ((q : ℕ) → from ≤ q → q < p → rows_of ws stride q c ≡ false))

-- row r is added into row q if that has the bit c
pub record AddedIf (ws : List ℕ) (q r stride width c : ℕ) (out : List ℕ) : Type 0 where
  pub kept : Kept ws (q * stride) width out
  pub bits : (i : ℕ) → i < 64 * width → rows_of out stride q i ≡ rows_of ws stride q i ⊕ rows_of ws stride q c && rows_of ws stride r i

-- row r is added into each other row below m that has the bit c
pub record Column (ws : List ℕ) (n r stride width c m : ℕ) (out : List ℕ) : Type 0 where
  pub kept : RowsKept ws n stride width out
  pub here : (i : ℕ) → i < 64 * width → rows_of out stride r i ≡ rows_of ws stride r i
  pub done : (q : ℕ) → q < m → ¬ (q ≡ r) → (i : ℕ) → i < 64 * width
      → rows_of out stride q i ≡ rows_of ws stride q i ⊕ rows_of ws stride q c && rows_of ws stride r i
  pub rest : (q : ℕ) → m ≤ q → (i : ℕ) → i < 64 * width → rows_of out stride q i ≡ rows_of ws stride q i

-- row r, with row p added if they are two
unfoldable pub brought : List ℕ → ℕ → ℕ → ℕ → Word
brought ws r p stride i = cond (eqb p r) (rows_of ws stride r i) (rows_of ws stride r i ⊕ rows_of ws stride p i)

pub record Brought (ws : List ℕ) (r p stride width : ℕ) (out : List ℕ) : Type 0 where
  pub kept : Kept ws (r * stride) width out
  pub here : (i : ℕ) → i < 64 * width → rows_of out stride r i ≡ brought ws r p stride i

pub record Pivoted (ws : List ℕ) (n r p stride width c : ℕ) (out : List ℕ) : Type 0 where
  pub kept : RowsKept ws n stride width out
  pub swept : Swept (64 * width) n r c (rows_of ws stride) (brought ws r p stride) (rows_of out stride)

-- the first c columns are reduced, with `rank` rows; all words but the rows' first `width` are as they were
pub record ReducedForm (ws : List ℕ) (n stride width c rank : ℕ) (out : List ℕ) : Type 0 where
  pub kept : RowsKept ws n stride width out
  pub rows : Reducing (64 * width) n (rows_of ws stride) c rank (rows_of out stride)

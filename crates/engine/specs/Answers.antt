-- What the functions of the boundary answer.
use Rattle.std.specs.Prelude.{◌≡◌, List, Bool, true, false, Option, MatchOption, ℕ, ◌+◌, ◌-◌, ◌*◌, ◌<◌, ◌≤◌, length}
use Rattle.span.specs.Def.{DependentRows, IndependentRows}
use Rattle.elimination.specs.Rows.{rows_of, set_of, Stopped, Finished}
use Rattle.elimination.specs.declared.layout.Layout.{Layout}
use Rattle.reduction.specs.Columns.{ReducedForm}
use Rattle.reduction.specs.Packs.{Packed}

-- the answer to the question whether A
abbrev pub Tells : Bool → Type 0 → Type 0
Tells true A = A
Tells false A = ¬ A

-- the layout of these sizes, exactly where A holds
abbrev pub LaidOut : ℕ → ℕ → ℕ → Type 0 → Option Layout → Type 0
LaidOut stride width lead A r = MatchOption r (¬ A) (λ l. A × (l.stride ≡ stride) × (l.width ≡ width) × (l.lead ≡ lead))

-- `rows` rows, of which `width` words are used, fit n words
pub record Fits (n rows stride width : ℕ) : Type 0 where
  pub widths : width ≤ stride
  pub strides : 0 < stride
  pub words : rows * stride ≤ n

-- and the slots of `lead` words fit m
pub record Sized (n m rows stride width lead : ℕ) : Type 0 where
  pub leads : lead ≤ width
  pub slots : 64 * lead ≤ m
  pub fits : Fits n rows stride width

-- a set of rows fits the words from `lead` to `width`
abbrev pub Roomy : ℕ → ℕ → ℕ → Type 0
Roomy rows width lead = 64 * lead + rows ≤ 64 * width

abbrev pub bad : ℕ
bad = 18446744073709551615

-- the number r of the first row that is a sum of those before it, or of the rows, if none is
pub record Eliminates (ws : List ℕ) (rows stride width lead : ℕ) (slots out slots' : List ℕ) (r : ℕ) : Type 0 where
  pub within : Sized (length ws) (length slots) rows stride width lead → r ≤ rows
  pub found : Sized (length ws) (length slots) rows stride width lead → r < rows → Stopped ws rows stride width lead slots out slots' r
  pub none : Sized (length ws) (length slots) rows stride width lead → r ≡ rows → Finished ws rows stride width lead slots out slots'
  pub refused : ¬ Sized (length ws) (length slots) rows stride width lead → (r ≡ bad) × (out ≡ ws) × (slots' ≡ slots)

-- the set that row d carries is dependent, has nothing above d, and no dependent set ends before d
pub record FirstSet (ws : List ℕ) (stride width lead : ℕ) (out : List ℕ) (d : ℕ) : Type 0 where
  pub set : DependentRows (64 * lead) (rows_of ws stride) d (set_of out stride lead d)
  pub ends : (p : ℕ) → d < p → p < 64 * (width - lead) → set_of out stride lead d p ≡ false
  pub before : IndependentRows (64 * lead) (rows_of ws stride) d

pub record FirstSets (ws : List ℕ) (rows stride width lead : ℕ) (slots out slots' : List ℕ) (r : ℕ) : Type 0 where
  pub within : Sized (length ws) (length slots) rows stride width lead × Roomy rows width lead → r ≤ rows
  pub found : Sized (length ws) (length slots) rows stride width lead × Roomy rows width lead → r < rows → FirstSet ws stride width lead out r
  pub none : Sized (length ws) (length slots) rows stride width lead × Roomy rows width lead → r ≡ rows → IndependentRows (64 * lead) (rows_of ws stride) rows
  pub refused : ¬ (Sized (length ws) (length slots) rows stride width lead × Roomy rows width lead) → (r ≡ bad) × (out ≡ ws) × (slots' ≡ slots)

-- the rows are reduced, and then packed
pub record Basis (ws : List ℕ) (rows stride width k : ℕ) (out : List ℕ) (rank : ℕ) : Type 0 where
  pub middle : List ℕ
  pub form : ReducedForm ws rows stride width k rank middle
  pub packs : Packed middle rank stride width (rows * stride) out

pub record Bases (ws : List ℕ) (rows stride width k : ℕ) (out : List ℕ) (r : ℕ) : Type 0 where
  pub done : Fits (length ws) rows stride width × Roomy k width 0 → Basis ws rows stride width k out r
  pub refused : ¬ (Fits (length ws) rows stride width × Roomy k width 0) → (r ≡ bad) × (out ≡ ws)

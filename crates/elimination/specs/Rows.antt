-- Rows in a buffer, and what elimination does to it.
use Rattle.std.specs.Prelude.{◌≡◌, List, Bool, true, false, ℕ, ◌+◌, ◌-◌, ◌*◌, ◌<◌, ◌≤◌, Option, Some, None, length, get_or}
use Rattle.digits.specs.Def.{Word, bits_from}
use Rattle.span.specs.Def.{Zero, Plus, Leading, Slotted, Eliminated, Tagged}
use Rattle.elimination.specs.Words.{Kept}

-- the rows of a buffer, each `stride` words after the one before
abbrev pub rows_of : List ℕ → ℕ → ℕ → Word
rows_of ws stride p = bits_from ws (p * stride)

-- the set that row d carries behind its first `lead` words
abbrev pub set_of : List ℕ → ℕ → ℕ → ℕ → ℕ → Bool
set_of ws stride lead d p = bits_from ws (d * stride) (64 * lead + p)

-- one more than the row that the bit b leads, or 0
abbrev pub slot_of : List ℕ → ℕ → ℕ
slot_of slots b = get_or slots b 0

-- some rows before r were added into the first `width` words of row r, whose leading bit is now b; all other words are as they were
pub record Reduced (ws : List ℕ) (r stride width lead : ℕ) (out : List ℕ) (b : ℕ) : Type 0 where
  pub kept : Kept ws (r * stride) width out
  pub plus : Plus (64 * width) r (rows_of ws stride) (rows_of ws stride r) (rows_of out stride r)
  pub leading : Leading (64 * lead) (rows_of out stride r) b

-- of the slots, those of the first n bits alone may be others than before
pub record SlotsKept (n : ℕ) (slots out : List ℕ) : Type 0 where
  pub long : length out ≡ length slots
  pub behind : (b : ℕ) → n ≤ b → slot_of out b ≡ slot_of slots b

-- Some rows before r were added into the first `width` words of row r, all other words being as they were: either it now has a leading bit of its
-- own, which its slot tells, or it is zero in its first `lead` words.
pub record Taken (ws : List ℕ) (r stride width lead : ℕ) (slots out slots' : List ℕ) (t : Bool) : Type 0 where
  pub kept : Kept ws (r * stride) width out
  pub plus : Plus (64 * width) r (rows_of ws stride) (rows_of ws stride r) (rows_of out stride r)
  pub slots_kept : SlotsKept (64 * lead) slots slots'
  pub yes : t ≡ true → Slotted (64 * lead) (r + 1) (rows_of out stride) (slot_of slots')
  pub no : t ≡ false → Zero (64 * lead) (rows_of out stride r) × Slotted (64 * lead) r (rows_of out stride) (slot_of slots')

-- The first m rows are made from those of `ws`, and the first n of them have leading bits of their own. The words of each row behind its first
-- `width`, and all words behind the m rows, are as they were.
pub record Eliminating (ws : List ℕ) (n m stride width lead : ℕ) (out slots : List ℕ) : Type 0 where
  pub long : length out ≡ length ws
  pub rows : Eliminated (64 * lead) (64 * width) n m (rows_of ws stride) (rows_of out stride) (slot_of slots)
  pub between : (p k : ℕ) → p < m → width ≤ k → k < stride → get_or out (p * stride + k) 0 ≡ get_or ws (p * stride + k) 0
  pub behind : (j : ℕ) → m * stride ≤ j → get_or out j 0 ≡ get_or ws j 0

-- row d is zero in its first `lead` words, and those before it have leading bits of their own
pub record Stopped (ws : List ℕ) (rows stride width lead : ℕ) (slots out slots' : List ℕ) (d : ℕ) : Type 0 where
  pub place : d < rows
  pub state : Eliminating ws d (d + 1) stride width lead out slots'
  pub zero : Zero (64 * lead) (rows_of out stride d)
  pub slots_kept : SlotsKept (64 * lead) slots slots'

-- all rows have leading bits of their own
pub record Finished (ws : List ℕ) (rows stride width lead : ℕ) (slots out slots' : List ℕ) : Type 0 where
  pub state : Eliminating ws rows rows stride width lead out slots'
  pub slots_kept : SlotsKept (64 * lead) slots slots'

abbrev pub Outcome : List ℕ → ℕ → ℕ → ℕ → ℕ → List ℕ → List ℕ → List ℕ → Option ℕ → Type 0
Outcome ws rows stride width lead slots out slots' (Some d) = Stopped ws rows stride width lead slots out slots' d
Outcome ws rows stride width lead slots out slots' None = Finished ws rows stride width lead slots out slots'

-- the first n rows carry the sets of themselves alone in their words from `lead` to `width`; all other words are as they were
pub record Tagging (ws : List ℕ) (n stride width lead : ℕ) (out : List ℕ) : Type 0 where
  pub long : length out ≡ length ws
  pub tags : Tagged (64 * lead) (64 * (width - lead)) n (rows_of out stride)
  pub before : (p k : ℕ) → p < n → k < lead → get_or out (p * stride + k) 0 ≡ get_or ws (p * stride + k) 0
  pub between : (p k : ℕ) → p < n → width ≤ k → k < stride → get_or out (p * stride + k) 0 ≡ get_or ws (p * stride + k) 0
  pub behind : (j : ℕ) → n * stride ≤ j → get_or out j 0 ≡ get_or ws j 0

-- What the basis calls promise.
use Rattle.std.specs.Prelude.{◌≡◌, List, ℕ, ◌*◌, ◌^◌, ◌<◌, ◌≤◌, length, get_or, take, drop, Result, Ok, Err}
use Rattle.theory.specs.Def.{Spanned, Reduced}
use Rattle.digits.specs.Def.{Word, Clear, bits_of}
use Rattle.kinds.specs.Generator.{Machine}
use Rattle.document.specs.declared.Fields.{Fields}
use Rattle.document.specs.declared.Dimension.{Dimension}
use Rattle.document.specs.declared.Resolution.{Resolution}
use Rattle.document.specs.declared.refusals.Refusal.{Refusal}
use Rattle.document.specs.Answer.{refusal_number}
use Rattle.document.specs.Limits.{row_words, work_words}
use Rattle.document.specs.Generator.{machine}
use Rattle.document.specs.Refusals.{basis_refusal}
use Rattle.document.specs.Basis.{BasisOf}
use Rattle.rows.specs.Theorems.{RowOf}
use Rattle.filling.specs.Rows.{state_row}
use Rattle.basis.specs.declared.BasisReply.{BasisReply}

-- row i, "each row 8 words numbered like the set", one behind the other
unfoldable pub basis_row : List ℕ → ℕ → Word
basis_row ws i = bits_of (take row_words (drop (i * row_words) ws))

-- the first `rank` rows are the reduced row echelon form of the first n output bits' rows; zeros behind them, and the rest as it was
pub record Based (M : Machine) (l n : ℕ) (was : List ℕ) (rank : ℕ) (now : List ℕ) : Type 0 where
  pub rows : (i : ℕ) → i < n → RowOf M l i (state_row M l i)
  pub few : rank ≤ n
  pub lead : ℕ → ℕ
  pub reduced : Reduced M.size rank (basis_row now) lead
  pub past : (i : ℕ) → i < rank → Clear M.size (basis_row now i)
  pub sums : (i : ℕ) → i < rank → Spanned M.size n (state_row M l) (basis_row now i)
  pub all : (i : ℕ) → i < n → Spanned M.size rank (basis_row now) (state_row M l i)
  pub long : length now ≡ length was
  pub zeros : (j : ℕ) → row_words * rank ≤ j → j < work_words → get_or now j 0 ≡ 0
  pub rest : (j : ℕ) → work_words ≤ j → get_or now j 0 ≡ get_or was j 0

-- the first `words` words are the rows of the basis, "8 words for each unit of rank"; "the rank is never 0"
pub record Handed (g : Fields) (t : Dimension) (l : Resolution) (words : ℕ) (now : List ℕ) : Type 0 where
  pub rank : ℕ
  pub some : 0 < rank
  pub count : words ≡ row_words * rank
  pub rows : BasisOf (machine g) t.0 l.0 rank (basis_row now)
  pub small : (i : ℕ) → i < words → get_or now i 0 < 2 ^ 64

-- the reply in plain numbers: the words of the basis, and none with a refusal
abbrev pub reply_of : Result ℕ Refusal → BasisReply
reply_of (Ok words) = record { refusal = 0; words = words }
reply_of (Err refusal) = record { refusal = refusal_number refusal; words = 0 }

-- The lowest refusal, or the rows of the basis; then zeros up to the end of the work buffer, and further words as they were. With a refusal there are
-- no words, and the buffer is as it was.
pub record BasisRows (g : Fields) (t : Dimension) (l : Resolution) (was : List ℕ) (r : BasisReply) (now : List ℕ) : Type 0 where
  pub refusal : r.refusal ≡ basis_refusal g t.0 l.0 (length was)
  pub rows : r.refusal ≡ 0 → Handed g t l r.words now
  pub zeros : r.refusal ≡ 0 → (i : ℕ) → r.words ≤ i → i < work_words → get_or now i 0 ≡ 0
  pub rest : r.refusal ≡ 0 → (i : ℕ) → work_words ≤ i → get_or now i 0 ≡ get_or was i 0
  pub long : length now ≡ length was
  pub within : r.words ≤ length was
  pub refused : (r.refusal ≡ 0 → ⊥) → (r.words ≡ 0) × (now ≡ was)

-- the part of the lent buffer that is handed back: the basis, or nothing where the check call refuses
pub record BasisPart (g : Fields) (t : Dimension) (l : Resolution) (room : ℕ) (part : List ℕ) : Type 0 where
  pub accepted : basis_refusal g t.0 l.0 room ≡ 0 → Handed g t l (length part) part
  pub refused : (basis_refusal g t.0 l.0 room ≡ 0 → ⊥) → length part ≡ 0

-- What a question promises.
use Rattle.std.specs.Prelude.{◌≡◌, true, false, List, ℕ, ◌<◌, ◌^◌, length, get_or, replicate, Option, Some, None, Result, Ok, Err}
use Rattle.digits.specs.Def.{bits_of}
use Rattle.document.specs.declared.Fields.{Fields}
use Rattle.document.specs.declared.Dimension.{Dimension}
use Rattle.document.specs.declared.Resolution.{Resolution}
use Rattle.document.specs.declared.refusals.Refusal.{Refusal}
use Rattle.document.specs.Answer.{refusal_number}
use Rattle.document.specs.Limits.{row_words, work_words}
use Rattle.document.specs.Generator.{machine}
use Rattle.document.specs.Refusals.{question_refusal}
use Rattle.document.specs.Memory.{Front}
use Rattle.document.specs.Cells.{Answer}
use Rattle.question.specs.declared.Reply.{Reply}
use Rattle.question.specs.declared.Dependent.{Dependent}

-- the reply in plain numbers: yes where there is no dependent set
abbrev pub reply_of : Result (Option Dependent) Refusal → Reply
reply_of (Ok None) = record { refusal = 0; yes = true; d = 0; set = replicate row_words 0 }
reply_of (Ok (Some first)) = record { refusal = 0; yes = false; d = first.d; set = first.set }
reply_of (Err refusal) = record { refusal = refusal_number refusal; yes = false; d = 0; set = replicate row_words 0 }

-- The lowest refusal, or the answer; then the first words of the work buffer are zero, and the others as they were. With a refusal all other numbers are 0,
-- the set is empty, and the work buffer is as it was.
pub record Asked (g : Fields) (t : Dimension) (l : Resolution) (was : List ℕ) (r : Reply) (now : List ℕ) : Type 0 where
  pub refusal : r.refusal ≡ question_refusal g t.0 l.0 (length was)
  pub long : length r.set ≡ row_words
  pub small : (k : ℕ) → k < row_words → get_or r.set k 0 < 2 ^ 64
  pub answer : r.refusal ≡ 0 → Answer (machine g) t.0 l.0 r.yes r.d (bits_of r.set)
  pub memory : r.refusal ≡ 0 → Front work_words (λ _. 0) was now
  pub refused : (r.refusal ≡ 0 → ⊥) → (r.yes ≡ false) × (r.d ≡ 0) × ((i : ℕ) → ◌≡◌ {A = ℕ} (get_or r.set i 0) 0) × (now ≡ was)

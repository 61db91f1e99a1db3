-- What reading and writing promise.
use Rattle.std.specs.Prelude.{◌≡◌, List, ◌++◌, ℕ, length, drop, Result, Ok, Err}
use Rattle.document.specs.declared.Fields.{Fields}
use Rattle.document.specs.Description.{length_of, description, fields_of, no_fields}
use Rattle.document.specs.Refusals.{read_refusal, write_refusal}
use Rattle.document.specs.declared.refusals.Refusal.{Refusal}
use Rattle.document.specs.Answer.{refusal_number}
use Rattle.description.specs.declared.reading.Reading.{Reading}

-- with a refusal all other numbers are 0
abbrev pub refused_with : ℕ → Reading
refused_with n = record { refusal = n; fields = no_fields }

-- the reply that C gets, of what a parse answers
abbrev pub reading_of : Result Fields Refusal → Reading
reading_of (Ok fields) = record { refusal = 0; fields = fields }
reading_of (Err refusal) = refused_with (refusal_number refusal)

-- "Read takes bytes and gives the kind and the body's fields, those of other kinds zero", or the lowest refusal
pub record ReadAs (bs : List ℕ) (r : Reading) : Type 0 where
  pub number : r.refusal ≡ read_refusal bs
  pub accepted : read_refusal bs ≡ 0 → r.fields ≡ fields_of bs
  pub refused : (read_refusal bs ≡ 0 → ⊥) → r.fields ≡ no_fields

-- "Write puts the kind's length at the front of a lent byte buffer and leaves the rest"; a refusal leaves all
pub record WrittenAs (g : Fields) (was : List ℕ) (refusal : ℕ) (now : List ℕ) : Type 0 where
  pub number : refusal ≡ write_refusal g (length was)
  pub front : refusal ≡ 0 → now ≡ description g ++ drop (length_of g.kind) was
  pub kept : (refusal ≡ 0 → ⊥) → now ≡ was

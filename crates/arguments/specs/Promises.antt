-- What the call for k promises.
use Rattle.std.specs.Prelude.{◌≡◌, ℕ, Result, Ok, Err}
use Rattle.document.specs.declared.Fields.{Fields}
use Rattle.document.specs.declared.refusals.Refusal.{Refusal}
use Rattle.document.specs.Answer.{refusal_number}
use Rattle.document.specs.Generator.{size}
use Rattle.document.specs.Refusals.{field_refusal}
use Rattle.arguments.specs.declared.sizes.SizeReply.{SizeReply}

-- the reply in plain numbers
abbrev pub size_reply_of : Result ℕ Refusal → SizeReply
size_reply_of (Ok k) = record { refusal = 0; k = k }
size_reply_of (Err refusal) = record { refusal = refusal_number refusal; k = 0 }

-- k of the generator that the fields stand for; with a refusal 0
pub record SizedAs (g : Fields) (r : SizeReply) : Type 0 where
  pub number : r.refusal ≡ field_refusal g
  pub accepted : field_refusal g ≡ 0 → r.k ≡ size g
  pub refused : (field_refusal g ≡ 0 → ⊥) → r.k ≡ 0

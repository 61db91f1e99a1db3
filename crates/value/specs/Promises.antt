-- What the value call promises.
use Rattle.std.specs.Prelude.{◌≡◌, ℕ, Float, Result, Ok, Err}
use Rattle.std.specs.Float.{binary64}
use Rattle.std.specs.Float.Ieee.{of_bits}
use Rattle.document.specs.declared.refusals.Refusal.{Refusal}
use Rattle.document.specs.Answer.{refusal_number}
use Rattle.document.specs.Refusals.{value_refusal}
use Rattle.document.specs.Value.{value_bits}
use Rattle.value.specs.declared.Valued.{Valued}

-- the reply that C gets: with a refusal the value is zero
abbrev pub valued_of : Result Float Refusal → Valued
valued_of (Ok value) = record { refusal = 0; value = value }
valued_of (Err refusal) = record { refusal = refusal_number refusal; value = of_bits binary64 0 }

-- the refusal's number, and the float with the bits that document 01 gives; zero with a refusal
pub record ValuedAs (y L : ℕ) (r : Valued) : Type 0 where
  pub number : r.refusal ≡ value_refusal y L
  pub accepted : value_refusal y L ≡ 0 → r.value ≡ of_bits binary64 (value_bits y L)
  pub refused : (value_refusal y L ≡ 0 → ⊥) → r.value ≡ of_bits binary64 0

-- What the outputs call promises.
use Rattle.std.specs.Prelude.{◌≡◌, List, ℕ, length}
use Rattle.document.specs.declared.Fields.{Fields}
use Rattle.document.specs.Refusals.{outputs_refusal}
use Rattle.document.specs.Outputs.{OutputsOf}

-- "t numbers .. into the front of a lent buffer, the rest untouched"; a refusal leaves all
pub record RanAs (g : Fields) (t : ℕ) (state was : List ℕ) (refusal : ℕ) (now : List ℕ) : Type 0 where
  pub number : refusal ≡ outputs_refusal g t state (length was)
  pub front : refusal ≡ 0 → OutputsOf g t state was now
  pub kept : (refusal ≡ 0 → ⊥) → now ≡ was

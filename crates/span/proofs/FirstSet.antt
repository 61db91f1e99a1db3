-- The first dependent set of rows is the first of the output bits, and there is no other that ends there.
use Rattle.std.specs.Prelude.{Bool, ℕ, ◌<◌}
use Rattle.std.proofs.Common.{arith}
use Rattle.theory.specs.Def.{Bits, Linear, Dependent}
use Rattle.theory.specs.Theorems as Machine
use Rattle.digits.specs.Def.{Word}
use Rattle.span.specs.Def.{DependentRows, IndependentRows, RowsOf, FirstSet}
use Rattle.span.specs.Outputs.{dependent_outputs, independent_outputs, independent_even, dependent_uneven}

module _ {k L n : ℕ} {row : ℕ → Word} {out : ℕ → Bits k → Bool} (x : RowsOf L n row out) (linear : (i : ℕ) → Linear (out i)) where
  pub first_set : (d : ℕ) (S : ℕ → Bool) → d < n → DependentRows L row d S → IndependentRows L row d → FirstSet out d S
  first_set d S h y z =
      let s : Dependent out d S = dependent_outputs x d h S y in
      record {
        set = s;
        only = λ R r. Machine.unique out linear d (independent_outputs x d (omega arith) z) R S r s;
        even = λ m l. independent_even x linear m (omega arith) (λ e b. z e (omega arith));
        uneven = dependent_uneven x linear d S h y;
      }

use mathlib.Core.Path.{fun_ext, ap₂, ◌∙◌}
use native.Mathlib.Omega.{arith}
use Rattle.kinds.specs.Transpose.{taps}
use Rattle.document.specs.Generator.{coefficient}
use Rattle.running.proofs.PrepareLaws.{mask_is}
use Rattle.running.proofs.preparing.of_tausworthe.Goals as goal

pub invariant_of-result : goal.invariant_of-result
invariant_of-result c = record { taps = mask_is _ _ _ (omega arith) (omega arith) c.tap_mask.ensures; narrow = omega arith }

pub returns : goal.returns
unfolding coefficient
returns c = record {
  k = c.from-k.ensures;
  bits = c.from.ensures;
  nu = c.from-2.ensures;
  mask = λ i. c.tap_mask.ensures i ∙ ap₂ (λ n a. taps n a i) c.from-k.ensures (fun_ext c.coefficient_mask.ensures);
}

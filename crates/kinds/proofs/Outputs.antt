-- Each bit of each output is a sum of bits of the start state, since every move and output is.
use Rattle.std.specs.Prelude.{◌≡◌, ℕ}
use Rattle.std.proofs.Common.{ap, ◌∙◌}
use Rattle.std.proofs.Math.Path.{fun_ext}
use Rattle.theory.specs.Def.{◌⊕◌, bit, Linear}
use Rattle.theory.specs.Laws.{bit-⊞}
use Rattle.digits.specs.Def.{Word}
use Rattle.kinds.specs.Generator.{Machine, times, output_bit, ◌⊻◌}
use Rattle.kinds.specs.Linear.{LinearMachine, lin_then, lin_times}

pub output_sums : (M : Machine) → LinearMachine M → (n j : ℕ) (s t : Word) → output_bit M n j (s ⊻ t) ≡ output_bit M n j s ⊕ output_bit M n j t
unfolding output_bit ◌⊻◌
output_sums M l n j s t = ap (λ x. x j) (lin_then M.out (times n M.move) l.out (lin_times n M.move l.move) s t)

pub output_linear : (M : Machine) → LinearMachine M → (n j : ℕ) {k : ℕ} → Linear {k = k} (λ s. output_bit M n j (bit s))
unfolding ◌⊻◌
output_linear M l n j s t = ap (output_bit M n j) (fun_ext (bit-⊞ s t)) ∙ output_sums M l n j (bit s) (bit t)

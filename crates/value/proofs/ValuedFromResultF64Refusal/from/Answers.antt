-- Answered, so that an edit of what a refusal leaves is refused for the value that it sets.
use Rattle.std.specs.Float.{binary64}
use Rattle.std.specs.Float.Ieee.{of_bits}
use Rattle.value.proofs.ValuedFromResultF64Refusal.from.Goals as goal

pub returns-in-Err : goal.returns-in-Err
returns-in-Err c = rw c.in-Err.is (λ i. record { refusal = c.from.ensures i; value = of_bits binary64 0 })

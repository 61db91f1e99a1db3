-- `elimination::bit_at` meets its contract.
use Rattle.digits.specs.Def.{bits_from}
use Rattle.digits.specs.Parity.{digit_test}
use Rattle.elimination.proofs.bit_at.Goals as goal

pub returns : goal.returns
unfolding bits_from
returns c = digit_test _ _

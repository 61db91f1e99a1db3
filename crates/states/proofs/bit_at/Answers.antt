use Rattle.digits.specs.Def.{bits_of}
use Rattle.digits.specs.Parity.{digit_test}
use Rattle.states.proofs.bit_at.Goals as goal

pub returns : goal.returns
unfolding bits_of
returns c = digit_test _ _

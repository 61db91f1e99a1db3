use Rattle.digits.specs.Parity.{digit_test}
use Rattle.fields.proofs.coefficients.bit_at.Goals as goal

pub returns : goal.returns
returns c = digit_test _ _

use Rattle.std.proofs.Common.{arith}
use Rattle.document.specs.Refusals.{outside}
use Rattle.document.proofs.kind.KindTryFromU8.try_from.Goals as goal

pub returns-in_default : goal.returns-in_default
unfolding outside
returns-in_default c = grind arith

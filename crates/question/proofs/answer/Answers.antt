-- `question::answer` meets its contract.
use Rattle.std.proofs.Common.{arith}
use Rattle.running.specs.Theorems.{prepared_size}
use Rattle.filling.specs.Theorems.{ready-size}
use Rattle.question.proofs.Laws.{answered_as}
use Rattle.question.proofs.answer.Goals as goal

pub enough-n-requires : goal.enough-n-requires
enough-n-requires c = let x = c.in_ok-bits.ensures.accepted.0 in omega (arith, x.passed.t_most, prepared_size _ _ x.passed.accepted x.prepared)

pub decide-requires : goal.decide-requires
decide-requires c = (omega (arith, c.enough-n.ensures.most, ready-size c.in_ok-bits.bits.generator), c.in_ok-bits.ensures.accepted.1)

pub returns : goal.returns
returns c = answered_as _ _ _ _ _ c.in_ok-bits.ensures.accepted.0 c.in_ok-bits.ensures.number _ c.enough-n.ensures _ _ c.decide.ensures

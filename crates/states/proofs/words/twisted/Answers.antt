use Rattle.states.proofs.WordLaws.{twist_one, twist-none}
use native.Mathlib.Omega.{arith}
use Rattle.states.proofs.words.twisted.Goals as goal

pub returns-then-x-w-eq1 : goal.returns-then-x-w-eq1
returns-then-x-w-eq1 c = twist_one _ _ _ _ (omega arith) c.low-y.ensures c.requires.2 c.if-x-w-eq1.true

pub returns-else-x-w-eq1 : goal.returns-else-x-w-eq1
returns-else-x-w-eq1 c = twist-none _ _ _ _ (omega arith) c.low-y.ensures c.requires.0 c.requires.3 c.if-x-w-eq1.false

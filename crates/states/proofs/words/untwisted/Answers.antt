use Rattle.states.proofs.WordLaws.{untwist_one, untwist-none}
use Rattle.states.proofs.words.untwisted.Goals as goal

pub returns-then-a-y-eq1 : goal.returns-then-a-y-eq1
returns-then-a-y-eq1 c = let q = c.requires in untwist_one _ _ _ q.0 q.1 q.2 c.if-a-y-eq1.true

pub returns-else-a-y-eq1 : goal.returns-else-a-y-eq1
returns-else-a-y-eq1 c = let q = c.requires in untwist-none _ _ _ q.0 q.1 q.2 c.if-a-y-eq1.false

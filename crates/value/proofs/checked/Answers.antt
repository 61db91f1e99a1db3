-- Answered, so that an edit of the number asked for is refused for it.
use Rattle.value.proofs.checked.Goals as goal

pub returns-clause-accepted : goal.returns-clause-accepted
returns-clause-accepted c = c.fraction.ensures

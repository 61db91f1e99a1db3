-- Answered, so that an edit of what a refusal leaves is refused for the k that it sets.
use Rattle.arguments.proofs.sizes.SizeReplyFromResultUsizeRefusal.from.Goals as goal

pub returns-in-Err : goal.returns-in-Err
returns-in-Err c = rw c.in-Err.is (λ i. record { refusal = c.from.ensures i; k = 0 })

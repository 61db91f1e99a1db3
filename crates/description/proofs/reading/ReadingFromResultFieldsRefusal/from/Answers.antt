-- Answered, so that an edit of what a refusal leaves is refused for the field that it sets.
use Rattle.document.specs.Description.{no_fields}
use Rattle.description.proofs.reading.ReadingFromResultFieldsRefusal.from.Goals as goal

pub returns-in-Err : goal.returns-in-Err
returns-in-Err c = rw c.in-Err.is (λ i. record { refusal = c.from.ensures i; fields = no_fields })

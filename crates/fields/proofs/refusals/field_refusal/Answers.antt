use Rattle.document.specs.Lowest.{skips}
use Rattle.std.proofs.Common.{refl}
use Rattle.document.proofs.Columns.{kind_inside}
use Rattle.document.specs.Refusals.{range_refusal, field_refusal}
use Rattle.fields.proofs.refusals.field_refusal.Goals as goal

pub returns : goal.returns
unfolding field_refusal range_refusal
returns c = skips _ _ _ _ _ refl (kind_inside _ _ c.in_ok-try_from.ensures) c.range_refusal.ensures

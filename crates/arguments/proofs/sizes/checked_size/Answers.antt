use Rattle.std.proofs.Common.{sym}
use Rattle.document.proofs.Theorems.{ranges}
use Rattle.arguments.proofs.sizes.checked_size.Goals as goal

pub size-requires : goal.size-requires
size-requires c = ranges _ (sym c.in_ok-field_refusal.ensures)

-- Answered, so that an edit of the refusal is refused for its number.
use Rattle.std.specs.Prelude.{refl}
use Rattle.std.proofs.Common.{sym}
use Rattle.document.specs.Lowest.{gives, skips}
use Rattle.document.specs.Ranges.{passed}
use Rattle.arguments.proofs.refusals.pair_refusal.Goals as goal

pub returns-then-outside : goal.returns-then-outside
returns-then-outside c = skips 8 _ _ _ _ refl (passed 6 _ _ (sym c.in_ok-dimension_refusal.ensures)).0 (gives 8 _ _ _ c.outside.ensures c.if-outside.true)

use Rattle.document.specs.Limits.{row_words}
use Rattle.std.proofs.Common.{rules}
use Rattle.states.proofs.Made.{made}
use Rattle.states.proofs.StateLaws.{added_is}
use Rattle.states.proofs.added.Goals as goal

pub returns : goal.returns
returns c = let m = c.from_fn.ensures.items in added_is row_words _ _ _ (search rules) (search rules) m.long (made _ _ _ (λ i r q k. search rules) _ _ m)

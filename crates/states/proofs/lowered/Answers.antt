use Rattle.document.specs.Limits.{row_words}
use Rattle.std.proofs.Common.{rules}
use Rattle.states.proofs.Made.{made}
use Rattle.states.proofs.StateLaws.{lowered_is}
use Rattle.states.proofs.lowered.Goals as goal

pub returns : goal.returns
returns c = let m = c.from_fn.ensures.items in let q = c.requires in lowered_is row_words _ _ q.0 q.1 (search rules) (search rules) _ m.long (made _ _ _ (λ i r q k. search rules) _ _ m)

-- `listing_text::whole::put_refused` meets its contract.
use Rattle.std.proofs.Common.{sym, arith, rules}
use Rattle.listing_text.proofs.Laws.{finished}
use Rattle.listing_text.proofs.whole.put_refused.Goals as goal

pub returns : goal.returns
returns c = let same = sym c.refused.ensures.same in rw (← c.from.ensures) (finished c.refused.ensures (omega arith) (search rules))

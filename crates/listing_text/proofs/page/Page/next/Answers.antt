-- `listing_text::page::Page::next` meets its contract.
use Rattle.std.proofs.Common.{arith}
use Rattle.listing_text.proofs.Laws.{added_then, added_wide}
use Rattle.listing_text.specs.Text.{next}
use Rattle.listing_text.proofs.page.Page.next.Goals as goal

pub returns : goal.returns
unfolding next
returns c = added_wide (added_then c.byte.ensures c.number.ensures) (omega arith)

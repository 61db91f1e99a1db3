-- `listing_text::page::Page::sums` meets its contract.
use Rattle.std.proofs.Common.{arith}
use Rattle.listing_text.proofs.Laws.{added_then, added_wide}
use Rattle.listing_text.specs.Text.{sums_line}
use Rattle.listing_text.proofs.page.Page.sums.Goals as goal

pub returns : goal.returns
unfolding sums_line
returns c = added_wide (added_then c.word.ensures (added_then c.next.ensures (added_then c.next-2.ensures c.byte.ensures))) (omega arith)

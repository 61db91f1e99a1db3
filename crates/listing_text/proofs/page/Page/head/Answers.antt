-- `listing_text::page::Page::head` meets its contract.
use Rattle.std.proofs.Common.{arith}
use Rattle.listing_text.proofs.Laws.{added_then, added_wide}
use Rattle.listing_text.specs.Text.{head_line}
use Rattle.listing_text.proofs.page.Page.head.Goals as goal

pub returns : goal.returns
unfolding head_line
returns c = added_wide (added_then c.word.ensures (added_then c.next.ensures (added_then c.word-2.ensures (added_then c.next-2.ensures c.byte.ensures)))) (omega arith)

-- `listing_text::page::Page::row` meets its contract.
use Rattle.std.proofs.Common.{arith}
use Rattle.listing_text.proofs.Laws.{added_then, added_wide}
use Rattle.listing_text.specs.Text.{row_line}
use Rattle.listing_text.proofs.page.Page.row.Goals as goal

pub returns : goal.returns
unfolding row_line
returns c = added_wide (added_then c.byte.ensures (added_then c.next.ensures (added_then c.next-2.ensures (added_then c.next-3.ensures (added_then c.next-4.ensures c.byte-2.ensures))))) (omega arith)

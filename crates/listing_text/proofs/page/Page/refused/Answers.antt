-- `listing_text::page::Page::refused` meets its contract.
use Rattle.std.proofs.Common.{arith}
use Rattle.listing_text.proofs.Laws.{added_then, added_wide}
use Rattle.listing_text.specs.Text.{refused_line}
use Rattle.listing_text.proofs.page.Page.refused.Goals as goal

pub returns : goal.returns
unfolding refused_line
returns c = added_wide (added_then c.word.ensures (added_then c.next.ensures c.byte.ensures)) (omega arith)

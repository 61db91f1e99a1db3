-- `listing_text::page::Page::me` meets its contract.
use Rattle.std.proofs.Common.{arith}
use Rattle.listing_text.proofs.Laws.{added_then, added_wide}
use Rattle.listing_text.specs.Text.{me_line}
use Rattle.listing_text.proofs.page.Page.me.Goals as goal

pub returns : goal.returns
unfolding me_line
returns c = added_wide (added_then c.word.ensures (added_then c.verdict.ensures c.byte.ensures)) (omega arith)

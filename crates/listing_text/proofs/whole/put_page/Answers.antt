-- `listing_text::whole::put_page` meets its contract. Part after part, and no part is longer than its lines.
use Rattle.std.proofs.Common.{sym, arith, rules}
use Rattle.listing_text.specs.Text.{dimension_line, resolution_line, page_of}
use Rattle.listing_text.proofs.Laws.{added_then, finished}
use Rattle.listing_text.proofs.whole.put_page.Goals as goal

pub returns : goal.returns
unfolding page_of dimension_line resolution_line
returns c =
    let x = added_then c.head.ensures (added_then c.table.ensures (added_then c.table-2.ensures (added_then c.sums.ensures c.me.ensures))) in
    let same = sym x.same in
    finished x (omega (arith, c.requires.0.size)) (search rules)

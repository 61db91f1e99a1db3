-- `listing_text::page::Page::table` meets its contract. The loop's invariant: the lines of the entries 1 to i are written.
use Rattle.std.proofs.Common.{◌*◌, ◌-◌, get_or}
use Rattle.listing_text.specs.Text.{line_bytes, lines_to, row_line}
use Rattle.listing_text.specs.Wrote.{Added}
use Rattle.listing_text.proofs.page.Page.table.Given as goal

abbrev pub invariant-loop-i : goal.invariant-loop-i
invariant-loop-i g l =
    Added (l.i * line_bytes) l.initial.self
    (lines_to l.i (λ n. row_line l.letter n (g.A.Axis.most l.sizes n) (get_or l.table (n - 1) 0) (g.A.Axis.most l.sizes n - get_or l.table (n - 1) 0))) l.self

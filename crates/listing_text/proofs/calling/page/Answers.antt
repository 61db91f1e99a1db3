-- An accepted description is prepared, its report is that of its machine, and the page of that is the listing.
use Rattle.std.proofs.Common.{sym, arith}
use Rattle.listing_text.proofs.Text.{read_accepted, made}
use Rattle.listing_text.proofs.calling.page.Goals as goal

pub prepare-p-requires : goal.prepare-p-requires
prepare-p-requires c = rw c.in_ok-parse.ensures.accepted (read_accepted _ (sym c.in_ok-parse.ensures.number))

pub put_page-requires : goal.put_page-requires
put_page-requires c =
    let x = c.in_ok-parse.ensures in
    let s = c.sizes.ensures in
    ((made c.args.bytes.now _ _ _ _ _ _ _ x.number x.accepted c.prepare-p.ensures s.state s.output c.report_of-report.ensures).fits, omega arith)

pub returns : goal.returns
returns c =
    let x = c.in_ok-parse.ensures in
    let s = c.sizes.ensures in
    rw (made c.args.bytes.now _ _ _ _ _ _ _ x.number x.accepted c.prepare-p.ensures s.state s.output c.report_of-report.ensures).text at c.put_page.ensures

-- What refuses the reading gives its line.
use Rattle.std.proofs.Common.{sym, ap, ◌∙◌, arith}
use Rattle.document.proofs.Refused.{refused}
use Rattle.listing_text.specs.Text.{refused_line}
use Rattle.listing_text.proofs.Text.{listing_refused, listed}
use Rattle.listing_text.proofs.calling.listing.Goals as goal

pub returns-in-Err : goal.returns-in-Err
returns-in-Err c =
    let (e, kept) = c.in-Err.ensures in
    let w = rw kept at c.put_refused.ensures in
    listed _ (omega arith) (ap refused_line e ∙ sym (listing_refused _ (λ z. refused _ (e ∙ z)))) w

-- A number below 10 is one digit, another is the digits of its tenth and then its last. The measure is the number.
use Rattle.listing_text.proofs.page.Page.+number.Given as goal

abbrev pub decreases-number : goal.decreases-number
decreases-number l = l.n

-- `reduction::find_row` meets its contract.
use Rattle.std.proofs.Common.{◌≡◌, true, false, rules, tests}
use Rattle.std.proofs.lemmas.Iterator.{first_from_Range}
use Rattle.elimination.specs.Rows.{rows_of}
use Rattle.reduction.proofs.find_row.Goals as goal

pub returns : goal.returns
returns c =
    let ws = c.args.buf.now in
    let w = c.args.stride in
    first_from_Range _ _ _ _ (λ p. rows_of ws w p c.args.c ≡ true) (λ p. rows_of ws w p c.args.c ≡ false) c.find.ensures.ran
    (λ x q k. search (rules, tests))
    (λ x q k. (search rules, search (rules, tests)))

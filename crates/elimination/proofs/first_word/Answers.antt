-- `elimination::first_word` meets its contract.
use Rattle.std.proofs.Common.{◌≡◌, ◌+◌, get_or, arith, rules, tests}
use Rattle.std.proofs.lemmas.Iterator.{first_from_Range}
use Rattle.std.proofs.lemmas.List.{get_or_read}
use Rattle.elimination.proofs.first_word.Goals as goal

pub returns : goal.returns
returns c =
    let ws = c.args.buf.now in
    let at = c.args.at in
    first_from_Range _ _ _ _ (λ k. ¬ (get_or ws (at + k) 0 ≡ 0)) (λ k. get_or ws (at + k) 0 ≡ 0) c.find.ensures.ran
    (λ x q k. grind (arith, tests, get_or_read))
    (λ x q k. (search rules, grind (arith, tests, get_or_read)))

-- `elimination::leading_bit` meets its contract.
use Rattle.std.proofs.Common.{ℕ, ◌+◌, get_or, arith}
use lib.Count.{trailing_le}
use Rattle.digits.specs.Lowest.{lowest-digit}
use Rattle.elimination.proofs.RowBits.{zero_words, leading_found, leading_none}
use Rattle.elimination.proofs.leading_bit.Goals as goal

pub overflow_mul-result : goal.overflow_mul-result
overflow_mul-result c = omega (arith, c.in-Some.ensures)

pub overflow_add-result-in-Some : goal.overflow_add-result-in-Some
overflow_add-result-in-Some c =
    let word : ℕ = get_or c.args.buf.now (c.args.at + c.in-Some.k) 0 in
    omega (arith, c.in-Some.ensures, trailing_le 64 word)

pub returns-in-Some : goal.returns-in-Some
returns-in-Some c =
    let f = c.in-Some.ensures in
    leading_found _ _ _ (zero_words _ _ _ _ c.requires.3 f.3) _ _ f.1 (lowest-digit 64 _ (c.type_inv.buf (c.args.at + c.in-Some.k)).fits f.2)

pub returns-in-None : goal.returns-in-None
returns-in-None c = leading_none _ _ _ (zero_words _ _ _ _ c.requires.3 c.in-None.ensures)

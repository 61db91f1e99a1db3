-- `basis::basis_words` meets its contract.
use Rattle.std.proofs.Common.{arith, rules}
use Rattle.filling.specs.Theorems.{size_most}
use Rattle.basis.proofs.Laws.{product_fits, handed}
use Rattle.basis.proofs.basis_words.Goals as goal

pub overflow_mul-t : goal.overflow_mul-t
overflow_mul-t c = omega (arith, product_fits _ _ _ _ c.in_ok-bits.ensures.accepted.0)

pub reduced_rows-rank-requires : goal.reduced_rows-rank-requires
reduced_rows-rank-requires c =
    let (x, few, room) = c.in_ok-bits.ensures.accepted in
    (omega (arith, few, size_most _ _ x.passed.accepted x.prepared), room)

pub overflow_mul-result : goal.overflow_mul-result
overflow_mul-result c = omega (arith, c.reduced_rows-rank.ensures.few, product_fits _ _ _ _ c.in_ok-bits.ensures.accepted.0)

pub returns : goal.returns
returns c =
    let (x, few, room) = c.in_ok-bits.ensures.accepted in
    handed _ _ _ _ _ x few room c.in_ok-bits.ensures.number _ _ (λ i. search rules) (rw (← x.same) at c.reduced_rows-rank.ensures)

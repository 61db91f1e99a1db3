-- `basis::admitted` meets its contract: the shared chain, and where that gives none, the product and the room.
use Rattle.std.proofs.Common.{sym, arith}
use Rattle.std.proofs.lemmas.Result.{err_from_is_err_and}
use Rattle.document.proofs.Refused.{refused}
use Rattle.arguments.specs.Passed.{room_passed}
use Rattle.basis.proofs.Laws.{sized, product_fits, product_refused, product_passed, asked_refused}
use Rattle.basis.proofs.admitted.Goals as goal

pub returns-in_err-bits-clause-number : goal.returns-in_err-bits-clause-number
returns-in_err-bits-clause-number c =
    let p = err_from_is_err_and c.from_residual.result c.from_residual.ensures.1 in
    rw (p.1, p.2) (asked_refused _ _ _ _ _ c.in_err-bits.ensures.number (refused _))

pub overflow_mul-t : goal.overflow_mul-t
overflow_mul-t c = omega (arith, product_fits _ _ _ _ c.in_ok-bits.ensures.accepted)

pub returns-then-size-t-clause-number : goal.returns-then-size-t-clause-number
returns-then-size-t-clause-number c = let x = c.in_ok-bits.ensures in product_refused _ _ _ _ x.accepted _ x.number _ c.size.ensures c.if-size-t.true

pub returns-in_err-room_refusal-clause-number : goal.returns-in_err-room_refusal-clause-number
returns-in_err-room_refusal-clause-number c =
    let x = c.in_ok-bits.ensures in
    let p = err_from_is_err_and c.from_residual-in_err-room_refusal.result c.from_residual-in_err-room_refusal.ensures.1 in
    rw (p.1, p.2) (product_passed _ _ _ _ x.accepted _ x.number _ c.size.ensures c.if-size-t.false _ c.in_err-room_refusal.ensures)

pub returns-clause-number : goal.returns-clause-number
returns-clause-number c =
    let x = c.in_ok-bits.ensures in
    product_passed _ _ _ _ x.accepted _ x.number _ c.size.ensures c.if-size-t.false _ c.in_ok-room_refusal.ensures

pub returns-clause-accepted : goal.returns-clause-accepted
returns-clause-accepted c =
    let x = c.in_ok-bits.ensures.accepted in
    (x, omega (arith, c.if-size-t.false, c.size.ensures, sized _ _ _ _ x), room_passed _ _ (sym c.in_ok-room_refusal.ensures))

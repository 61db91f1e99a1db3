-- `question::admitted` meets its contract: the shared chain, and where that gives none, the room.
use Rattle.std.proofs.Common.{refl, sym}
use Rattle.std.proofs.lemmas.Result.{err_from_is_err_and}
use Rattle.document.proofs.Refused.{refused}
use Rattle.document.specs.Limits.{work_words}
use Rattle.document.specs.Refusals.{question_refusal, room_cases}
use Rattle.arguments.specs.Passed.{asked_first, asked_then, room_passed}
use Rattle.question.proofs.admitted.Goals as goal

pub returns-in_err-bits-clause-number : goal.returns-in_err-bits-clause-number
unfolding question_refusal
returns-in_err-bits-clause-number c =
    let a = c.args in
    let p = err_from_is_err_and c.from_residual.result c.from_residual.ensures.1 in
    rw (p.1, p.2) (asked_first a.g a.t.0 a.l.0 (room_cases work_words a.room) _ c.in_err-bits.ensures.number (refused _))

pub returns-in_err-room_refusal-clause-number : goal.returns-in_err-room_refusal-clause-number
unfolding question_refusal
returns-in_err-room_refusal-clause-number c =
    let a = c.args in
    let p = err_from_is_err_and c.from_residual-in_err-room_refusal.result c.from_residual-in_err-room_refusal.ensures.1 in
    rw (p.1, p.2) (asked_then a.g a.t.0 a.l.0 (room_cases work_words a.room) _ _ c.in_ok-bits.ensures.number refl c.in_err-room_refusal.ensures)

pub returns-clause-number : goal.returns-clause-number
unfolding question_refusal
returns-clause-number c =
    let a = c.args in
    asked_then a.g a.t.0 a.l.0 (room_cases work_words a.room) _ _ c.in_ok-bits.ensures.number refl c.in_ok-room_refusal.ensures

pub returns-clause-accepted : goal.returns-clause-accepted
returns-clause-accepted c = (c.in_ok-bits.ensures.accepted, room_passed _ _ (sym c.in_ok-room_refusal.ensures))

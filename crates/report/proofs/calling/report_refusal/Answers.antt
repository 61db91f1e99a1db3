-- The fields' refusal, and where they have none, that of the room.
use Rattle.std.proofs.lemmas.Result.{err_from_is_err_and}
use Rattle.document.specs.Refusals.{field_cases, field_refusal, report_refusal}
use Rattle.document.specs.Lowest.{field_rises}
use Rattle.arguments.proofs.Chains.{refused_first, passed_then}
use Rattle.report.proofs.calling.report_refusal.Goals as goal

pub returns-in_err-field_refusal : goal.returns-in_err-field_refusal
unfolding field_refusal report_refusal
returns-in_err-field_refusal c =
    let p = err_from_is_err_and c.from_residual.result c.from_residual.ensures.1 in
    rw (p.1, p.2) (refused_first (field_cases c.args.g) _ _ c.in_err-field_refusal.ensures)

pub returns : goal.returns
unfolding field_refusal report_refusal
returns c = passed_then (field_cases c.args.g) _ _ (field_rises c.args.g) c.in_ok-field_refusal.ensures c.room_refusal.ensures

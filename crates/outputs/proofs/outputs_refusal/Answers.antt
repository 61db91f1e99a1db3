-- Each check's refusal is the call's where those before it refuse nothing. What the room is tested against is t by arithmetic, so that another
-- number is refused for its value.
use Rattle.std.proofs.Common.{sym, ap, arith, ◌∙◌}
use Rattle.std.proofs.lemmas.Result.{err_from_is_err_and}
use Rattle.document.proofs.Theorems.{ranges}
use Rattle.document.specs.Refusals.{lowest, field_cases, dimension_cases, state_cases, room_cases, field_refusal, outputs_refusal, late_bit}
use Rattle.document.specs.Lowest.{field_rises}
use Rattle.arguments.proofs.Chains.{refused_first, passed_then}
use Rattle.outputs.proofs.outputs_refusal.Goals as goal

pub returns-in_err-field_refusal : goal.returns-in_err-field_refusal
unfolding field_refusal outputs_refusal
returns-in_err-field_refusal c =
    let p = err_from_is_err_and c.from_residual.result c.from_residual.ensures.1 in
    rw (p.1, p.2) (refused_first (field_cases c.args.g) _ _ c.in_err-field_refusal.ensures)

pub size-k-requires : goal.size-k-requires
size-k-requires c = ranges _ (sym c.in_ok-field_refusal.ensures)

pub returns-in_err-dimension_refusal : goal.returns-in_err-dimension_refusal
unfolding field_refusal outputs_refusal late_bit
returns-in_err-dimension_refusal c =
    let p = err_from_is_err_and c.from_residual-in_err-dimension_refusal.result c.from_residual-in_err-dimension_refusal.ensures.1 in
    let a = c.args in
    rw (p.1, p.2) (passed_then (field_cases a.g) _ _ (field_rises a.g) c.in_ok-field_refusal.ensures
    (refused_first (dimension_cases _ a.t.0) _ _ (c.in_err-dimension_refusal.ensures ∙ ap (λ k. lowest (dimension_cases k a.t.0)) c.size-k.ensures)))

pub returns-in_err-state_refusal : goal.returns-in_err-state_refusal
unfolding field_refusal outputs_refusal late_bit
returns-in_err-state_refusal c =
    let p = err_from_is_err_and c.from_residual-in_err-state_refusal.result c.from_residual-in_err-state_refusal.ensures.1 in
    let a = c.args in
    rw (p.1, p.2) (passed_then (field_cases a.g) _ _ (field_rises a.g) c.in_ok-field_refusal.ensures
    (passed_then (dimension_cases _ a.t.0) _ _ (omega arith) (c.in_ok-dimension_refusal.ensures ∙ ap (λ k. lowest (dimension_cases k a.t.0)) c.size-k.ensures)
    (refused_first (state_cases _ a.state) _ _ (c.in_err-state_refusal.ensures ∙ ap (λ k. lowest (state_cases k a.state)) c.size-k.ensures))))

pub returns : goal.returns
unfolding field_refusal outputs_refusal late_bit
returns c =
    let a = c.args in
    passed_then (field_cases a.g) _ _ (field_rises a.g) c.in_ok-field_refusal.ensures
    (passed_then (dimension_cases _ a.t.0) _ _ (omega arith) (c.in_ok-dimension_refusal.ensures ∙ ap (λ k. lowest (dimension_cases k a.t.0)) c.size-k.ensures)
    (passed_then (state_cases _ a.state) _ _ (omega arith) (c.in_ok-state_refusal.ensures ∙ ap (λ k. lowest (state_cases k a.state)) c.size-k.ensures)
    (c.room_refusal.ensures ∙ ap (λ n. lowest (room_cases n a.room)) (omega arith))))

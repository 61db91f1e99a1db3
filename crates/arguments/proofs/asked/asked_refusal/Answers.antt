-- The fields' chain, and where that gives none, the pair's.
use Rattle.std.proofs.Common.{refl, sym, ap₂, ◌∙◌}
use Rattle.document.proofs.Refused.{refused_first}
use Rattle.document.proofs.Theorems.{ranges}
use Rattle.document.specs.Refusals.{lowest, pair_cases}
use Rattle.document.specs.Lowest.{fields_then}
use Rattle.arguments.proofs.asked.asked_refusal.Goals as goal

pub returns-in_err-field_refusal : goal.returns-in_err-field_refusal
returns-in_err-field_refusal c = refused_first _ _ _ _ c.from_residual.ensures c.in_err-field_refusal.ensures

pub size-requires : goal.size-requires
size-requires c = ranges _ (sym c.in_ok-field_refusal.ensures)

pub returns : goal.returns
returns c =
    let a = c.args in
    fields_then a.g _ _ _ c.in_ok-field_refusal.ensures refl
    (c.pair_refusal.ensures ∙ ap₂ (λ k L. lowest (pair_cases k L a.t.0 a.l.0)) c.size.ensures c.from.ensures)

-- Two replies that keep the promise agree.
use Rattle.std.specs.Prelude.{◌≡◌}
use Rattle.std.proofs.Common.{sym, ◌∙◌}
use Rattle.std.proofs.Math.Logic.{by_cases}
use Rattle.std.proofs.Math.Decide.{ℕ_discrete}
use Rattle.document.specs.declared.Fields.{Fields}
use Rattle.document.specs.Refusals.{field_refusal}
use Rattle.arguments.specs.declared.sizes.SizeReply.{SizeReply}
use Rattle.arguments.specs.Promises.{SizedAs}

pub sizes_agree : (g : Fields) (x y : SizeReply) → SizedAs g x → SizedAs g y → x ≡ y
sizes_agree g x y p q = by_cases (ℕ_discrete (field_refusal g) 0)
    (λ e. λ i. record { refusal = (p.number ∙ sym q.number) i; k = (p.accepted e ∙ sym (q.accepted e)) i })
    (λ n. λ i. record { refusal = (p.number ∙ sym q.number) i; k = (p.refused n ∙ sym (q.refused n)) i })

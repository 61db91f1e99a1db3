-- Two replies that keep the promise agree, and leave the same memory.
use Rattle.std.specs.Prelude.{◌≡◌, List, ℕ}
use Rattle.std.proofs.Common.{sym, ◌∙◌}
use Rattle.std.proofs.Math.Logic.{by_cases}
use Rattle.std.proofs.Math.Decide.{ℕ_discrete}
use Rattle.document.specs.declared.Fields.{Fields}
use Rattle.document.specs.Theorems.{front_unique}
use Rattle.outputs.specs.Promises.{RanAs}

pub outputs_agree : (g : Fields) (t : ℕ) (state was : List ℕ) (m n : ℕ) (x y : List ℕ) → RanAs g t state was m x → RanAs g t state was n y → (m ≡ n) × (x ≡ y)
outputs_agree g t state was m n x y p q =
    let e : m ≡ n = p.number ∙ sym q.number in (
      e,
      by_cases (ℕ_discrete m 0)
          (λ h. front_unique t _ was x y (p.front h) (q.front (sym e ∙ h)))
          (λ h. p.kept h ∙ sym (q.kept (λ z. h (e ∙ z)))),
    )

-- Reading what was written gives the same generator, and is accepted.
use Rattle.std.specs.Prelude.{◌≡◌, refl, not, ◌||◌, ℕ, ◌<◌, length}
use Rattle.std.proofs.Math.Path.{sym, ap}
use Rattle.std.proofs.Common.{ap₂, ◌∙◌, arith, eq-eqb, ne_eqb}
use Rattle.std.proofs.Math.ListN.{get_or}
use Rattle.document.specs.declared.Fields.{Fields}
use Rattle.document.specs.Description.{length_of, description, fields_of}
use Rattle.document.specs.Refusals.{outside, bad_kind, stray_field, bad_own, bad_value, lowest, range_cases, read_refusal, field_refusal}
use Rattle.document.specs.Lowest.{skips}
use Rattle.document.specs.Ranges.{is_one, is_two, is_three, is_four, or-none, passed, Accepted, cases}
use Rattle.document.specs.RoundTrip.{Sized, again_one, again_two, again_three, again_four, written_length, head_kind}
use Rattle.document.proofs.Accepted.{accepted}

-- reading what was written gives the same generator
pub written_read : (g : Fields) → Sized g → field_refusal g ≡ 0 → fields_of (description g) ≡ g
unfolding field_refusal bad_value
written_read g x e =
    let (_, e₁) = passed 0 _ _ e in
    let (_, e₂) = passed 2 _ _ e₁ in
    let (_, e₃) = passed 3 _ _ e₂ in
    let (_, e₄) = passed 4 _ _ e₃ in
    let (f, _) = passed 5 (bad_value g) _ e₄ in
    let (_, y) = or-none (bad_own g) (stray_field g) f in
    cases g (accepted g e) (again_one g x y) (again_two g x y) (again_three g x y) (again_four g x y)

pub written_accepted : (g : Fields) → Sized g → field_refusal g ≡ 0 → read_refusal (description g) ≡ 0
unfolding field_refusal read_refusal
written_accepted g x e =
    let a : Accepted g = accepted g e in
    let (k, r) = passed 0 (bad_kind g) _ e in
    let n : length (description g) ≡ length_of g.kind = written_length g x a in
    let some : length (description g) ≡ 0 → ⊥ = λ z. omega (arith, length_of_some g a, n, z) in
    sym
    (skips 0 1 _ _ _ refl (ap₂ ◌||◌ (ne_eqb (length (description g)) 0 some) (ap (outside 1 4) (head_kind g) ∙ k))
    (skips 0 2 _ _ _ refl (ap not (eq-eqb (length (description g)) (length_of (get_or (description g) 0 0)) (n ∙ ap length_of (sym (head_kind g)))))
    (sym r ∙ ap (λ h. lowest (range_cases h)) (sym (written_read g x e)))))
  where
    length_of_some : (g : Fields) → Accepted g → 0 < length_of g.kind
    length_of_some g a = cases g a
        (λ e. rw (is_one {A = ℕ} g.kind 65 65 21 24 e) (omega arith)) (λ e. rw (is_two {A = ℕ} g.kind 65 65 21 24 e) (omega arith))
        (λ e. rw (is_three {A = ℕ} g.kind 65 65 21 24 e) (omega arith)) (λ e. rw (is_four {A = ℕ} g.kind 65 65 21 24 e) (omega arith))

-- Two replies that keep a promise agree, and leave the same memory; and reading and writing undo each other.
use Rattle.std.specs.Prelude.{◌≡◌, refl, List, [], ◌++◌, ℕ, ◌≤◌, ◌<◌, length, get_or, take, drop}
use Rattle.std.proofs.Common.{sym, ap, ap₂, ◌∙◌, arith, le-ltb}
use Rattle.std.proofs.Math.Logic.{by_cases}
use Rattle.std.proofs.Math.Decide.{ℕ_discrete}
use Rattle.std.proofs.Math.Seq.{take-append_seam}
use Rattle.document.specs.declared.Fields.{Fields}
use Rattle.document.specs.Description.{length_of, description, fields_of}
use Rattle.document.specs.Refusals.{field_cases, field_refusal, read_refusal, write_refusal}
use Rattle.document.specs.Lowest.{field_rises, then_of, skips, none_left, after}
use Rattle.document.specs.RoundTrip.{Sized}
use Rattle.document.specs.Theorems.{read_written, read_accepted, read_length}
use Rattle.document.proofs.Theorems.{written_read, written_accepted}
use Rattle.description.specs.declared.reading.Reading.{Reading}
use Rattle.description.specs.Promises.{ReadAs, WrittenAs}

pub readings_agree : (bs : List ℕ) (x y : Reading) → ReadAs bs x → ReadAs bs y → x ≡ y
readings_agree bs x y p q = by_cases (ℕ_discrete (read_refusal bs) 0)
    (λ e. λ i. record { refusal = (p.number ∙ sym q.number) i; fields = (p.accepted e ∙ sym (q.accepted e)) i })
    (λ n. λ i. record { refusal = (p.number ∙ sym q.number) i; fields = (p.refused n ∙ sym (q.refused n)) i })

pub writings_agree : (g : Fields) (was : List ℕ) (m n : ℕ) (x y : List ℕ) → WrittenAs g was m x → WrittenAs g was n y → (m ≡ n) × (x ≡ y)
writings_agree g was m n x y p q =
    let e : m ≡ n = p.number ∙ sym q.number in (
      e,
      by_cases (ℕ_discrete m 0)
          (λ h. p.front h ∙ sym (q.front (sym e ∙ h)))
          (λ h. p.kept h ∙ sym (q.kept (λ z. h (e ∙ z)))),
    )

-- ---- the return trip, of any reading and writing that keep their promises

write_goes : (g : Fields) (room : ℕ) → field_refusal g ≡ 0 → length_of g.kind ≤ room → write_refusal g room ≡ 0
unfolding write_refusal field_refusal
write_goes g room e h = sym (then_of 0 (field_cases g) _ 0 (field_rises g) e (skips 0 11 _ _ [] refl (le-ltb room (length_of g.kind) h) none_left))

write_went : (g : Fields) (room : ℕ) → write_refusal g room ≡ 0 → field_refusal g ≡ 0
unfolding write_refusal field_refusal
write_went g room e = (after 0 (field_cases g) _ (field_rises g) e).0

-- What a reading accepted, writing its fields into any buffer with room puts back: the very bytes, and the rest as it was.
pub read_then_written : (bs : List ℕ) → ((i : ℕ) → get_or bs i 0 < 256) → (r : Reading) → ReadAs bs r → r.refusal ≡ 0
    → (was : List ℕ) → length bs ≤ length was → (n : ℕ) (now : List ℕ) → WrittenAs r.fields was n now
    → (n ≡ 0) × (now ≡ bs ++ drop (length bs) was)
read_then_written bs h r p e was room n now q =
    let a : read_refusal bs ≡ 0 = sym p.number ∙ e in
    let f : r.fields ≡ fields_of bs = p.accepted a in
    let l : length bs ≡ length_of r.fields.kind = read_length bs a ∙ ap (λ (g : Fields). length_of g.kind) (sym f) in
    let z : n ≡ 0 = q.number ∙ write_goes r.fields (length was) (ap field_refusal f ∙ read_accepted bs a) (omega arith) in
    (z, q.front z ∙ ap₂ (λ d m. d ++ drop m was) (ap description f ∙ read_written bs h a) (sym l))

-- What a writing put, reading it accepts, and gives the very fields.
pub written_then_read : (g : Fields) → Sized g → (was : List ℕ) (n : ℕ) (now : List ℕ) → WrittenAs g was n now → n ≡ 0
    → (r : Reading) → ReadAs (take (length_of g.kind) now) r → (r.refusal ≡ 0) × (r.fields ≡ g)
written_then_read g x was n now q z r p =
    let a : field_refusal g ≡ 0 = write_went g (length was) (sym q.number ∙ z) in
    let goes : read_refusal (description g) ≡ 0 = written_accepted g x a in
    let back : fields_of (description g) ≡ g = written_read g x a in
    let long : length (description g) ≡ length_of g.kind = read_length (description g) goes ∙ ap (λ (g : Fields). length_of g.kind) back in
    let put : take (length_of g.kind) now ≡ description g = ap₂ take (sym long) (q.front z) ∙ take-append_seam (description g) _ in
    let e : read_refusal (take (length_of g.kind) now) ≡ 0 = ap read_refusal put ∙ goes in
    (p.number ∙ e, p.accepted e ∙ ap fields_of put ∙ back)

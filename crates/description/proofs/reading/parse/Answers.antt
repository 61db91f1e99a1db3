use Rattle.std.proofs.Common.{◌≡◌, sym, ap, ◌∙◌, length}
use Rattle.document.proofs.Refused.{passed_on}
use Rattle.document.proofs.Columns.{kind_inside}
use Rattle.document.specs.Refusals.{range_refusal}
use Rattle.description.proofs.Laws.{first_none, first_some, read_empty, read_kind, read_length, read_range}
use Rattle.description.proofs.reading.parse.Goals as goal

pub returns-in_default-clause-number : goal.returns-in_default-clause-number
returns-in_default-clause-number c = read_empty c.args.bytes.now (first_none _ c.in_default.ensures.value)

pub returns-in_err-try_from-clause-number : goal.returns-in_err-try_from-clause-number
returns-in_err-try_from-clause-number c =
    let (_, q) = first_some c.args.bytes.now _ c.in-Some.ensures.value in
    passed_on _ _ _ c.from_residual.ensures (rw c.in_err-try_from.ensures.0 (read_kind c.args.bytes.now (rw q at c.in_err-try_from.ensures.1)))

pub returns-then-bytes-length_of-clause-number : goal.returns-then-bytes-length_of-clause-number
returns-then-bytes-length_of-clause-number c =
    let (some, q) = first_some c.args.bytes.now _ c.in-Some.ensures.value in
    let other : length c.args.bytes.now ≡ c.length_of.result → ⊥ = c.if-bytes-length_of.true in
    read_length c.args.bytes.now some (kind_inside _ _ (c.in_ok-try_from.ensures ∙ q)) (λ e. other (e ∙ sym (rw q at c.length_of.ensures)))

pub returns-in_err-range_refusal-clause-number : goal.returns-in_err-range_refusal-clause-number
returns-in_err-range_refusal-clause-number c =
    let (some, q) = first_some c.args.bytes.now _ c.in-Some.ensures.value in
    passed_on _ _ _ c.from_residual-in_err-range_refusal.ensures
    (read_range c.args.bytes.now some (kind_inside _ _ (c.in_ok-try_from.ensures ∙ q)) _ (c.if-bytes-length_of.false ∙ rw q at c.length_of.ensures)
    (c.in_err-range_refusal.ensures ∙ ap range_refusal c.fields_of-g.ensures))

pub returns-clause-number : goal.returns-clause-number
returns-clause-number c =
    let (some, q) = first_some c.args.bytes.now _ c.in-Some.ensures.value in
    read_range c.args.bytes.now some (kind_inside _ _ (c.in_ok-try_from.ensures ∙ q)) _ (c.if-bytes-length_of.false ∙ rw q at c.length_of.ensures)
    (c.in_ok-range_refusal.ensures ∙ ap range_refusal c.fields_of-g.ensures)

-- answered, so that an edit of the fields is refused for them
pub returns-clause-accepted : goal.returns-clause-accepted
returns-clause-accepted c = c.fields_of-g.ensures

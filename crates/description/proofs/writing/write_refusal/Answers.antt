use Rattle.std.proofs.Common.{refl, lt-ltb, le-ltb}
use Rattle.document.proofs.Refused.{refused_first}
use Rattle.document.specs.Refusals.{write_refusal, field_refusal}
use Rattle.document.specs.Lowest.{gives, skips, none_left, fields_then}
use Rattle.description.proofs.writing.write_refusal.Goals as goal

pub returns-in_err-field_refusal : goal.returns-in_err-field_refusal
unfolding write_refusal field_refusal
returns-in_err-field_refusal c = refused_first _ _ _ _ c.from_residual.ensures c.in_err-field_refusal.ensures

pub returns-then-room-length_of : goal.returns-then-room-length_of
unfolding write_refusal field_refusal
returns-then-room-length_of c =
    fields_then _ _ _ _ c.in_ok-field_refusal.ensures refl
    (gives _ _ _ _ refl (lt-ltb _ _ (rw c.length_of.ensures at c.if-room-length_of.true)))

pub returns : goal.returns
unfolding write_refusal field_refusal
returns c =
    fields_then _ _ _ _ c.in_ok-field_refusal.ensures refl
    (skips _ _ _ _ _ refl (le-ltb _ _ (rw c.length_of.ensures at c.if-room-length_of.false)) none_left)

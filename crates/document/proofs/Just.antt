-- Where no field is refused, the fields lie in the ranges, and those that the kind hasn't got are zero.
use Rattle.std.specs.Prelude.{◌≡◌}
use Rattle.std.proofs.Common.{sym, ◌∙◌, arith}
use Rattle.document.specs.declared.Fields.{Fields}
use Rattle.document.specs.Refusals.{coefficient_past, bad_own, stray_field, bad_value, field_refusal}
use Rattle.document.specs.Ranges.{or-none, unset, all_passed}
use Rattle.document.specs.Just.{Just, none_set, stray1, stray2, stray3, stray4}
use Rattle.document.proofs.Accepted.{accepted}

pub accepted_just : (g : Fields) → field_refusal g ≡ 0 → Just g
unfolding field_refusal bad_value
accepted_just g e =
    let (_, s) = or-none (bad_own g) (stray_field g) (all_passed g e).value in
    record {
      ranges = accepted g e;
      nothing_stray = record {
        one = λ k. none_set _ (sym (stray1 g k) ∙ s);
        two = λ k. none_set _ (sym (stray2 g k) ∙ s);
        three = λ k. let (a, b) = or-none _ (coefficient_past g 0) (sym (stray3 g k) ∙ s) in (none_set _ a, λ i h. unset g 0 b i (omega arith) h);
        four = λ k. let (a, b) = or-none _ (coefficient_past g 0) (sym (stray4 g k) ∙ s) in (none_set _ a, λ i h. unset g 0 b i (omega arith) h);
      };
    }

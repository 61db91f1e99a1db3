-- Where no field is refused, the fields lie in the document's ranges.
use Rattle.std.specs.Prelude.{◌≡◌}
use Rattle.document.specs.declared.Fields.{Fields}
use Rattle.document.specs.Refusals.{lowest, field_cases, field_refusal}
use Rattle.document.specs.Ranges.{Accepted, Passed, all_passed, inside, ranges1, ranges2, ranges3, ranges4}

pub accepted : (g : Fields) → lowest (field_cases g) ≡ 0 → Accepted g
accepted g e =
    let x : Passed g = all_passed g e in
    let (a, b) = inside 1 4 g.kind x.kind in
    record { kind_least = a; kind_most = b; one = ranges1 g x; two = ranges2 g x; three = ranges3 g x; four = ranges4 g x }

-- the same, of the number that is given
pub ranges : (g : Fields) → field_refusal g ≡ 0 → Accepted g
unfolding field_refusal
ranges = accepted

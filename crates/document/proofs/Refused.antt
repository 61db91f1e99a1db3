-- A refusal has a number above 0, so 0 says that a check refused nothing; and what a `?` passes on.
use Rattle.std.proofs.Common.{arith}
use Rattle.document.specs.declared.refusals.Refusal.{Refusal}
use Rattle.document.specs.declared.refusals.Refusal.TheVariants as R
use Rattle.std.specs.Prelude.{◌≡◌, ℕ, List, ◌++◌, Result, IsErr, IsErrAnd}
use Rattle.std.proofs.lemmas.Result.{err_from_is_err_and}
use Rattle.document.specs.declared.Fields.{Fields}
use Rattle.document.specs.Answer.{refusal_number, refusal_of}
use Rattle.document.specs.Refusals.{Case, lowest, field_cases, field_refusal}
use Rattle.document.specs.Lowest.{fields_first}

pub refused : (e : Refusal) → refusal_number e ≡ 0 → ⊥
refused R.Kind h = omega (arith, h)
refused R.Length h = omega (arith, h)
refused R.Size h = omega (arith, h)
refused R.Bits h = omega (arith, h)
refused R.Shift h = omega (arith, h)
refused R.Value h = omega (arith, h)
refused R.Dimension h = omega (arith, h)
refused R.Resolution h = omega (arith, h)
refused R.State h = omega (arith, h)
refused R.Product h = omega (arith, h)
refused R.Room h = omega (arith, h)

-- ---- where a `?` leaves with a refusal

-- its number is what the check answered
pub passed_on : {A : Type 0} (r : Result A Refusal) (e : Refusal) (n : ℕ) → IsErr r × IsErrAnd r (λ x. x ≡ e) → refusal_number e ≡ n → refusal_of r ≡ n
passed_on r e n h q = let p = err_from_is_err_and r h.1 in rw (p.1, p.2) q

-- and where the fields were refused, that is the lowest of a longer list
pub refused_first : {A : Type 0} (g : Fields) (ds : List Case) (r : Result A Refusal) (e : Refusal) → IsErr r × IsErrAnd r (λ x. x ≡ e)
    → refusal_number e ≡ field_refusal g → refusal_of r ≡ lowest (field_cases g ++ ds)
refused_first g ds r e h q = passed_on r e _ h (fields_first g ds _ q (refused e))

-- One check after another: a refusal of the first cases is that of all; where the first refuse nothing, it is that of the others.
use Rattle.std.specs.Prelude.{◌≡◌, List, ◌++◌, ℕ}
use Rattle.std.proofs.Common.{sym}
use Rattle.document.specs.declared.refusals.Refusal.{Refusal}
use Rattle.document.specs.Answer.{refusal_number}
use Rattle.document.specs.Refusals.{Case, lowest}
use Rattle.document.specs.Lowest.{Rising, first_of, then_of}
use Rattle.document.proofs.Refused.{refused}

pub refused_first : (cs ds : List Case) (e : Refusal) → refusal_number e ≡ lowest cs → refusal_number e ≡ lowest (cs ++ ds)
refused_first cs ds e h = first_of cs ds _ (sym h) (refused e)

pub passed_then : (cs ds : List Case) (x : ℕ) → Rising 0 cs → 0 ≡ lowest cs → x ≡ lowest ds → x ≡ lowest (cs ++ ds)
passed_then cs ds x r h e = then_of 0 cs ds x r (sym h) e

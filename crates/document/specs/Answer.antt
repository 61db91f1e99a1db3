-- What a check answers: the number of a refusal, 0 where nothing is refused; and the kind that a byte names, or whose rules it goes by.
use Rattle.std.specs.Prelude.{◌≡◌, true, ℕ, Result, Ok, Err, MatchResult}
use Rattle.document.specs.declared.kind.Kind.{Kind}
use Rattle.document.specs.declared.kind.Kind.TheVariants.{Tausworthe, Gfsr, Twisted, Mersenne}
use Rattle.document.specs.declared.refusals.Refusal.{Refusal}
use Rattle.document.specs.declared.refusals.Refusal.TheVariants as R
use Rattle.document.specs.Generator.{by_kind}
use Rattle.document.specs.Refusals.{outside}

-- the first column of the table
abbrev pub refusal_number : Refusal → ℕ
refusal_number R.Kind = 1
refusal_number R.Length = 2
refusal_number R.Size = 3
refusal_number R.Bits = 4
refusal_number R.Shift = 5
refusal_number R.Value = 6
refusal_number R.Dimension = 7
refusal_number R.Resolution = 8
refusal_number R.State = 9
refusal_number R.Product = 10
refusal_number R.Room = 11

-- "Accepted is 0"
abbrev pub refusal_of : {A : Type 0} → Result A Refusal → ℕ
refusal_of (Ok _) = 0
refusal_of (Err refusal) = refusal_number refusal

-- the byte of a kind
abbrev pub kind_number : Kind → ℕ
kind_number Tausworthe = 1
kind_number Gfsr = 2
kind_number Twisted = 3
kind_number Mersenne = 4

-- the kind that a byte names; a byte that is not 1 to 4 names none
abbrev pub Names : ℕ → Result Kind Refusal → Type 0
Names byte answer = MatchResult answer (λ kind. kind_number kind ≡ byte) (λ e. (e ≡ R.Kind) × (outside 1 4 byte ≡ true))

-- the kind by whose rules every byte goes: `by_kind` gives a byte that names no kind what it gives the last one
abbrev pub column : ℕ → Kind
column byte = by_kind byte Tausworthe Gfsr Twisted Mersenne

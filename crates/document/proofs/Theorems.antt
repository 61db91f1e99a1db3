-- What is proved of document 01's definitions, beside `specs/Theorems.antt`: the return trip, the ranges, the numbering of bits.
use Rattle.std.specs.Prelude.{◌≡◌, ◌↔◌, ℕ, ◌+◌, ◌*◌, ◌≤◌, ◌<◌}
use Rattle.digits.specs.Def.{Word}
use Rattle.kinds.specs.Generator.{Machine, output_bit}
use Rattle.document.specs.declared.Fields.{Fields}
use Rattle.document.specs.Limits.{most_bits}
use Rattle.document.specs.Generator.{size}
use Rattle.document.specs.Refusals.{field_refusal, read_refusal}
use Rattle.document.specs.Description.{description, fields_of}
use Rattle.document.specs.RoundTrip.{Sized}
use Rattle.document.specs.Cells.{bit_of}
use Rattle.document.specs.Ranges.{Accepted}
use Rattle.document.specs.Just.{Just}
use Rattle.document.specs.Just as J
use Rattle.document.specs.Sizes as Z
use Rattle.document.specs.Numbering as N
use Rattle.document.proofs.Accepted as Q
use Rattle.document.proofs.Just as I
use Rattle.document.proofs.RoundTrip as V

-- ---- "Read then write gives the same bytes; write then read the same generator"

pub written_read : (g : Fields) → Sized g → field_refusal g ≡ 0 → fields_of (description g) ≡ g
written_read = V.written_read

pub written_accepted : (g : Fields) → Sized g → field_refusal g ≡ 0 → read_refusal (description g) ≡ 0
written_accepted = V.written_accepted

-- ---- the generator that the fields stand for

-- its fields lie in the document's ranges where they are not refused
pub ranges : (g : Fields) → field_refusal g ≡ 0 → Accepted g
ranges = Q.ranges

-- and no other fields do: what is not refused is just what lies in the ranges and has no field that its kind hasn't got
pub accepted_just : (g : Fields) → (field_refusal g ≡ 0) ↔ Just g
accepted_just g = (I.accepted_just g, J.just_accepted g)

-- k is at most 480
pub size_most : (g : Fields) → Accepted g → size g ≤ most_bits
size_most = Z.size_most

-- ---- the bits of cells

-- "The bits are numbered n·l + j for bit j of output n" (`Numbering.antt` has a case that tells it from the other numbering.)
pub bit_numbering : (M : Machine) (place : ℕ → ℕ) (l n j : ℕ) (s : Word) → j < l → bit_of M place l (n * l + j) s ≡ output_bit M (place n) j s
bit_numbering = N.bit_numbering

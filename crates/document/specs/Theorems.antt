-- What is proved of document 01's definitions. The starred cases stand in `Cases.antt`; `proofs/Theorems.antt` has the return
-- trip, the ranges and the numbering of bits.
use Rattle.std.specs.Prelude.{◌≡◌, Bool, true, List, ◌↔◌, ℕ, ◌*◌, ◌/◌, ◌%◌, ◌^◌, ◌≤◌, ◌<◌, length, get_or}
use Rattle.std.proofs.Common.{subst, mod-lt, lt_of_lt_of_le, arith}
use Rattle.theory.specs.Def.{pair, Linear, Equidistributed}
use Rattle.theory.proofs.Theorems as T
use Rattle.digits.specs.Def.{Word}
use Rattle.digits.specs.Laws.{number_below}
use Rattle.kinds.specs.Generator.{Machine}
use Rattle.kinds.specs.Linear.{LinearMachine}
use Rattle.kinds.specs.Reads.{LocalMachine}
use Rattle.kinds.proofs.Single.{output_single}
use Rattle.document.specs.declared.Fields.{Fields}
use Rattle.document.specs.Limits.{most_output}
use Rattle.document.specs.Generator.{machine, size}
use Rattle.document.specs.Refusals.{Case, lowest, read_cases, write_cases, outputs_cases, question_cases, basis_cases, report_cases, value_cases, field_refusal, read_refusal}
use Rattle.document.specs.Description.{length_of, description, fields_of}
use Rattle.document.specs.Lengths as Y
use Rattle.document.specs.RoundTrip.{Sized}
use Rattle.document.specs.RoundTrip as W
use Rattle.document.specs.Memory.{Front}
use Rattle.document.specs.Outputs.{output}
use Rattle.document.specs.Cells.{bit_of, successive, cell_bit, is_yes, Answer}
use Rattle.document.specs.Basis.{row, BasisOf}
use Rattle.document.specs.Lowest.{Applies, Rising}
use Rattle.document.specs.Lowest as L
use Rattle.document.specs.Ranges.{Accepted}
use Rattle.document.specs.Ranges as R
use Rattle.document.specs.Sizes as Z
use Rattle.document.specs.Agreement as A

-- ---- "Of several, the lowest is given; each is given exactly in its case."

-- 0 where no case is given
pub accepted_exactly : (cs : List Case) → Rising 0 cs → (lowest cs ≡ 0) ↔ ((m : ℕ) → ¬ Applies m cs)
accepted_exactly = L.accepted

-- n where n's case is given, and no lower one's
pub refused_exactly : (cs : List Case) → Rising 0 cs → (n : ℕ) → 0 < n → (lowest cs ≡ n) ↔ (Applies n cs × ((m : ℕ) → Applies m cs → n ≤ m))
refused_exactly = L.refused

-- the cases of each call are listed by rising numbers
pub read_rises : (bs : List ℕ) → Rising 0 (read_cases bs)
read_rises bs = omega arith

pub write_rises : (g : Fields) (room : ℕ) → Rising 0 (write_cases g room)
write_rises g room = omega arith

pub outputs_rises : (g : Fields) (t : ℕ) (state : List ℕ) (room : ℕ) → Rising 0 (outputs_cases g t state room)
outputs_rises g t state room = omega arith

pub question_rises : (g : Fields) (t l room : ℕ) → Rising 0 (question_cases g t l room)
question_rises g t l room = omega arith

pub basis_rises : (g : Fields) (t l room : ℕ) → Rising 0 (basis_cases g t l room)
basis_rises g t l room = omega arith

pub report_rises : (g : Fields) (room : ℕ) → Rising 0 (report_cases g room)
report_rises g room = omega arith

pub value_rises : (y L : ℕ) → Rising 0 (value_cases y L)
value_rises y L = omega arith

-- ---- "Read then write gives the same bytes; write then read the same generator"

pub read_written : (bs : List ℕ) → ((i : ℕ) → get_or bs i 0 < 256) → read_refusal bs ≡ 0 → description (fields_of bs) ≡ bs
read_written = W.read_written

pub read_accepted : (bs : List ℕ) → read_refusal bs ≡ 0 → field_refusal (fields_of bs) ≡ 0
read_accepted = W.read_accepted

-- what was read has its kind's length
pub read_length : (bs : List ℕ) → read_refusal bs ≡ 0 → length bs ≡ length_of (fields_of bs).kind
read_length = Y.read_length

-- ---- the generator that the fields stand for

-- L is the field, and at most 32
pub machine_width : (g : Fields) → (machine g).width ≡ g.bits
machine_width = Z.machine_width

pub width_most : (g : Fields) → Accepted g → (machine g).width ≤ most_output
width_most = Z.width_most

pub machine_linear : (g : Fields) → LinearMachine (machine g)
machine_linear = A.machine_linear

pub machine_local : (g : Fields) → Accepted g → LocalMachine (machine g)
machine_local = R.machine_local

pub cell_linear : (M : Machine) → LinearMachine M → (l i : ℕ) → Linear (cell_bit M l i)
cell_linear = A.cell_linear

-- ---- outputs, and the bits of cells

-- "each the L bits as a number below 2^L"
pub output_below : (g : Fields) (n : ℕ) (s : Word) → output (machine g) n s < 2 ^ g.bits
unfolding output
output_below g n s = subst (λ L. output (machine g) n s < 2 ^ L) (machine_width g) (number_below (machine g).width _)

-- output bit i is the sum of the state bits that its row names
pub row-sum : (g : Fields) → Accepted g → (l i : ℕ) → 1 ≤ l → l ≤ g.bits → (s : Word)
    → bit_of (machine g) successive l i s ≡ pair (size g) (row (machine g) l i) s
unfolding bit_of row
row-sum g x l i p h s =
    output_single (machine g) (A.machine_linear g) (R.machine_local g x) (i / l) (i % l) (lt_of_lt_of_le (mod-lt i p) (omega (arith, machine_width g))) s

-- ---- demand 3

-- the yes that is counted out is the even filling of the cells
pub yes_is_even : (M : Machine) → LinearMachine M → (t l : ℕ) → (is_yes M t l ≡ true) ↔ Equidistributed (cell_bit M l) (t * l)
unfolding is_yes
yes_is_even M x t l = T.counted (cell_bit M l) (A.cell_linear M x l) (t * l)

-- ---- two replies that a definition allows are one

pub answers_agree : (M : Machine) (t l : ℕ) (says says' : Bool) (d e : ℕ) (S T : ℕ → Bool) → Answer M t l says d S → Answer M t l says' e T
    → (says ≡ says') × (d ≡ e) × ((i : ℕ) → S i ≡ T i)
answers_agree = A.answers_agree

pub bases_agree : (M : Machine) (t l n m : ℕ) (R Q : ℕ → Word) → BasisOf M t l n R → BasisOf M t l m Q → (n ≡ m) × ((i : ℕ) → i < n → (b : ℕ) → R i b ≡ Q i b)
bases_agree = A.bases_agree

pub front_unique : (n : ℕ) (f : ℕ → ℕ) (was x y : List ℕ) → Front n f was x → Front n f was y → x ≡ y
front_unique = A.front_unique

-- "Small generators worked by hand": the starred cases 1 to 12 as one table, and the one statement that each reply in it is what the definitions give.
use Rattle.std.specs.Prelude.{◌≡◌, refl, Bool, true, false, ◌&&◌, List, [], ◌∷◌, ◌++◌, ℕ, ◌+◌, ◌^◌, eqb, length, get_or, replicate}
use Rattle.std.proofs.Common.{eqb-true}
use Rattle.theory.specs.Def.{xorsum, unit, bit, every, agree, hits, evenly, count}
use Rattle.theory.specs.Laws.{and_true_l, and_true_r}
use Rattle.digits.specs.Def.{digit, number_of, word_of, bits_of}
use Rattle.kinds.specs.Generator.{times, output_bit, ◌⊻◌, masked, right, left, join, twist, add_left, add_right, temper3, temper4, next_bit, stepped, word, enter, next2, next3, next4, tausworthe, gfsr, twisted, mersenne}
use Rattle.document.specs.declared.Fields.{Fields}
use Rattle.document.specs.Limits.{work_words}
use Rattle.document.specs.Generator.{by_kind, machine, coefficient}
use Rattle.document.specs.Description.{number, fields_of}
use Rattle.document.specs.Refusals.{lowest, outside, any, bad_words, bad_twist, bad_size, bad_bits, bad_pair, bad_shift, wide_word, one_set, stray_one, stray_twist, coefficient_past, bad_own, stray_field, bad_value, read_refusal, question_refusal, basis_refusal, value_refusal}
use Rattle.document.specs.Cells.{bit_of, cell_bit, is_yes, Answer}
use Rattle.document.specs.Basis.{row, BasisOf}
use Rattle.document.specs.Report.{largest, total, most_resolution, resolution, most_dimension, dimension, resolution_gap, dimension_gap, resolution_sum, dimension_sum, is_me}
use Rattle.document.specs.Value.{highest, fields64, value_bits}
use Rattle.document.specs.Agreement.{machine_linear}
use Rattle.document.specs.Decide.{all, is_sum, first_of, is_no, yes_answer, no_answer, well_led, covering, basis_rows}

-- ---- the table

-- what is said of a generator at (t, l): yes; no, with d and the set; the rows of the basis, by their first words; ME; the two sums
pub data Reply : Type 0 where
  says_yes : Reply
  says_no : ℕ → List ℕ → Reply
  basis : List ℕ → Reply
  ME : Reply
  sums : ℕ → ℕ → Reply

-- a case: its number, a description, t, l and the replies; or its number, Y, L and the bits of the value
pub data Case : Type 0 where
  asked : ℕ → List ℕ → ℕ → ℕ → List Reply → Case
  valued : ℕ → ℕ → ℕ → ℕ → Case

-- Gν: x_n = x_(n−3) + x_(n−4)
unfoldable pub G : ℕ → List ℕ
G ν = 0x01 ∷ 0x00 ∷ 0x04 ∷ 0x04 ∷ ν ∷ 0x30 ∷ replicate 59 0

-- kind 2, r=2, w=2, L=2, a_1=a_2=1
two : List ℕ
two = 0x02 ∷ 0x00 ∷ 0x02 ∷ 0x02 ∷ 0x02 ∷ 0xc0 ∷ replicate 59 0

-- kind 3, r=2, m=1, w=2, L=2, a=3, S=T=1, b=c=0
three : List ℕ
three = 0x03 ∷ (0x00 ∷ 0x02 ∷ []) ++ (0x00 ∷ 0x01 ∷ []) ++ (0x02 ∷ 0x02 ∷ []) ++ (0 ∷ 0 ∷ 0 ∷ 3 ∷ []) ++ (1 ∷ 1 ∷ []) ++ replicate 8 0

-- kind 4, r=2, m=1, w=2, p=1, L=2, a=3, shifts 2, b=c=0
four : List ℕ
four = 0x04 ∷ (0x00 ∷ 0x02 ∷ []) ++ (0x00 ∷ 0x01 ∷ []) ++ (0x02 ∷ 0x01 ∷ 0x02 ∷ []) ++ (0 ∷ 0 ∷ 0 ∷ 3 ∷ []) ++ (2 ∷ 2 ∷ []) ++ replicate 4 0 ++ (2 ∷ []) ++ replicate 4 0 ++ (2 ∷ [])

pub table : List Case
table =
    asked 1 (G 1) 2 1 (says_yes ∷ [])
    ∷ asked 2 (G 1) 2 2 (says_no 2 (1 ∷ 2 ∷ []) ∷ [])
    ∷ asked 3 (G 2) 2 2 (says_yes ∷ [])
    ∷ asked 4 (G 2) 4 1 (says_yes ∷ ME ∷ [])
    ∷ asked 5 (G 4) 2 2 (says_no 2 (0 ∷ 1 ∷ 2 ∷ []) ∷ [])
    ∷ asked 6 (G 4) 2 2 (basis (1 ∷ 2 ∷ 4 ∷ []) ∷ [])
    ∷ asked 7 (G 15) 2 1 (says_no 1 (0 ∷ 1 ∷ []) ∷ [])
    ∷ asked 8 two 2 2 (says_yes ∷ [])
    ∷ asked 9 two 3 1 (says_no 2 (0 ∷ 1 ∷ 2 ∷ []) ∷ sums 2 2 ∷ [])
    ∷ asked 10 three 4 1 (says_yes ∷ ME ∷ [])
    ∷ asked 11 four 3 1 (says_yes ∷ ME ∷ [])
    ∷ valued 12 1 1 0x3fe0000000000000
    ∷ []

-- Beside the document's: here the numbering n·l + j gives another d and set than resolution first (`Numbering.antt`); in the starred cases both give the same.
pub further : List Case
further = asked 18 (G 1) 3 2 (says_no 2 (1 ∷ 2 ∷ []) ∷ []) ∷ []

-- ---- what is right

-- a set by its members, in its first word
unfoldable pub set_of : List ℕ → ℕ
set_of [] = 0
set_of (i ∷ is) = 2 ^ i + set_of is

abbrev pub Holds : Fields → ℕ → ℕ → Reply → Type 0
Holds g t l says_yes = (question_refusal g t l work_words ≡ 0) × Answer (machine g) t l true 0 (λ _. false)
Holds g t l (says_no d S) = (question_refusal g t l work_words ≡ 0) × Answer (machine g) t l false d (digit (set_of S))
Holds g t l (basis ws) = (basis_refusal g t l work_words ≡ 0) × BasisOf (machine g) t l (length ws) (λ i. digit (get_or ws i 0))
Holds g t l ME = is_me (machine g) ≡ true
Holds g t l (sums a b) = (resolution_sum (machine g) ≡ a) × (dimension_sum (machine g) ≡ b)

abbrev pub All : Fields → ℕ → ℕ → List Reply → Type 0
All g t l [] = Unit {0}
All g t l (r ∷ rs) = Holds g t l r × All g t l rs

-- the description is read, and each reply is what the definitions give; the value is what its formula gives
abbrev pub Right : Case → Type 0
Right (asked n bs t l rs) = (read_refusal bs ≡ 0) × All (fields_of bs) t l rs
Right (valued n y L bits) = (value_refusal y L ≡ 0) × (value_bits y L ≡ bits)

abbrev pub Every : List Case → Type 0
Every [] = Unit {0}
Every (c ∷ cs) = Right c × Every cs

-- ---- decided by computing

holds : Fields → ℕ → ℕ → Reply → Bool
holds g t l says_yes = eqb (question_refusal g t l work_words) 0 && is_yes (machine g) t l
holds g t l (says_no d S) = eqb (question_refusal g t l work_words) 0 && is_no (machine g) t l d (set_of S)
holds g t l (basis ws) = eqb (basis_refusal g t l work_words) 0 && well_led (machine g) t l ws && covering (machine g) t l ws
holds g t l ME = is_me (machine g)
holds g t l (sums a b) = eqb (resolution_sum (machine g)) a && eqb (dimension_sum (machine g)) b

all_hold : Fields → ℕ → ℕ → List Reply → Bool
all_hold g t l [] = true
all_hold g t l (r ∷ rs) = holds g t l r && all_hold g t l rs

right_case : Case → Bool
right_case (asked n bs t l rs) = eqb (read_refusal bs) 0 && all_hold (fields_of bs) t l rs
right_case (valued n y L bits) = eqb (value_refusal y L) 0 && eqb (value_bits y L) bits

every_case : List Case → Bool
every_case [] = true
every_case (c ∷ cs) = right_case c && every_case cs

both : (m n : ℕ) (b : Bool) → (eqb m n && b) ≡ true → (m ≡ n) × (b ≡ true)
both m n b e = (eqb-true m n (and_true_l (eqb m n) b e), and_true_r (eqb m n) b e)

reply_right : (g : Fields) (t l : ℕ) (r : Reply) → holds g t l r ≡ true → Holds g t l r
unfolding holds
reply_right g t l says_yes e =
    let (a, b) = both _ 0 _ e in
    (a, yes_answer (machine g) (machine_linear g) t l b)
reply_right g t l (says_no d S) e =
    let (a, b) = both _ 0 _ e in
    (a, no_answer (machine g) (machine_linear g) t l d (set_of S) b)
reply_right g t l (basis ws) e =
    let x : Bool = eqb (basis_refusal g t l work_words) 0 in
    let f = and_true_l (x && well_led (machine g) t l ws) (covering (machine g) t l ws) e in
    (eqb-true _ 0 (and_true_l x _ f), basis_rows (machine g) t l ws (and_true_r x _ f) (and_true_r (x && well_led (machine g) t l ws) _ e))
reply_right g t l ME e = e
reply_right g t l (sums a b) e =
    let (x, y) = both _ a _ e in
    (x, eqb-true _ b y)

replies_right : (g : Fields) (t l : ℕ) (rs : List Reply) → all_hold g t l rs ≡ true → All g t l rs
unfolding all_hold
replies_right g t l [] e = tt
replies_right g t l (r ∷ rs) e = (reply_right g t l r (and_true_l _ (all_hold g t l rs) e), replies_right g t l rs (and_true_r (holds g t l r) _ e))

case_right : (c : Case) → right_case c ≡ true → Right c
unfolding right_case
case_right (asked n bs t l rs) e =
    let (a, b) = both _ 0 _ e in
    (a, replies_right (fields_of bs) t l rs b)
case_right (valued n y L bits) e =
    let (a, b) = both _ 0 _ e in
    (a, eqb-true _ bits b)

cases_right : (cs : List Case) → every_case cs ≡ true → Every cs
unfolding every_case
cases_right [] e = tt
cases_right (c ∷ cs) e = (case_right c (and_true_l _ (every_case cs) e), cases_right cs (and_true_r (right_case c) _ e))

-- The starred cases of document 01. Every definition is opened, and the checker computes the whole table.
pub starred : Every table
unfolding table G two three four set_of holds all_hold right_case every_case xorsum unit bit every agree hits evenly count digit number_of word_of bits_of
    times output_bit ◌⊻◌ masked right left join twist add_left add_right temper3 temper4 next_bit stepped word enter next2 next3 next4 tausworthe gfsr twisted mersenne
    by_kind machine coefficient fields_of number lowest outside any bad_words bad_twist bad_size bad_bits bad_pair bad_shift wide_word one_set stray_one stray_twist coefficient_past bad_own stray_field bad_value
    read_refusal question_refusal basis_refusal value_refusal bit_of cell_bit is_yes row largest total most_resolution resolution most_dimension dimension
    resolution_gap dimension_gap resolution_sum dimension_sum is_me highest fields64 value_bits is_no is_sum first_of well_led covering all
starred = cases_right table refl

pub further_right : Every further
unfolding further G two three four set_of holds all_hold right_case every_case xorsum unit bit every agree hits evenly count digit number_of word_of bits_of
    times output_bit ◌⊻◌ masked right left join twist add_left add_right temper3 temper4 next_bit stepped word enter next2 next3 next4 tausworthe gfsr twisted mersenne
    by_kind machine coefficient fields_of number lowest outside any bad_words bad_twist bad_size bad_bits bad_pair bad_shift wide_word one_set stray_one stray_twist coefficient_past bad_own stray_field bad_value
    read_refusal question_refusal basis_refusal value_refusal bit_of cell_bit is_yes row largest total most_resolution resolution most_dimension dimension
    resolution_gap dimension_gap resolution_sum dimension_sum is_me highest fields64 value_bits is_no is_sum first_of well_led covering all
further_right = cases_right further refl

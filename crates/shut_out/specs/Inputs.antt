-- The inputs that show it: the document's small generators, and what the definitions give for them, computed by the checker.
use Rattle.std.specs.Prelude.{◌≡◌, refl, true, false, ◌&&◌, List, [], ◌∷◌, ℕ, replicate}
use Rattle.theory.specs.Def.{xorsum, unit, bit, tabulate, every, agree, hits, evenly, count}
use Rattle.digits.specs.Def.{digit, number_of, word_of, bits_of}
use Rattle.kinds.specs.Generator.{times, output_bit, ◌⊻◌, masked, right, left, join, twist, add_left, add_right, temper3, temper4, next_bit, stepped, word, enter}
use Rattle.kinds.specs.Generator.{next2, next3, next4, tausworthe, gfsr, twisted, mersenne}
use Rattle.document.specs.declared.Fields.{Fields}
use Rattle.document.specs.Limits.{work_words}
use Rattle.document.specs.Generator.{by_kind, machine, coefficient}
use Rattle.document.specs.Description.{number, fields_of}
use Rattle.document.specs.Refusals.{lowest, outside, any, bad_words, bad_twist, bad_size, bad_bits, bad_pair, bad_shift, bad_own, bad_value}
use Rattle.document.specs.Refusals.{wide_word, one_set, stray_one, stray_twist, coefficient_past, stray_field}
use Rattle.document.specs.Refusals.{read_refusal, write_refusal, outputs_refusal, question_refusal, basis_refusal, report_refusal, value_refusal}
use Rattle.document.specs.Outputs.{output}
use Rattle.document.specs.Cells.{bit_of, cell_bit, is_yes}
use Rattle.document.specs.Report.{largest, total, most_resolution, resolution, most_dimension, dimension, resolution_gap, resolution_sum}
use Rattle.document.specs.Decide.{is_no}
use Rattle.shut_out.specs.Builds.{resolution_first, moved, whole, other_hits}

-- kind 1, k = 4, L = 4, ν = 1 with the first coefficients c: 0x30 is the document's example, and with 0 a_k is 0 as well
unfoldable pub bytes1 : ℕ → List ℕ
bytes1 c = 0x01 ∷ 0x00 ∷ 0x04 ∷ 0x04 ∷ 0x01 ∷ c ∷ replicate 59 0

-- case 11: kind 4, r=2, m=1, w=2, p=1, L=2, a=3, shifts 2, b=c=0
unfoldable pub bytes4 : List ℕ
bytes4 = 0x04 ∷ 0 ∷ 2 ∷ 0 ∷ 1 ∷ 2 ∷ 1 ∷ 2 ∷ 0 ∷ 0 ∷ 0 ∷ 3 ∷ 2 ∷ 2 ∷ 0 ∷ 0 ∷ 0 ∷ 0 ∷ 2 ∷ 0 ∷ 0 ∷ 0 ∷ 0 ∷ 2 ∷ []

abbrev pub G1 : Fields
G1 = fields_of (bytes1 0x30)

abbrev pub none : Fields
none = fields_of (bytes1 0)

abbrev pub four : Fields
four = fields_of bytes4

-- the start state x_0 = 1, x_1 = x_2 = x_3 = 0
unfoldable pub start : List ℕ
start = 1 ∷ replicate 7 0

pub record Known : Type 0 where
  -- nothing refuses them
  pub reads : read_refusal (bytes1 0x30) ≡ 0
  pub reads_none : read_refusal (bytes1 0) ≡ 0
  pub reads_four : read_refusal bytes4 ≡ 0
  pub writes : write_refusal G1 65 ≡ 0
  pub runs : outputs_refusal G1 2 start 2 ≡ 0
  pub asks_2_1 : question_refusal G1 2 1 work_words ≡ 0
  pub asks_2_2 : question_refusal G1 2 2 work_words ≡ 0
  pub asks_3_2 : question_refusal G1 3 2 work_words ≡ 0
  pub asks_none : question_refusal none 1 4 work_words ≡ 0
  pub bases : basis_refusal G1 2 1 work_words ≡ 0
  pub reports : report_refusal G1 work_words ≡ 0
  pub reports_four : report_refusal four work_words ≡ 0
  pub values : value_refusal 1 1 ≡ 0
  pub kind_1 : G1.kind ≡ 1
  -- the first two outputs, and the first after a move
  pub output_0 : output (machine G1) 0 (bits_of start) ≡ 8
  pub output_1 : output (machine G1) 1 (bits_of start) ≡ 1
  pub output_moved : output (moved (machine G1)) 0 (bits_of start) ≡ 1
  -- a yes, and two no; without coefficients, a yes that a move makes a no
  pub yes_2_1 : is_yes (machine G1) 2 1 ≡ true
  pub no_2_2 : is_yes (machine G1) 2 2 ≡ false
  pub no_3_2 : is_no (machine G1) 3 2 2 6 ≡ true
  pub yes_none : is_yes (machine none) 1 4 ≡ true
  pub no_moved : is_yes (moved (machine none)) 1 4 ≡ false
  -- x_1 + x_2 is not always zero: where the resolution comes first, {1, 2} is not a set that cancels
  pub cancels_not : xorsum 3 (λ i. digit 6 i && resolution_first (machine G1) 3 i (tabulate (machine G1).size (unit 1))) ≡ true
  -- how many states other than zero give each of two patterns
  pub zeros : other_hits (machine G1) 1 2 (λ _. false) ≡ 3
  pub ones : other_hits (machine G1) 1 2 (λ _. true) ≡ 4
  -- the report of G1: a gap at 2, and none at 3
  pub size_4 : (machine G1).size ≡ 4
  pub width_4 : (machine G1).width ≡ 4
  pub bits_4 : G1.bits ≡ 4
  pub l_2 : resolution (machine G1) 2 ≡ 1
  pub l_2_best : most_resolution (machine G1) 2 ≡ 2
  pub l_3 : resolution (machine G1) 3 ≡ 1
  pub t_2 : dimension (machine G1) 2 ≡ 1
  pub t_2_best : most_dimension (machine G1) 2 ≡ 2
  -- the sum of the gaps of case 11, and what it is with a dead bit
  pub kind_4 : four.kind ≡ 4
  pub sum_four : resolution_sum (machine four) ≡ 0
  pub sum_whole : resolution_sum (whole four) ≡ 2

pub known : Known
unfolding bytes1 bytes4 start xorsum unit bit tabulate every agree hits evenly count digit number_of word_of bits_of
    times output_bit ◌⊻◌ masked right left join twist add_left add_right temper3 temper4 next_bit stepped word enter
    next2 next3 next4 tausworthe gfsr twisted mersenne
    by_kind machine coefficient fields_of number lowest outside any bad_words bad_twist bad_size bad_bits bad_pair bad_shift
    wide_word one_set stray_one stray_twist coefficient_past bad_own stray_field bad_value
    read_refusal write_refusal outputs_refusal question_refusal basis_refusal report_refusal value_refusal output bit_of cell_bit is_yes
    largest total most_resolution resolution most_dimension dimension resolution_gap resolution_sum is_no other_hits
known =
    record {
      reads = refl;
      reads_none = refl;
      reads_four = refl;
      writes = refl;
      runs = refl;
      asks_2_1 = refl;
      asks_2_2 = refl;
      asks_3_2 = refl;
      asks_none = refl;
      bases = refl;
      reports = refl;
      reports_four = refl;
      values = refl;
      kind_1 = refl;
      output_0 = refl;
      output_1 = refl;
      output_moved = refl;
      yes_2_1 = refl;
      no_2_2 = refl;
      no_3_2 = refl;
      yes_none = refl;
      no_moved = refl;
      cancels_not = refl;
      zeros = refl;
      ones = refl;
      size_4 = refl;
      width_4 = refl;
      bits_4 = refl;
      l_2 = refl;
      l_2_best = refl;
      l_3 = refl;
      t_2 = refl;
      t_2_best = refl;
      kind_4 = refl;
      sum_four = refl;
      sum_whole = refl;
    }

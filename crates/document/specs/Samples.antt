-- One small generator of each kind, read from its bytes and run: what holds the definitions fast where the starred cases do not reach
-- (L above k, masks and shifts that differ, bits that the last word lacks, the order of the fields). The numbers are the second program's.
-- At the end the limits.
use Rattle.std.specs.Prelude.{◌≡◌, refl, List, [], ◌∷◌, ◌++◌, ℕ, zero, suc, replicate}
use Rattle.theory.specs.Def.{xorsum}
use Rattle.digits.specs.Def.{digit, bits_of, word_of, number_of}
use Rattle.kinds.specs.Generator.{times, output_bit, ◌⊻◌, masked, right, left, join, twist, add_left, add_right, temper3, temper4, next_bit, stepped, word, enter, next2, next3, next4, tausworthe, gfsr, twisted, mersenne}
use Rattle.document.specs.Limits.{most_bits, row_words, work_words, most_output, coefficient_bytes}
use Rattle.document.specs.Generator.{by_kind, coefficient, machine}
use Rattle.document.specs.Description.{bytes, number, fields_of, description}
use Rattle.document.specs.Refusals.{lowest, outside, any, bad_words, bad_twist, bad_size, bad_bits, bad_pair, bad_shift, wide_word, one_set, stray_one, stray_twist, coefficient_past, bad_own, stray_field, bad_value, read_refusal}
use Rattle.document.specs.Outputs.{output}

-- the outputs n, n + 1, .. from a start state in one word
pub outputs_from : List ℕ → ℕ → ℕ → ℕ → List ℕ
outputs_from bs s n zero = []
outputs_from bs s n (suc t) = output (machine (fields_of bs)) n (bits_of (s ∷ [])) ∷ outputs_from bs s (suc n) t

-- what reading answers, k, and the first t outputs
pub ran : List ℕ → ℕ → ℕ → List ℕ
ran bs s t = read_refusal bs ∷ (machine (fields_of bs)).size ∷ outputs_from bs s 0 t

-- k = 5, L = 7, ν = 3, a_2 = a_5 = 1
pub one : List ℕ
one = 0x01 ∷ 0x00 ∷ 0x05 ∷ 0x07 ∷ 0x03 ∷ 0x48 ∷ replicate 59 0

-- r = 3, w = 5, L = 4, a_1 = a_3 = 1
pub two : List ℕ
two = 0x02 ∷ 0x00 ∷ 0x03 ∷ 0x05 ∷ 0x04 ∷ 0xa0 ∷ replicate 59 0

-- r = 3, m = 2, w = 5, L = 4, a = 22, S = 1, T = 2, b = 26, c = 13
pub three : List ℕ
three = 0x03 ∷ 0x00 ∷ 0x03 ∷ 0x00 ∷ 0x02 ∷ 0x05 ∷ 0x04 ∷ 0 ∷ 0 ∷ 0 ∷ 22 ∷ 0x01 ∷ 0x02 ∷ 0 ∷ 0 ∷ 0 ∷ 26 ∷ 0 ∷ 0 ∷ 0 ∷ 13 ∷ []

-- r = 3, m = 1, w = 5, p = 2, L = 5, a = 21, U = 1, S = 2, b = 27, T = 3, c = 14, V = 4
pub four : List ℕ
four = 0x04 ∷ 0x00 ∷ 0x03 ∷ 0x00 ∷ 0x01 ∷ 0x05 ∷ 0x02 ∷ 0x05 ∷ 0 ∷ 0 ∷ 0 ∷ 21 ∷ 0x01 ∷ 0x02 ∷ 0 ∷ 0 ∷ 0 ∷ 27 ∷ 0x03 ∷ 0 ∷ 0 ∷ 0 ∷ 14 ∷ 0x04 ∷ []

-- read, then run
pub runs : (ran one 19 5 ++ ran two 22222 8) ++ (ran three 22222 8 ++ ran four 5555 8)
    ≡ ((0 ∷ 5 ∷ 102 ∷ 52 ∷ 36 ∷ 33 ∷ 10 ∷ []) ++ (0 ∷ 15 ∷ 7 ∷ 13 ∷ 11 ∷ 12 ∷ 1 ∷ 10 ∷ 6 ∷ 7 ∷ []))
    ++ ((0 ∷ 15 ∷ 15 ∷ 13 ∷ 5 ∷ 1 ∷ 10 ∷ 13 ∷ 3 ∷ 0 ∷ []) ++ (0 ∷ 13 ∷ 13 ∷ 18 ∷ 28 ∷ 31 ∷ 20 ∷ 28 ∷ 24 ∷ 10 ∷ []))
unfolding ran outputs_from one two three four xorsum digit bits_of word_of number_of
    times output_bit ◌⊻◌ masked right left join twist add_left add_right temper3 temper4 next_bit stepped word enter next2 next3 next4 tausworthe gfsr twisted mersenne
    by_kind coefficient machine number fields_of lowest outside any bad_words bad_twist bad_size bad_bits bad_pair bad_shift wide_word one_set stray_one stray_twist coefficient_past bad_own stray_field bad_value read_refusal output
runs = refl

-- written, the same bytes
pub written : description (fields_of one) ++ description (fields_of two) ++ description (fields_of three) ++ description (fields_of four) ≡ one ++ two ++ three ++ four
unfolding one two three four by_kind bytes number fields_of description
written = refl

-- the limits, by number
pub limits : most_bits ∷ row_words ∷ work_words ∷ most_output ∷ coefficient_bytes ∷ [] ≡ 480 ∷ 8 ∷ 7696 ∷ 32 ∷ 60 ∷ []
limits = refl

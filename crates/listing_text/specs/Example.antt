-- The document's example: "Input: `01 00 04 04 01 30` in hex and 59 zero bytes, raw", and its output, a line of the text to a line here.
use Rattle.std.specs.Prelude.{◌≡◌, refl, List, [], ◌∷◌, ◌++◌, ℕ, replicate}
use Rattle.theory.specs.Def.{xorsum, bit, every, agree, hits, evenly, count}
use Rattle.digits.specs.Def.{digit}
use Rattle.kinds.specs.Generator.{times, output_bit, next_bit, stepped, tausworthe}
use Rattle.document.specs.Generator.{by_kind, coefficient, machine}
use Rattle.document.specs.Description.{number, fields_of}
use Rattle.document.specs.Refusals.{lowest, outside, any, bad_size, bad_bits, bad_shift, coefficient_past, bad_own, bad_value}
use Rattle.document.specs.Refusals.{one_set, stray_twist, stray_field, read_refusal}
use Rattle.document.specs.Cells.{bit_of, cell_bit, is_yes}
use Rattle.document.specs.Report.{largest, total, most_resolution, resolution, resolution_gap, resolution_sum}
use Rattle.document.specs.Report.{most_dimension, dimension, dimension_gap, dimension_sum, is_me}
use Rattle.listing_text.specs.Text.{decimal_in, next, row_line, head_line, sums_line, me_line, lines_to}
use Rattle.listing_text.specs.Listing.{report_text, listing_of}

unfoldable pub input : List ℕ
input = 0x01 ∷ 0x00 ∷ 0x04 ∷ 0x04 ∷ 0x01 ∷ 0x30 ∷ replicate 59 0

unfoldable pub output : List ℕ
output =
    -- k 4 L 4
    (107 ∷ 32 ∷ 52 ∷ 32 ∷ 76 ∷ 32 ∷ 52 ∷ 10 ∷ [])
    -- t 1 4 4 0
    ++ (116 ∷ 32 ∷ 49 ∷ 32 ∷ 52 ∷ 32 ∷ 52 ∷ 32 ∷ 48 ∷ 10 ∷ [])
    -- t 2 2 1 1
    ++ (116 ∷ 32 ∷ 50 ∷ 32 ∷ 50 ∷ 32 ∷ 49 ∷ 32 ∷ 49 ∷ 10 ∷ [])
    -- t 3 1 1 0
    ++ (116 ∷ 32 ∷ 51 ∷ 32 ∷ 49 ∷ 32 ∷ 49 ∷ 32 ∷ 48 ∷ 10 ∷ [])
    -- t 4 1 1 0
    ++ (116 ∷ 32 ∷ 52 ∷ 32 ∷ 49 ∷ 32 ∷ 49 ∷ 32 ∷ 48 ∷ 10 ∷ [])
    -- l 1 4 4 0
    ++ (108 ∷ 32 ∷ 49 ∷ 32 ∷ 52 ∷ 32 ∷ 52 ∷ 32 ∷ 48 ∷ 10 ∷ [])
    -- l 2 2 1 1
    ++ (108 ∷ 32 ∷ 50 ∷ 32 ∷ 50 ∷ 32 ∷ 49 ∷ 32 ∷ 49 ∷ 10 ∷ [])
    -- l 3 1 1 0
    ++ (108 ∷ 32 ∷ 51 ∷ 32 ∷ 49 ∷ 32 ∷ 49 ∷ 32 ∷ 48 ∷ 10 ∷ [])
    -- l 4 1 1 0
    ++ (108 ∷ 32 ∷ 52 ∷ 32 ∷ 49 ∷ 32 ∷ 49 ∷ 32 ∷ 48 ∷ 10 ∷ [])
    -- sum 1 1
    ++ (115 ∷ 117 ∷ 109 ∷ 32 ∷ 49 ∷ 32 ∷ 49 ∷ 10 ∷ [])
    -- ME no
    ++ (77 ∷ 69 ∷ 32 ∷ 110 ∷ 111 ∷ 10 ∷ [])

pub example : listing_of input ≡ output
unfolding input output listing_of report_text decimal_in next row_line head_line sums_line me_line lines_to xorsum bit every agree hits evenly count digit
    times output_bit next_bit stepped tausworthe by_kind coefficient machine number fields_of
    lowest outside any bad_size bad_bits bad_shift coefficient_past bad_own one_set stray_twist stray_field bad_value read_refusal bit_of cell_bit is_yes
    largest total most_resolution resolution most_dimension dimension resolution_gap dimension_gap resolution_sum dimension_sum is_me
example = refl

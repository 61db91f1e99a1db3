-- The listing of a description's bytes.
use Rattle.std.specs.Prelude.{◌≡◌, cond, List, ◌++◌, ℕ, ◌+◌, ◌/◌, ◌≤◌, ◌<◌, min, eqb, length, get_or, drop, Result, Ok, Err}
use Rattle.kinds.specs.Generator.{Machine}
use Rattle.document.specs.Limits.{most_bits, most_output}
use Rattle.document.specs.declared.refusals.Refusal.{Refusal}
use Rattle.document.specs.Answer.{refusal_number}
use Rattle.document.specs.Generator.{machine}
use Rattle.document.specs.Description.{fields_of}
use Rattle.document.specs.Refusals.{read_refusal}
use Rattle.document.specs.Report.{most_resolution, resolution, resolution_gap, most_dimension, dimension, dimension_gap, resolution_sum, dimension_sum, is_me}
use Rattle.report.specs.declared.reply.Report.{Report}
use Rattle.listing_text.specs.Wrote.{Wrote}
use Rattle.listing_text.specs.Text.{head_line, row_line, lines_to, sums_line, me_line, refused_line, most_number, most_text}

-- "The first line gives k, the state bits, and L. The others follow as shown, t from 1 to k, then l from 1 to L."
unfoldable pub report_text : Machine → List ℕ
report_text M =
    head_line M.size M.width
    ++ (lines_to M.size (λ t. row_line 116 t (most_resolution M t) (resolution M t) (resolution_gap M t))
    ++ (lines_to M.width (λ l. row_line 108 l (most_dimension M l) (dimension M l) (dimension_gap M l))
    ++ (sums_line (resolution_sum M) (dimension_sum M)
    ++ me_line (is_me M))))

-- "reads one description .. and prints the report, or `refused N`"
unfoldable pub listing_of : List ℕ → List ℕ
listing_of bs = cond (eqb (read_refusal bs) 0) (report_text (machine (fields_of bs))) (refused_line (read_refusal bs))

-- the listing at the front and the rest as it was; nothing at all where there is not room for every listing
pub record Listed (bs was : List ℕ) (end : ℕ) (now : List ℕ) : Type 0 where
  pub size : most_text ≤ length was → end ≡ length (listing_of bs)
  pub text : most_text ≤ length was → now ≡ listing_of bs ++ drop (length (listing_of bs)) was
  pub none : length was < most_text → end ≡ 0
  pub kept : length was < most_text → now ≡ was
  pub inside : end ≤ length was

-- the page of an accepted description and where it ends; or what refuses the reading, and the buffer is left
abbrev pub Told : List ℕ → List ℕ → Result ℕ Refusal → List ℕ → Type 0
Told bs was (Ok end) now = Wrote most_text was 0 (listing_of bs) now end
Told bs was (Err refusal) now = (refusal_number refusal ≡ read_refusal bs) × (now ≡ was)

-- numbers that fit a listing
pub record Printable (k L : ℕ) (r : Report) : Type 0 where
  pub size : k ≤ most_bits
  pub width : L ≤ most_output
  pub resolutions : (i : ℕ) → i < k → get_or r.resolutions i 0 ≤ min L (k / (i + 1))
  pub dimensions : (i : ℕ) → i < L → get_or r.dimensions i 0 ≤ k / (i + 1)
  pub resolution_sum : r.resolution_sum < most_number
  pub dimension_sum : r.dimension_sum < most_number

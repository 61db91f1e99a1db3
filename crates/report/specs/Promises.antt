-- What a report promises.
use Rattle.std.specs.Prelude.{◌≡◌, false, List, ℕ, ◌-◌, ◌/◌, min, eqb, length, get_or, replicate}
use Rattle.kinds.specs.Generator.{Machine}
use Rattle.document.specs.declared.Fields.{Fields}
use Rattle.document.specs.Limits.{most_bits, most_output, work_words}
use Rattle.document.specs.Generator.{machine}
use Rattle.document.specs.Memory.{Front}
use Rattle.document.specs.Refusals.{report_refusal}
use Rattle.document.specs.Report.{total, resolution, dimension, resolution_sum, dimension_sum, is_me}
use Rattle.tables.specs.Tables.{says, resolution_of, dimension_of, Entries}
use Rattle.report.specs.declared.reply.Report.{Report}

-- "With a refusal all other numbers in the reply are 0"
abbrev pub refused_with : ℕ → Report
refused_with n =
    record {
      refusal = n;
      resolutions = replicate most_bits 0;
      dimensions = replicate most_output 0;
      resolution_sum = 0;
      dimension_sum = 0;
      me = false;
    }

-- the numbers of a machine's report: 480 for each t, zero past k; 32 for each l, zero past L; the sums of the gaps; ME
pub record ReportOf (M : Machine) (r : Report) : Type 0 where
  pub resolutions : Entries most_bits M.size (resolution M) r.resolutions
  pub dimensions : Entries most_output M.width (dimension M) r.dimensions
  pub resolution_sum : r.resolution_sum ≡ resolution_sum M
  pub dimension_sum : r.dimension_sum ≡ dimension_sum M
  pub me : r.me ≡ is_me M

-- "Its first 7,696 words end as zero after a question or report. Further words are untouched."
pub record ReportedAs (g : Fields) (was : List ℕ) (r : Report) (now : List ℕ) : Type 0 where
  pub number : r.refusal ≡ report_refusal g (length was)
  pub accepted : report_refusal g (length was) ≡ 0 → ReportOf (machine g) r
  pub cleared : report_refusal g (length was) ≡ 0 → Front work_words (λ _. 0) was now
  pub refused : (report_refusal g (length was) ≡ 0 → ⊥) → r ≡ refused_with (report_refusal g (length was))
  pub kept : (report_refusal g (length was) ≡ 0 → ⊥) → now ≡ was

-- the same from the first dependent bits, k and L
pub record MadeOf (first : List ℕ) (k L : ℕ) (r : Report) : Type 0 where
  pub refusal : r.refusal ≡ 0
  pub resolutions : Entries most_bits k (resolution_of (says first) k L) r.resolutions
  pub dimensions : Entries most_output L (dimension_of (says first) k) r.dimensions
  pub resolution_sum : r.resolution_sum ≡ total k (λ t. min L (k / t) - get_or r.resolutions (t - 1) 0)
  pub dimension_sum : r.dimension_sum ≡ total L (λ l. k / l - get_or r.dimensions (l - 1) 0)
  pub me : r.me ≡ eqb r.resolution_sum 0

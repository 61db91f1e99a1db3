-- What the report of a prepared generator promises.
use Rattle.std.specs.Prelude.{◌≡◌, List, ℕ}
use Rattle.document.specs.declared.Fields.{Fields}
use Rattle.document.specs.Limits.{work_words}
use Rattle.document.specs.Generator.{machine}
use Rattle.document.specs.Memory.{Front}
use Rattle.document.specs.Ranges.{Accepted}
use Rattle.running.specs.declared.ready.Prepared.{Prepared}
use Rattle.running.specs.Prepared.{PreparedFor}
use Rattle.report.specs.declared.reply.Report.{Report}
use Rattle.report.specs.Promises.{ReportOf}

-- the report of whatever description p is prepared of; the work buffer ends as zero, and the words behind it are as they were
pub record ReportMade (p : Prepared) (was : List ℕ) (r : Report) (now : List ℕ) : Type 0 where
  pub number : r.refusal ≡ 0
  pub report : (g : Fields) → Accepted g → PreparedFor g p → ReportOf (machine g) r
  pub cleared : Front work_words (λ _. 0) was now

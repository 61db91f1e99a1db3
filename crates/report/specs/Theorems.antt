-- Two replies, with the memory after them, that the promise of a report allows are one; and a report made from the first dependent bits is
-- that of the machine whose questions they answer.
use Rattle.std.specs.Prelude.{◌≡◌, List, ℕ, ◌≤◌, eqb, length}
use Rattle.std.proofs.Common.{sym, ap, ◌∙◌}
use Rattle.std.proofs.Math.Logic.{by_cases}
use Rattle.std.proofs.Math.Decide.{ℕ_discrete}
use Rattle.kinds.specs.Generator.{Machine}
use Rattle.document.specs.declared.Fields.{Fields}
use Rattle.document.specs.Limits.{most_bits, most_output, work_words}
use Rattle.document.specs.Generator.{machine}
use Rattle.document.specs.Cells.{is_yes}
use Rattle.document.specs.Refusals.{report_refusal}
use Rattle.document.specs.Agreement.{front_unique}
use Rattle.document.specs.Report.{resolution, dimension, is_me}
use Rattle.running.specs.declared.ready.Prepared.{Prepared}
use Rattle.running.specs.Prepared.{Ready, machine_of}
use Rattle.running.specs.Theorems.{prepared_ready}
use Rattle.filling.specs.Theorems.{ready-size, ready_bits}
use Rattle.tables.specs.Tables.{says}
use Rattle.tables.specs.Theorems.{entries_agree, resolutions_are, dimensions_are, resolution_sum_is, dimension_sum_is}
use Rattle.report.specs.declared.reply.Report.{Report}
use Rattle.report.specs.Promises.{ReportOf, ReportedAs, MadeOf}

-- ---- agreement

same_report : (r s : Report) → r.refusal ≡ s.refusal → r.resolutions ≡ s.resolutions → r.dimensions ≡ s.dimensions
    → r.resolution_sum ≡ s.resolution_sum → r.dimension_sum ≡ s.dimension_sum → r.me ≡ s.me → r ≡ s
same_report r s a b c d e f = all r.refusal s.refusal r.resolutions s.resolutions r.dimensions s.dimensions a b c
  where
    all : (n m : ℕ) (v w x y : List ℕ) → n ≡ m → v ≡ w → x ≡ y
        → ◌≡◌ {A = Report} (record { refusal = n; resolutions = v; dimensions = x; resolution_sum = r.resolution_sum; dimension_sum = r.dimension_sum; me = r.me })
        (record { refusal = m; resolutions = w; dimensions = y; resolution_sum = s.resolution_sum; dimension_sum = s.dimension_sum; me = s.me })
    all n m v w x y a b c = rw (a, b, c, d, e, f)

pub reports_agree : (g : Fields) (was : List ℕ) (r s : Report) (now then : List ℕ)
    → ReportedAs g was r now → ReportedAs g was s then → (r ≡ s) × (now ≡ then)
reports_agree g was r s now then p q =
    by_cases (ℕ_discrete (report_refusal g (length was)) 0)
    (λ h. let x : ReportOf (machine g) r = p.accepted h in
    let y : ReportOf (machine g) s = q.accepted h in (
      same_report r s (p.number ∙ sym q.number)
          (entries_agree most_bits (machine g).size (resolution (machine g)) r.resolutions s.resolutions x.resolutions y.resolutions)
          (entries_agree most_output (machine g).width (dimension (machine g)) r.dimensions s.dimensions x.dimensions y.dimensions)
          (x.resolution_sum ∙ sym y.resolution_sum) (x.dimension_sum ∙ sym y.dimension_sum) (x.me ∙ sym y.me),
      front_unique work_words (λ _. 0) was now then (p.cleared h) (q.cleared h),
    ))
    (λ h. (p.refused h ∙ sym (q.refused h), p.kept h ∙ sym (q.kept h)))

-- ---- from the first dependent bits

pub made_is : (M : Machine) (first : List ℕ) (k L : ℕ) → k ≡ M.size → L ≡ M.width
    → ((t l : ℕ) → 1 ≤ l → l ≤ M.width → is_yes M t l ≡ says first t l)
    → (r : Report) → MadeOf first k L r → ReportOf M r
unfolding is_me
made_is M first k L size width answers r x =
    let a = resolutions_are M first k L size width answers x.resolutions in
    let b = dimensions_are M first k L size width answers x.dimensions in
    let s = x.resolution_sum ∙ resolution_sum_is M k L size width a in
    record {
      resolutions = a;
      dimensions = b;
      resolution_sum = s;
      dimension_sum = x.dimension_sum ∙ dimension_sum_is M k L size width b;
      me = x.me ∙ ap (λ n. eqb n 0) s;
    }

-- ---- a prepared generator

-- what `first_bits` and `of_first` need to know of a prepared generator
pub record Fit (p : Prepared) : Type 0 where
  pub ready : Ready p
  pub size : (machine_of p).size ≤ most_bits
  pub bits : (machine_of p).width ≤ most_output

pub prepared_fits : (p : Prepared) → Fit p
prepared_fits p = record { ready = prepared_ready p; size = ready-size p; bits = ready_bits p }

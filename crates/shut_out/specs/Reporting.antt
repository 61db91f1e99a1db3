-- No build reports so: G1 has l_2 = t_2 = 1 where 2 is the best, l_3 = 1, and sums that are those of its tables.
use Rattle.std.specs.Prelude.{◌≡◌, refl, ℕ, ◌≤◌, ◌<◌}
use Rattle.std.proofs.Common.{sym, ◌∙◌, arith}
use Rattle.document.specs.Generator.{machine, size}
use Rattle.document.specs.Report.{most_resolution, most_dimension, resolution_sum}
use Rattle.tables.specs.Theorems.{at_place, resolution_sum_is, dimension_sum_is}
use Rattle.report.specs.declared.reply.Report.{Report}
use Rattle.report.specs.Promises.{ReportOf}
use Rattle.shut_out.specs.Builds.{NoReport, resolution_in, dimension_in, resolution_gaps, dimension_gaps, whole}
use Rattle.shut_out.specs.Inputs.{G1, four, known}
use Rattle.shut_out.specs.Taken.{given_g1, given_four}
use Rattle.shut_out.specs.Shown.{report_shown}

module _ (r : Report) (right : ReportOf (machine G1) r) where
  l_2 : resolution_in r 2 ≡ 1
  l_2 = at_place right.resolutions 2 (omega arith) (omega (arith, known.size_4)) ∙ known.l_2

  l_3 : resolution_in r 3 ≡ 1
  l_3 = at_place right.resolutions 3 (omega arith) (omega (arith, known.size_4)) ∙ known.l_3

  t_2 : dimension_in r 2 ≡ 1
  t_2 = at_place right.dimensions 2 (omega arith) (omega (arith, known.width_4)) ∙ known.t_2

pub best_resolutions : NoReport (λ g r. (t : ℕ) → 1 ≤ t → t ≤ size g → resolution_in r t ≡ most_resolution (machine g) t)
best_resolutions =
    report_shown G1 given_g1 known.reports _
    (λ r right best. omega (arith, best 2 (omega arith) (omega (arith, known.size_4)), l_2 r right, known.l_2_best))

pub best_dimensions : NoReport (λ g r. (l : ℕ) → 1 ≤ l → l ≤ g.bits → dimension_in r l ≡ most_dimension (machine g) l)
best_dimensions =
    report_shown G1 given_g1 known.reports _
    (λ r right best. omega (arith, best 2 (omega arith) (omega (arith, known.bits_4)), t_2 r right, known.t_2_best))

pub no_resolutions : NoReport (λ g r. (t : ℕ) → resolution_in r t ≡ 0)
no_resolutions = report_shown G1 given_g1 known.reports _ (λ r right none. omega (arith, none 2, l_2 r right))

pub no_dimensions : NoReport (λ g r. (l : ℕ) → dimension_in r l ≡ 0)
no_dimensions = report_shown G1 given_g1 known.reports _ (λ r right none. omega (arith, none 2, t_2 r right))

pub another_resolution_sum : NoReport (λ g r. ¬ (r.resolution_sum ≡ resolution_gaps (machine g) r))
unfolding most_resolution
another_resolution_sum =
    report_shown G1 given_g1 known.reports _
    (λ r right other. other (right.resolution_sum ∙ sym (resolution_sum_is (machine G1) _ _ refl refl right.resolutions)))

pub another_dimension_sum : NoReport (λ g r. ¬ (r.dimension_sum ≡ dimension_gaps (machine g) r))
unfolding most_dimension
another_dimension_sum =
    report_shown G1 given_g1 known.reports _
    (λ r right other. other (right.dimension_sum ∙ sym (dimension_sum_is (machine G1) _ _ refl refl right.dimensions)))

pub dead_bits_counted : NoReport (λ g r. g.kind ≡ 4 → r.resolution_sum ≡ resolution_sum (whole g))
dead_bits_counted =
    report_shown four given_four known.reports_four _
    (λ r right full. omega (arith, full known.kind_4, right.resolution_sum, known.sum_four, known.sum_whole))

pub stopped_at_a_gap : NoReport (λ g r. (t u : ℕ) → 1 ≤ t → t < u → resolution_in r t < most_resolution (machine g) t → resolution_in r u ≡ 0)
stopped_at_a_gap =
    report_shown G1 given_g1 known.reports _
    (λ r right stops. omega (arith, stops 2 3 (omega arith) (omega arith) (omega (arith, l_2 r right, known.l_2_best)), l_3 r right))

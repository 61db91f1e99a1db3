-- The text of a report is the listing of its machine, and what a read description gives. Assumes nothing.
use mathlib.Core.Path.{◌≡◌, refl, sym, ap, ap₂, ◌∙◌}
use mathlib.Core.List.{List, ◌++◌}
use Prim.Native.Nat.{ℕ, zero, suc, ◌+◌, ◌-◌, ◌/◌, ◌≤◌, ◌<◌, min}
use native.Mathlib.Omega.{arith}
use lib.ListN.{length, get_or, drop}
use borrow.Author.Tests.{eq-eqb, ne_eqb}
use Rattle.kinds.specs.Generator.{Machine}
use Rattle.document.specs.declared.Fields.{Fields}
use Rattle.document.specs.declared.refusals.Refusal.{Refusal}
use Rattle.document.specs.declared.refusals.Refusal.TheVariants as R
use Rattle.document.specs.Answer.{refusal_number}
use Rattle.document.specs.Limits.{most_bits, most_output}
use Rattle.document.specs.Generator.{machine}
use Rattle.document.specs.Description.{fields_of}
use Rattle.document.specs.Refusals.{read_refusal}
use Rattle.document.specs.Ranges.{Accepted}
use Rattle.document.proofs.Theorems.{ranges}
use Rattle.document.specs.Theorems as D
use Rattle.document.specs.Report.{most_resolution, resolution_gap, most_dimension, dimension_gap, resolution_sum, dimension_sum, is_me}
use Rattle.tables.specs.Theorems.{at_place}
use Rattle.report.specs.declared.reply.Report.{Report}
use Rattle.running.specs.declared.ready.Prepared.{Prepared}
use Rattle.running.specs.Prepared.{PreparedFor, machine_of}
use Rattle.running.specs.Theorems.{prepared_size, prepared_width}
use Rattle.report.specs.Promises.{ReportOf}
use Rattle.report.specs.Prepared.{ReportMade}
use Rattle.report.specs.Theorems.{Fit, prepared_fits}
use Rattle.listing_text.specs.Text.{row_line, lines_to, head_line, sums_line, me_line, dimension_line, resolution_line, refused_line, page_of, most_text, most_number}
use Rattle.listing_text.specs.Wrote.{Wrote}
use Rattle.listing_text.specs.Listing.{report_text, listing_of, Listed, Printable}
use Rattle.listing_text.specs.Numbers.{resolution_most, dimension_most, small_numbers}

-- ---- the page of a machine's report

lines_same : (n : ℕ) (f g : ℕ → List ℕ) → ((i : ℕ) → 1 ≤ i → i ≤ n → f i ≡ g i) → lines_to n f ≡ lines_to n g
unfolding lines_to
lines_same zero f g e = refl
lines_same (suc n) f g e = ap₂ ◌++◌ (lines_same n f g (λ i p q. e i p (omega arith))) (e (suc n) (omega arith) (omega arith))

module _ (M : Machine) (r : Report) (x : ReportOf M r) where
  page_of_size : page_of M.size M.width (λ t. get_or r.resolutions (t - 1) 0) (λ l. get_or r.dimensions (l - 1) 0) r.resolution_sum r.dimension_sum r.me ≡ report_text M
  unfolding page_of report_text dimension_line resolution_line resolution_gap dimension_gap most_resolution most_dimension
  page_of_size =
      rw (x.resolution_sum, x.dimension_sum, x.me)
      (ap₂ (λ p q. head_line M.size M.width ++ (p ++ (q ++ (sums_line (resolution_sum M) (dimension_sum M) ++ me_line (is_me M)))))
      (lines_same M.size _ _ (λ t p q. ap (λ l. row_line 116 t (min M.width (M.size / t)) l (min M.width (M.size / t) - l)) (at_place x.resolutions t p q)))
      (lines_same M.width _ _ (λ l p q. ap (λ t. row_line 108 l (M.size / l) t (M.size / l - t)) (at_place x.dimensions l p q))))

  pub page_is : (k L : ℕ) → k ≡ M.size → L ≡ M.width
      → page_of k L (λ t. get_or r.resolutions (t - 1) 0) (λ l. get_or r.dimensions (l - 1) 0) r.resolution_sum r.dimension_sum r.me ≡ report_text M
  page_is k L a b = rw (a, b) page_of_size

-- ---- its numbers fit

pub printable : (M : Machine) (r : Report) → ReportOf M r → (k L : ℕ) → k ≡ M.size → L ≡ M.width → k ≤ most_bits → L ≤ most_output → Printable k L r
printable M r x k L a b p q =
    record {
      size = p;
      width = q;
      resolutions = λ i h. rw (x.resolutions.entry i (omega arith), a, b) (resolution_most M (i + 1));
      dimensions = λ i h. rw (x.dimensions.entry i (omega arith), a) (dimension_most M (i + 1));
      resolution_sum = omega (arith, x.resolution_sum, (small_numbers M (omega arith) (omega arith)).sums);
      dimension_sum = omega (arith, x.dimension_sum, (small_numbers M (omega arith) (omega arith)).sums);
    }

-- ---- a read description

pub read_accepted : (bs : List ℕ) → read_refusal bs ≡ 0 → Accepted (fields_of bs)
read_accepted bs e = ranges (fields_of bs) (D.read_accepted bs e)

-- ---- the listing

pub listing_report : (bs : List ℕ) → read_refusal bs ≡ 0 → listing_of bs ≡ report_text (machine (fields_of bs))
unfolding listing_of
listing_report bs e = rw (eq-eqb (read_refusal bs) 0 e)

pub listing_refused : (bs : List ℕ) → (read_refusal bs ≡ 0 → ⊥) → listing_of bs ≡ refused_line (read_refusal bs)
unfolding listing_of
listing_refused bs n = rw (ne_eqb (read_refusal bs) 0 n)

-- what was written at the front is the listing
pub listed : {m : ℕ} {was text now : List ℕ} {end : ℕ} (bs : List ℕ) → most_text ≤ length was → text ≡ listing_of bs → Wrote m was 0 text now end → Listed bs was end now
listed {was = was} {text = text} {end = end} bs room q x =
    let e : end ≡ length (listing_of bs) = omega (arith, x.stop, ap length q) in
    record {
      size = λ _. e;
      text = λ _. x.all ∙ ap₂ (λ l n. l ++ drop n was) q e;
      none = λ h. absurd (omega arith);
      kept = λ h. absurd (omega arith);
      inside = x.inside;
    }

pub listed_not : (bs was : List ℕ) → length was < most_text → Listed bs was 0 was
listed_not bs was h = record { size = λ g. absurd (omega arith); text = λ g. absurd (omega arith); none = λ _. refl; kept = λ _. refl; inside = omega arith }

-- the report that is made of an accepted description can be written, and its page is the listing
pub record Made (bs : List ℕ) (k L : ℕ) (r : Report) : Type 0 where
  pub fits : Printable k L r
  pub text : page_of k L (λ t. get_or r.resolutions (t - 1) 0) (λ l. get_or r.dimensions (l - 1) 0) r.resolution_sum r.dimension_sum r.me ≡ listing_of bs

pub made : (bs was : List ℕ) (g : Fields) (p : Prepared) (k L : ℕ) (r : Report) (now : List ℕ) → 0 ≡ read_refusal bs → g ≡ fields_of bs
    → PreparedFor g p → k ≡ (machine_of p).size → L ≡ (machine_of p).width → ReportMade p was r now → Made bs k L r
made bs was g p k L r now e q z s w y =
    let a : Accepted g = rw q (read_accepted bs (sym e)) in
    let x : ReportOf (machine g) r = y.report g a z in
    let f : Fit p = prepared_fits p in
    let b : k ≡ (machine g).size = s ∙ prepared_size g p a z in
    let c : L ≡ (machine g).width = w ∙ prepared_width g p a z in
    record {
      fits = printable (machine g) r x k L b c (rw s f.size) (rw w f.bits);
      text = page_is (machine g) r x k L b c ∙ ap (λ h. report_text (machine h)) q ∙ sym (listing_report bs (sym e));
    }

-- ---- a refusal's number fits

pub number_small : (e : Refusal) → refusal_number e < most_number
number_small R.Kind = omega arith
number_small R.Length = omega arith
number_small R.Size = omega arith
number_small R.Bits = omega arith
number_small R.Shift = omega arith
number_small R.Value = omega arith
number_small R.Dimension = omega arith
number_small R.Resolution = omega arith
number_small R.State = omega arith
number_small R.Product = omega arith
number_small R.Room = omega arith

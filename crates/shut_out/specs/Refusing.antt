-- No build refuses everything: G1 is read, written, run, asked and listed, and 1 has a value at L = 1.
use Rattle.std.specs.Prelude.{◌≡◌, refl, List, ◌⊎◌, ℕ, ◌≤◌, ◌<◌, length, get_or, take}
use Rattle.std.proofs.Common.{sym, ap, ◌∙◌, ⊎_elim, arith, take_at}
use Rattle.document.specs.Generator.{machine}
use Rattle.listing_text.specs.Text.{head_line, refused_line, most_text}
use Rattle.listing_text.specs.Listing.{report_text, listing_of, Listed}
use Rattle.shut_out.specs.Builds.{Call, read, write, outputs, question, basis, report, value, listing, Gives, Promised, NoBuild, Refuses}
use Rattle.shut_out.specs.Inputs.{bytes1, G1, known}
use Rattle.shut_out.specs.Taken.{marks, marks_long, input, input_fits, accepted}
use Rattle.shut_out.specs.Shown.{shown}

-- ---- the listing of G1 is a report: it begins with the letter k

abbrev pub text : List ℕ
text = listing_of (bytes1 0x30)

is_report : text ≡ report_text (machine G1)
unfolding listing_of
is_report = rw known.reads refl

pub first_letter : get_or text 0 0 ≡ 107
unfolding report_text head_line
first_letter = ap (λ s. get_or s 0 0) is_report

pub not_empty : 0 < length text
unfolding report_text head_line
not_empty = rw is_report (omega arith)

is_no_refusal : (n : ℕ) → ¬ (text ≡ refused_line n)
unfolding refused_line
is_no_refusal n e = absurd (omega (arith, sym first_letter ∙ ap (λ s. get_or s 0 0) e))

lists : (end : ℕ) (now : List ℕ) → Listed (bytes1 0x30) (marks most_text) end now → ¬ ((end ≡ 0) ⊎ ((n : ℕ) × (take end now ≡ refused_line n)))
lists end now x d =
    let room : most_text ≤ length (marks most_text) = omega (arith, marks_long most_text) in
    let same : take end now ≡ text = rw (x.text room) (take_at text _ end (sym (x.size room))) in
    ⊎_elim (λ e. omega (arith, not_empty, x.size room)) (λ (n, e). is_no_refusal n (sym same ∙ e)) d

-- ---- every call

pub refuses_everything : (c : Call) → NoBuild c (λ a r. Refuses c r)
refuses_everything c = shown c _ (input c) (input_fits c) (is_accepted c)
  where
    is_accepted : (c : Call) (r : Gives c) → Promised c (input c) r → ¬ Refuses c r
    is_accepted read r x n = n (x.number ∙ accepted read)
    is_accepted write r x n = n (x.number ∙ accepted write)
    is_accepted outputs r x n = n (x.number ∙ accepted outputs)
    is_accepted question r x n = n (x.refusal ∙ accepted question)
    is_accepted basis r x n = n (x.refusal ∙ accepted basis)
    is_accepted report r x n = n (x.number ∙ accepted report)
    is_accepted value r x n = n (x.number ∙ accepted value)
    is_accepted listing r x n = lists r.end r.now x n

-- Every call with G1: a caller can say it, and nothing refuses it.
use Rattle.std.specs.Prelude.{◌≡◌, refl, Bool, true, ◌&&◌, List, [], ◌∷◌, ℕ, zero, suc, ◌^◌, ◌<◌, ltb, length, get_or, replicate}
use Rattle.std.proofs.Common.{ap, ◌∙◌, arith, pow_pos, ltb-true}
use Rattle.std.proofs.Math.Logic.{by_cases}
use Rattle.std.proofs.Math.Decide.{dec_lt}
use Rattle.std.proofs.lemmas.List.{length-replicate, get_or-replicate}
use Rattle.std.proofs.Math.ListN.{get_or-eq_default}
use Rattle.theory.specs.Laws.{and_true_l, and_true_r}
use Rattle.document.specs.Limits.{work_words}
use Rattle.document.specs.Refusals.{read_refusal, write_refusal, outputs_refusal, question_refusal, basis_refusal, report_refusal, value_refusal}
use Rattle.listing_text.specs.Text.{most_text}
use Rattle.shut_out.specs.Builds.{Call, read, write, outputs, question, basis, report, value, listing, Takes, Numbers, Given, Fits}
use Rattle.shut_out.specs.Inputs.{bytes1, bytes4, G1, none, four, start, known}

-- ---- numbers that fit

each_below : ℕ → List ℕ → Bool
each_below bound [] = true
each_below bound (x ∷ xs) = ltb x bound && each_below bound xs

below : (bits : ℕ) (ws : List ℕ) → each_below (2 ^ bits) ws ≡ true → (i : ℕ) → get_or ws i 0 < 2 ^ bits
unfolding each_below
below bits [] e i = pow_pos bits
below bits (x ∷ xs) e zero = ltb-true x (2 ^ bits) (and_true_l _ (each_below (2 ^ bits) xs) e)
below bits (x ∷ xs) e (suc i) = below bits xs (and_true_r (ltb x (2 ^ bits)) _ e) i

bytes_fit : Numbers 8 (bytes1 0x30)
unfolding bytes1 each_below
bytes_fit = (omega arith, below 8 (bytes1 0x30) refl)

pub given_g1 : Given G1
given_g1 = (bytes1 0x30, bytes_fit, known.reads, refl)

pub given_none : Given none
unfolding bytes1 each_below
given_none = (bytes1 0, (omega arith, below 8 (bytes1 0) refl), known.reads_none, refl)

pub given_four : Given four
unfolding bytes4 each_below
given_four = (bytes4, (omega arith, below 8 bytes4 refl), known.reads_four, refl)

start_fits : (length start ≡ 8) × Numbers 64 start
unfolding start each_below
start_fits = (refl, (omega arith, below 64 start refl))

-- ---- lent buffers

-- n marks; shut, so that no check writes them out
pub marks : ℕ → List ℕ
marks n = replicate n 3

pub marks_long : (n : ℕ) → length (marks n) ≡ n
unfolding marks
marks_long n = length-replicate n 3

pub mark : (n i : ℕ) → i < n → get_or (marks n) i 0 ≡ 3
unfolding marks
mark n i h = get_or-replicate n i 3 0 h

pub marks_fit : (bits n : ℕ) → n < 2 ^ 60 → 3 < 2 ^ bits → Numbers bits (marks n)
marks_fit bits n h k = (
  rw (marks_long n) h,
  λ i. by_cases (dec_lt i n)
      (λ l. rw (mark n i l) k)
      (λ l. rw (get_or-eq_default (marks n) 0 {n = i} (omega (arith, marks_long n))) (omega arith)),
)

-- what a buffer of n is accepted for
pub in_room : (refusal : ℕ → ℕ) (n : ℕ) → refusal n ≡ 0 → refusal (length (marks n)) ≡ 0
in_room refusal n e = ap refusal (marks_long n) ∙ e

-- ---- every call

-- G1 is read, written, run for two outputs, asked at (2, 1), reported and listed; 1 is a value at L = 1
abbrev pub input : (c : Call) → Takes c
input read = record { bytes = bytes1 0x30 }
input write = record { g = G1; was = marks 65 }
input outputs = record { g = G1; t = 2; state = start; was = marks 2 }
input question = record { g = G1; t = record { 0 = 2 }; l = record { 0 = 1 }; was = marks work_words }
input basis = record { g = G1; t = record { 0 = 2 }; l = record { 0 = 1 }; was = marks work_words }
input report = record { g = G1; was = marks work_words }
input value = record { y = 1; L = 1 }
input listing = record { bytes = bytes1 0x30; was = marks most_text }

pub input_fits : (c : Call) → Fits c (input c)
input_fits read = bytes_fit
input_fits write = (given_g1, marks_fit 8 65 (omega arith) (omega arith))
input_fits outputs = (given_g1, omega arith, start_fits.0, start_fits.1, marks_fit 32 2 (omega arith) (omega arith))
input_fits question = (given_g1, omega arith, omega arith, marks_fit 64 work_words (omega arith) (omega arith))
input_fits basis = (given_g1, omega arith, omega arith, marks_fit 64 work_words (omega arith) (omega arith))
input_fits report = (given_g1, marks_fit 64 work_words (omega arith) (omega arith))
input_fits value = (omega arith, omega arith)
input_fits listing = (bytes_fit, marks_fit 8 most_text (omega arith) (omega arith))

-- the number that a promise gives
abbrev pub Number : (c : Call) → Takes c → ℕ
Number read a = read_refusal a.bytes
Number write a = write_refusal a.g (length a.was)
Number outputs a = outputs_refusal a.g a.t a.state (length a.was)
Number question a = question_refusal a.g a.t.0 a.l.0 (length a.was)
Number basis a = basis_refusal a.g a.t.0 a.l.0 (length a.was)
Number report a = report_refusal a.g (length a.was)
Number value a = value_refusal a.y a.L
Number listing a = read_refusal a.bytes

pub accepted : (c : Call) → Number c (input c) ≡ 0
accepted read = known.reads
accepted write = in_room (write_refusal G1) 65 known.writes
accepted outputs = in_room (outputs_refusal G1 2 start) 2 known.runs
accepted question = in_room (question_refusal G1 2 1) work_words known.asks_2_1
accepted basis = in_room (basis_refusal G1 2 1) work_words known.bases
accepted report = in_room (report_refusal G1) work_words known.reports
accepted value = known.values
accepted listing = known.reads

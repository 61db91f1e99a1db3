-- No build runs or answers so: the numbers, verdicts, d and sets of the small generators are others.
use Rattle.std.specs.Prelude.{◌≡◌, true, false, ◌&&◌, ℕ, ◌*◌, ◌<◌}
use Rattle.std.proofs.Common.{sym, ap, ◌∙◌, true≢false, arith}
use Rattle.theory.specs.Def.{unit, tabulate, Dependent}
use Rattle.theory.specs.Laws.{xorsum_cong}
use Rattle.digits.specs.Def.{Word, bits_of}
use Rattle.document.specs.Generator.{machine}
use Rattle.document.specs.Outputs.{output}
use Rattle.document.specs.Cells.{is_yes}
use Rattle.document.specs.Decide.{no_answer}
use Rattle.document.specs.Theorems.{machine_linear, answers_agree}
use Rattle.shut_out.specs.Builds.{NoOutputs, NoAnswer, resolution_first, moved, other_hits}
use Rattle.shut_out.specs.Inputs.{G1, none, known}
use Rattle.shut_out.specs.Taken.{given_g1, given_none}
use Rattle.shut_out.specs.Shown.{outputs_shown, answer_shown}

pub first_output_repeated : NoOutputs (λ g t s y. (n : ℕ) → n < t → y n ≡ y 0)
first_output_repeated =
    outputs_shown _ (λ y right same. omega (arith, same 1 (omega arith), right 0 (omega arith), right 1 (omega arith), known.output_0, known.output_1))

pub outputs_after_a_move : NoOutputs (λ g t s y. (n : ℕ) → n < t → y n ≡ output (moved (machine g)) n s)
outputs_after_a_move = outputs_shown _ (λ y right late. omega (arith, late 0 (omega arith), right 0 (omega arith), known.output_0, known.output_moved))

pub always_yes : NoAnswer (λ g t l r. r.yes ≡ true)
always_yes = answer_shown G1 2 2 given_g1 (omega arith) known.asks_2_2 _ (λ r right yes. true≢false (sym yes ∙ right.verdict ∙ known.no_2_2))

pub always_no : NoAnswer (λ g t l r. r.yes ≡ false)
always_no = answer_shown G1 2 1 given_g1 (omega arith) known.asks_2_1 _ (λ r right no. true≢false (sym (right.verdict ∙ known.yes_2_1) ∙ no))

pub verdicts_after_a_move : NoAnswer (λ g t l r. r.yes ≡ is_yes (moved (machine g)) t l)
verdicts_after_a_move =
    answer_shown none 1 4 given_none (omega arith) known.asks_none _
    (λ r right late. true≢false (sym (right.verdict ∙ known.yes_none) ∙ late ∙ known.no_moved))

pub zero_state_left_out : NoAnswer (λ g t l r. r.yes ≡ true → (p q : Word) → other_hits (machine g) l (t * l) p ≡ other_hits (machine g) l (t * l) q)
zero_state_left_out =
    answer_shown G1 2 1 given_g1 (omega arith) known.asks_2_1 _
    (λ r right equal. omega (arith, equal (right.verdict ∙ known.yes_2_1) (λ _. false) (λ _. true), known.zeros, known.ones))

-- G1 (3, 2): d is 2 and the set is {1, 2}, which does not cancel in the other numbering
pub resolution_first_apart : NoAnswer (λ g t l r. r.yes ≡ false → Dependent (resolution_first (machine g) t) r.d (bits_of r.set))
resolution_first_apart =
    answer_shown G1 3 2 given_g1 (omega arith) known.asks_3_2 _
    (λ r right other.
    let (verdict, d, set) = answers_agree (machine G1) 3 2 _ _ _ _ _ _ right (no_answer (machine G1) (machine_linear G1) 3 2 2 6 known.no_3_2) in
    let dependent : Dependent (resolution_first (machine G1) 3) 2 (bits_of r.set) = rw d at (other verdict) in
    true≢false
    (sym known.cancels_not
    ∙ sym (xorsum_cong 3 _ _ (λ i _. ap (λ b. b && resolution_first (machine G1) 3 i (tabulate (machine G1).size (unit 1))) (set i)))
    ∙ dependent.cancels (tabulate (machine G1).size (unit 1))))

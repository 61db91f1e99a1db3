-- One input where no reply keeps the promise and does the wrong thing shuts out every build that does it.
use Rattle.std.specs.Prelude.{◌≡◌, ℕ, ◌^◌, ◌<◌, get_or}
use Rattle.std.proofs.Common.{◌∙◌, arith}
use Rattle.digits.specs.Def.{Word, bits_of}
use Rattle.document.specs.declared.Fields.{Fields}
use Rattle.document.specs.Limits.{work_words}
use Rattle.document.specs.Generator.{machine}
use Rattle.document.specs.Refusals.{question_refusal, report_refusal}
use Rattle.document.specs.Outputs.{output}
use Rattle.document.specs.Cells.{Answer}
use Rattle.question.specs.declared.Reply.{Reply}
use Rattle.report.specs.declared.reply.Report.{Report}
use Rattle.report.specs.Promises.{ReportOf}
use Rattle.shut_out.specs.Builds.{Call, outputs, question, report, Takes, Gives, Promised, Given, Fits, NoBuild, NoOutputs, NoAnswer, NoReport}
use Rattle.shut_out.specs.Inputs.{G1, start}
use Rattle.shut_out.specs.Taken.{marks, marks_fit, in_room, input, input_fits, accepted}

pub shown : (c : Call) (Does : Takes c → Gives c → Type 0) (a : Takes c) → Fits c a → ((r : Gives c) → Promised c a r → ¬ Does a r) → NoBuild c Does
unfolding NoBuild
shown c Does a f h = λ b does keeps. h (b a) (keeps a f) (does a f)

-- two outputs of G1
pub outputs_shown : (Does : Fields → ℕ → Word → (ℕ → ℕ) → Type 0)
    → ((y : ℕ → ℕ) → ((n : ℕ) → n < 2 → y n ≡ output (machine G1) n (bits_of start)) → ¬ Does G1 2 (bits_of start) y) → NoOutputs Does
unfolding NoOutputs
outputs_shown Does h =
    shown outputs _ (input outputs) (input_fits outputs)
    (λ r x does. let e : r.refusal ≡ 0 = x.number ∙ accepted outputs in h (λ n. get_or r.now n 0) (x.front e).front (does e))

-- an answer for g at (t, l)
pub answer_shown : (g : Fields) (t l : ℕ) → Given g → (t < 2 ^ 64) × (l < 2 ^ 64) → question_refusal g t l work_words ≡ 0
    → (Does : Fields → ℕ → ℕ → Reply → Type 0)
    → ((r : Reply) → Answer (machine g) t l r.yes r.d (bits_of r.set) → ¬ Does g t l r) → NoAnswer Does
unfolding NoAnswer
answer_shown g t l given (small-t, small-l) q Does h =
    shown question _ (record { g = g; t = record { 0 = t }; l = record { 0 = l }; was = marks work_words })
    (given, small-t, small-l, marks_fit 64 work_words (omega arith) (omega arith))
    (λ r x does. let e : r.reply.refusal ≡ 0 = x.refusal ∙ in_room (question_refusal g t l) work_words q in h r.reply (x.answer e) (does e))

-- the report of g
pub report_shown : (g : Fields) → Given g → report_refusal g work_words ≡ 0 → (Does : Fields → Report → Type 0)
    → ((r : Report) → ReportOf (machine g) r → ¬ Does g r) → NoReport Does
unfolding NoReport
report_shown g given q Does h =
    shown report _ (record { g = g; was = marks work_words })
    (given, marks_fit 64 work_words (omega arith) (omega arith))
    (λ r x does. let e = in_room (report_refusal g) work_words q in h r.reply (x.accepted e) (does (x.number ∙ e)))

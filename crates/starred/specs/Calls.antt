-- A corollary of the promises and the table (document/Cases): whatever a call replies that keeps its promise is the table's reply.
use Rattle.std.specs.Prelude.{◌≡◌, refl, true, false, List, [], ◌∷◌, ℕ, ◌*◌, ◌≤◌, ◌<◌, ltb, length, get_or}
use Rattle.std.proofs.Common.{sym, ap, ◌∙◌, le-ltb, le_refl}
use Rattle.std.specs.Float.{binary64}
use Rattle.std.specs.Float.Ieee.{of_bits}
use Rattle.digits.specs.Def.{digit, bits_of}
use Rattle.document.specs.declared.Fields.{Fields}
use Rattle.document.specs.Limits.{row_words, work_words}
use Rattle.document.specs.Generator.{machine}
use Rattle.document.specs.Description.{fields_of}
use Rattle.document.specs.Refusals.{field_cases, field_refusal, question_refusal, basis_refusal, report_refusal}
use Rattle.document.specs.Lowest.{then_of, skips, none_left, field_rises}
use Rattle.document.specs.Theorems.{read_accepted, answers_agree, bases_agree}
use Rattle.document.specs.Cases.{Reply, says_yes, says_no, basis, ME, sums, Case, asked, valued, table, set_of, Holds, All, Right, Every, starred}
use Rattle.question.specs.declared.Reply.{Reply as Answered}
use Rattle.question.specs.Promises.{Asked}
use Rattle.basis.specs.declared.BasisReply.{BasisReply}
use Rattle.basis.specs.Promises.{basis_row, BasisRows}
use Rattle.report.specs.declared.reply.Report.{Report}
use Rattle.report.specs.Promises.{ReportedAs}
use Rattle.value.specs.declared.Valued.{Valued}
use Rattle.value.specs.Promises.{ValuedAs}

-- what the calls reply, with a work buffer that is long enough
abbrev pub Called : Fields → ℕ → ℕ → Reply → Type 0
Called g t l says_yes =
    (was now : List ℕ) (r : Answered) → work_words ≤ length was → Asked g (record { 0 = t }) (record { 0 = l }) was r now
    → (r.refusal ≡ 0) × (r.yes ≡ true) × (r.d ≡ 0) × ((i : ℕ) → bits_of r.set i ≡ false)
Called g t l (says_no d S) =
    (was now : List ℕ) (r : Answered) → work_words ≤ length was → Asked g (record { 0 = t }) (record { 0 = l }) was r now
    → (r.refusal ≡ 0) × (r.yes ≡ false) × (r.d ≡ d) × ((i : ℕ) → bits_of r.set i ≡ digit (set_of S) i)
Called g t l (basis ws) =
    (was now : List ℕ) (r : BasisReply) → work_words ≤ length was → BasisRows g (record { 0 = t }) (record { 0 = l }) was r now
    → (r.refusal ≡ 0) × (r.words ≡ row_words * length ws) × ((i : ℕ) → i < length ws → (b : ℕ) → basis_row now i b ≡ digit (get_or ws i 0) b)
Called g t l ME = (was now : List ℕ) (r : Report) → work_words ≤ length was → ReportedAs g was r now → (r.refusal ≡ 0) × (r.me ≡ true)
Called g t l (sums a b) =
    (was now : List ℕ) (r : Report) → work_words ≤ length was → ReportedAs g was r now → (r.refusal ≡ 0) × (r.resolution_sum ≡ a) × (r.dimension_sum ≡ b)

-- ---- room enough is as good as room for the work buffer

room : (n m : ℕ) → work_words ≤ n → work_words ≤ m → ltb n work_words ≡ ltb m work_words
room n m h k = le-ltb n work_words h ∙ sym (le-ltb m work_words k)

question_room : (g : Fields) (t l n : ℕ) → work_words ≤ n → question_refusal g t l work_words ≡ 0 → question_refusal g t l n ≡ 0
unfolding question_refusal
question_room g t l n h e = rw (room n work_words h (le_refl work_words)) e

basis_room : (g : Fields) (t l n : ℕ) → work_words ≤ n → basis_refusal g t l work_words ≡ 0 → basis_refusal g t l n ≡ 0
unfolding basis_refusal
basis_room g t l n h e = rw (room n work_words h (le_refl work_words)) e

report_room : (g : Fields) (n : ℕ) → work_words ≤ n → field_refusal g ≡ 0 → report_refusal g n ≡ 0
unfolding report_refusal field_refusal
report_room g n h e = sym (then_of 0 (field_cases g) _ 0 (field_rises g) e (skips 0 11 _ _ [] refl (le-ltb n work_words h) none_left))

-- ---- each reply

called : (g : Fields) (t l : ℕ) (r : Reply) → field_refusal g ≡ 0 → Holds g t l r → Called g t l r
called g t l says_yes z (e, a) = λ was now r h x.
    let q : r.refusal ≡ 0 = x.refusal ∙ question_room g t l (length was) h e in
    let (y, d, s) = answers_agree (machine g) t l r.yes true r.d 0 (bits_of r.set) (λ _. false) (x.answer q) a in
    (q, y, d, s)
called g t l (says_no d S) z (e, a) = λ was now r h x.
    let q : r.refusal ≡ 0 = x.refusal ∙ question_room g t l (length was) h e in
    let (y, c, s) = answers_agree (machine g) t l r.yes false r.d d (bits_of r.set) (digit (set_of S)) (x.answer q) a in
    (q, y, c, s)
called g t l (basis ws) z (e, a) = λ was now r h x.
    let q : r.refusal ≡ 0 = x.refusal ∙ basis_room g t l (length was) h e in
    let p = x.rows q in
    let (n, s) = bases_agree (machine g) t l (length ws) p.rank (λ i. digit (get_or ws i 0)) (basis_row now) a p.rows in
    (q, p.count ∙ ap (λ k. row_words * k) (sym n), λ i k b. sym (s i k b))
called g t l ME z e = λ was now r h x.
    let q : report_refusal g (length was) ≡ 0 = report_room g (length was) h z in
    (x.number ∙ q, (x.accepted q).me ∙ e)
called g t l (sums a b) z (e, f) = λ was now r h x.
    let q : report_refusal g (length was) ≡ 0 = report_room g (length was) h z in
    (x.number ∙ q, (x.accepted q).resolution_sum ∙ e, (x.accepted q).dimension_sum ∙ f)

-- ---- the whole table

abbrev pub AllCalled : Fields → ℕ → ℕ → List Reply → Type 0
AllCalled g t l [] = Unit {0}
AllCalled g t l (r ∷ rs) = Called g t l r × AllCalled g t l rs

abbrev pub CaseCalled : Case → Type 0
CaseCalled (asked n bs t l rs) = AllCalled (fields_of bs) t l rs
CaseCalled (valued n y L bits) = (r : Valued) → ValuedAs y L r → (r.refusal ≡ 0) × (r.value ≡ of_bits binary64 bits)

abbrev pub EveryCalled : List Case → Type 0
EveryCalled [] = Unit {0}
EveryCalled (c ∷ cs) = CaseCalled c × EveryCalled cs

all_called : (g : Fields) (t l : ℕ) (rs : List Reply) → field_refusal g ≡ 0 → All g t l rs → AllCalled g t l rs
all_called g t l [] z h = tt
all_called g t l (r ∷ rs) z (h, hs) = (called g t l r z h, all_called g t l rs z hs)

case_called : (c : Case) → Right c → CaseCalled c
case_called (asked n bs t l rs) (e, h) = all_called (fields_of bs) t l rs (read_accepted bs e) h
case_called (valued n y L bits) (e, f) = λ r x. (x.number ∙ e, x.accepted e ∙ ap (of_bits binary64) f)

every_called : (cs : List Case) → Every cs → EveryCalled cs
every_called [] h = tt
every_called (c ∷ cs) (h, hs) = (case_called c h, every_called cs hs)

-- The starred cases of document 01, of the calls.
pub starred_calls : EveryCalled table
starred_calls = every_called table starred

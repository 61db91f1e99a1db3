-- No build leaves the lent buffer as it was: an accepted call puts another number than the mark there.
use Rattle.std.specs.Prelude.{◌≡◌, refl, true, List, ◌++◌, ℕ, ◌≤◌, length, get_or, drop}
use Rattle.std.proofs.Common.{sym, ap, ◌∙◌, true≢false, arith, get_or-take}
use Rattle.std.proofs.Math.ListN.{get_or-append}
use Rattle.digits.specs.Def.{digit, bits_of}
use Rattle.document.specs.Limits.{row_words, work_words}
use Rattle.document.specs.Description.{length_of, description}
use Rattle.basis.specs.Promises.{basis_row}
use Rattle.listing_text.specs.Text.{most_text}
use Rattle.shut_out.specs.Builds.{Call, read, write, outputs, question, basis, report, value, listing, Gives, Promised, NoBuild, Unwritten}
use Rattle.shut_out.specs.Inputs.{G1, known}
use Rattle.shut_out.specs.Taken.{marks, marks_long, mark, input, input_fits, accepted}
use Rattle.shut_out.specs.Shown.{shown}
use Rattle.shut_out.specs.Refusing.{text, first_letter, not_empty}

-- the number in front
abbrev first : List ℕ → ℕ
first ws = get_or ws 0 0

-- the kind stands first in a description
kind_first : (rest : List ℕ) → first (description G1 ++ rest) ≡ 1
unfolding description
kind_first rest = known.kind_1

-- a row whose second word is a mark has the bit 64
row_marked : (now : List ℕ) → get_or now 1 0 ≡ 3 → basis_row now 0 64 ≡ true
unfolding basis_row bits_of digit
row_marked now e = rw (get_or-take row_words now 1 0 (omega arith), e) refl

written : (c : Call) (r : Gives c) → Promised c (input c) r → ¬ Unwritten c (input c) r
written read r x n = n
written write r x e =
    let front = ap first (x.front (x.number ∙ accepted write)) ∙ kind_first (drop (length_of G1.kind) (marks 65)) in
    omega (arith, ap first e, mark 65 0 (omega arith), front)
written outputs r x e = omega (arith, ap first e, mark 2 0 (omega arith), (x.front (x.number ∙ accepted outputs)).front 0 (omega arith), known.output_0)
written question r x e = omega (arith, ap first e, mark work_words 0 (omega arith), (x.memory (x.refusal ∙ accepted question)).front 0 (omega arith))
written basis r x e =
    let p = x.rows (x.refusal ∙ accepted basis) in
    let set : basis_row r.now 0 64 ≡ true = row_marked r.now (ap (λ s. get_or s 1 0) e ∙ mark work_words 1 (omega arith)) in
    true≢false (sym set ∙ p.rows.past 0 p.some 64 (omega (arith, known.size_4)))
written report r x e = omega (arith, ap first e, mark work_words 0 (omega arith), (x.cleared (accepted report)).front 0 (omega arith))
written value r x n = n
written listing r x e =
    let room : most_text ≤ length (marks most_text) = omega (arith, marks_long most_text) in
    let front = ap first (x.text room) ∙ get_or-append text (drop (length text) (marks most_text)) 0 0 not_empty ∙ first_letter in
    omega (arith, ap first e, mark most_text 0 (omega arith), front)

pub buffers_unwritten : (c : Call) → NoBuild c (Unwritten c)
buffers_unwritten c = shown c _ (input c) (input_fits c) (written c)

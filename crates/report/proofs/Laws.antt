-- From the first dependent bits of a prepared generator to its answers, and what is left in the work buffer. Assumes nothing.
use mathlib.Core.Path.{◌≡◌, ap, ◌∙◌}
use mathlib.Core.List.{List}
use Prim.Native.Nat.{ℕ, ◌+◌, ◌-◌, ◌≤◌, ◌<◌}
use native.Mathlib.Omega.{arith}
use borrow.Author.Count.{below_more}
use borrow.Author.Tests.{ltb-false}
use lib.ListN.{length, get_or, set}
use lib.Seq.{get_or-set_same, get_or-set_other}
use Rattle.document.specs.declared.Fields.{Fields}
use Rattle.document.specs.Limits.{work_words}
use Rattle.document.specs.Generator.{machine}
use Rattle.document.specs.Memory.{Front}
use Rattle.document.specs.Ranges.{Accepted, passed}
use Rattle.document.proofs.Accepted.{accepted}
use Rattle.document.specs.Refusals.{field_cases, report_refusal}
use Rattle.document.specs.Lowest.{after, field_rises}
use Rattle.document.specs.Cells.{is_yes}
use Rattle.elimination.specs.Words.{Cleared}
use Rattle.running.specs.declared.ready.Prepared.{Prepared}
use Rattle.running.specs.Prepared.{PreparedFor, machine_of}
use Rattle.running.specs.Theorems.{prepared_size, prepared_width}
use Rattle.filling.specs.Rows.{FirstDependent}
use Rattle.filling.specs.Theorems.{answers_all}
use Rattle.tables.specs.Tables.{says}
use Rattle.report.specs.Firsts.{Answers, FirstBits}

-- what `first_dependent` finds among more rows than state bits answers every question of its resolution
pub answered : (p : Prepared) (l n : ℕ) (ws : List ℕ) (d : ℕ) (out : List ℕ) → 1 ≤ l → l ≤ (machine_of p).width → (machine_of p).size < n
    → FirstDependent (machine_of p) l n ws d out → Answers p l d
answered p l n ws d out lo hi many x =
    λ g a y t. answers_all g p a y l lo (omega (arith, prepared_width g p a y)) n ws d out (omega (arith, prepared_size g p a y)) x t

-- one entry more
pub answers_more : (p : Prepared) (first : List ℕ) (i d : ℕ) → i < length first → ((j : ℕ) → j < i → Answers p (j + 1) (get_or first j 0)) → Answers p (i + 1) d
    → (j : ℕ) → j < i + 1 → Answers p (j + 1) (get_or (set first i d) j 0)
answers_more p first i d h was now =
    below_more (λ (j : ℕ). Answers p (j + 1) (get_or (set first i d) j 0)) i
    (λ j b. rw (get_or-set_other first i j d 0 (λ q. omega arith)) (was j b))
    (rw (get_or-set_same first i d 0 h) now)

-- the entries answer every question
pub says_all : (p : Prepared) (was first now : List ℕ) → FirstBits p was first now → (g : Fields) → Accepted g → PreparedFor g p
    → (t l : ℕ) → 1 ≤ l → l ≤ (machine g).width → is_yes (machine g) t l ≡ says first t l
unfolding says
says_all p was first now x g a y t l lo hi =
    let e : l - 1 + 1 ≡ l = omega arith in
    rw e at (x.answers (l - 1) (omega (arith, prepared_width g p a y)) g a y t)

-- the work buffer is cleared, and what lies behind it is as it was
pub front_cleared : (p : Prepared) (was first mid now : List ℕ) → FirstBits p was first mid → Cleared mid 0 work_words now → Front work_words (λ _. 0) was now
front_cleared p was first mid now x y =
    record {
      long = y.kept.long ∙ x.long;
      front = λ i h. ap (λ n. get_or now n 0) {x = i} {y = 0 + i} (omega arith) ∙ y.here i h;
      rest = λ i h. y.kept.above i (omega arith) ∙ x.rest i h;
    }

-- no refusal: the fields are accepted, and there is room
pub report_accepted : (g : Fields) (room : ℕ) → report_refusal g room ≡ 0 → Accepted g × (work_words ≤ room)
unfolding report_refusal
report_accepted g room e =
    let (a, b) = after 0 (field_cases g) _ (field_rises g) e in
    (accepted g a, ltb-false room work_words (passed 10 _ _ b).0)

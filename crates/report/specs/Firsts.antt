-- The first dependent bits of a prepared generator, by the questions that they answer.
use Rattle.std.specs.Prelude.{◌≡◌, List, ℕ, ◌+◌, ◌*◌, ◌≤◌, ◌<◌, leb, length, get_or}
use Rattle.document.specs.declared.Fields.{Fields}
use Rattle.document.specs.Limits.{work_words}
use Rattle.document.specs.Generator.{machine}
use Rattle.document.specs.Ranges.{Accepted}
use Rattle.document.specs.Cells.{is_yes}
use Rattle.running.specs.declared.ready.Prepared.{Prepared}
use Rattle.running.specs.Prepared.{PreparedFor, machine_of}

-- d answers every question of the resolution l, for whatever description p is prepared of
abbrev pub Answers : Prepared → ℕ → ℕ → Type 0
Answers p l d = (g : Fields) → Accepted g → PreparedFor g p → (t : ℕ) → is_yes (machine g) t l ≡ leb (t * l) d

-- entry l - 1 answers those of the resolution l; the words behind the work buffer are as they were
pub record FirstBits (p : Prepared) (was first now : List ℕ) : Type 0 where
  pub answers : (i : ℕ) → i < (machine_of p).width → Answers p (i + 1) (get_or first i 0)
  pub long : length now ≡ length was
  pub rest : (j : ℕ) → work_words ≤ j → get_or now j 0 ≡ get_or was j 0

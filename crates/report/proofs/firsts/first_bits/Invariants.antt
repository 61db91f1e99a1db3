-- `report::firsts::first_bits` meets its contract. The loop's invariant: the entries before i answer the questions of the resolutions 1 to i, and
-- the words behind the work buffer are as they were.
use Rattle.std.proofs.Common.{◌≡◌, ℕ, ◌+◌, ◌≤◌, ◌<◌, length, get_or}
use Rattle.document.specs.Limits.{work_words}
use Rattle.report.specs.Firsts.{Answers}
use Rattle.report.proofs.firsts.first_bits.Given as goal

abbrev pub invariant-loop-i : goal.invariant-loop-i
invariant-loop-i l = (length l.work ≡ length l.initial.work) × ((j : ℕ) → work_words ≤ j → get_or l.work j 0 ≡ get_or l.initial.work j 0) × ((j : ℕ) → j < l.i → Answers l.p (j + 1) (get_or l.entry-items j 0))

use Rattle.rows.proofs.KindOne.{back_set, back_unset}
use mathlib.Core.Path.{sym, ◌∙◌}
use borrow.Author.Rules.{rules}
use Rattle.rows.proofs.tausworthe.step_backed.Goals as goal

pub returns-then-bit_at : goal.returns-then-bit_at
returns-then-bit_at c =
    back_set _ _ _ _ c.requires.0 c.requires.1 (search rules) c.shifted_up-r.ensures _ (sym c.bit_at.ensures ∙ c.if-bit_at.true) c.added.ensures

pub returns-else-bit_at : goal.returns-else-bit_at
returns-else-bit_at c =
    back_unset _ _ _ _ c.requires.0 c.requires.1 (search rules) c.shifted_up-r.ensures (sym c.bit_at.ensures ∙ c.if-bit_at.false)

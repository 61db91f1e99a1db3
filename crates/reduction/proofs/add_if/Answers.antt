-- `reduction::add_if` meets its contract.
use mathlib.Core.Path.{sym, ◌∙◌}
use native.Mathlib.Omega.{arith}
use Rattle.elimination.proofs.Words.{apart_rows, apart_from}
use Rattle.reduction.proofs.Columns.{added_yes, added_no}
use Rattle.reduction.proofs.add_if.Goals as goal

pub add_words-requires : goal.add_words-requires
add_words-requires c =
    (omega arith, omega arith, apart_from _ _ c.args.layout.width _ (omega arith) (apart_rows _ _ _ _ c.requires.in_room.0 c.args.layout.width_within))

pub returns-then-bit_at : goal.returns-then-bit_at
returns-then-bit_at c =
    added_yes _ _ _ _ _ _ _ c.requires.in_room.3 c.requires.zero c.add_words.ensures (sym c.bit_at.ensures ∙ c.if-bit_at.true)

pub returns-else-bit_at : goal.returns-else-bit_at
returns-else-bit_at c = added_no _ _ _ _ _ _ (sym c.bit_at.ensures ∙ c.if-bit_at.false)

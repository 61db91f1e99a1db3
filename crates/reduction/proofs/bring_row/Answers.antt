-- `reduction::bring_row` meets its contract.
use mathlib.Core.Path.{sym}
use native.Mathlib.Omega.{arith}
use Rattle.elimination.proofs.Words.{apart_rows, apart_from}
use Rattle.reduction.proofs.Columns.{brought_same, brought-add}
use Rattle.reduction.proofs.bring_row.Goals as goal

pub add_words-requires : goal.add_words-requires
add_words-requires c =
    (omega arith, omega arith, apart_from _ _ c.args.layout.width _ c.requires.in_room.2 (apart_rows _ _ _ _ (λ e. c.if-p-r.true (sym e)) c.args.layout.width_within))

pub returns-then-p-r : goal.returns-then-p-r
returns-then-p-r c = brought-add _ _ _ _ _ _ _ c.if-p-r.true c.requires.in_room.2 c.requires.zero c.add_words.ensures

pub returns-else-p-r : goal.returns-else-p-r
returns-else-p-r c = brought_same _ _ _ _ _ c.if-p-r.false

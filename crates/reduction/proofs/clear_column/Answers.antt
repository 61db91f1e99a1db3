use Rattle.reduction.proofs.Columns.{column_none, column_skip, column_add}
use Rattle.reduction.proofs.clear_column.Goals as goal
use Rattle.reduction.proofs.clear_column.Goals.{then-q-r, else-q-r}

pub loop-q-init : goal.loop-q-init
loop-q-init c = column_none _ _ _ _ _ _

pub loop-q-preserved : goal.loop-q-preserved
loop-q-preserved c =
    let l = c.loop-q in
    elim c.if-q-r.branch [
      | then-q-r w ↦ rw w.buf-is (column_add _ _ _ _ _ _ _ _ l.invariant _ c.loop-q-test.true w.if-q-r.true c.args.layout.width_within c.requires.in_room.2 w.add_if.ensures)
      | else-q-r w ↦ rw w.buf-is (column_skip _ _ _ _ _ _ _ _ l.invariant w.if-q-r.false)
    ]

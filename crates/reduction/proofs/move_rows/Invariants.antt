-- `reduction::move_rows` meets its contract. The loop's invariant: the rows below p are moved.
use Rattle.reduction.specs.Packs.{Moved}
use Rattle.reduction.proofs.move_rows.Given as goal

abbrev pub invariant-loop-p : goal.invariant-loop-p
invariant-loop-p l = Moved l.initial.buf l.p l.layout.stride l.layout.width l.buf

-- `reduction::clear_column` meets its contract. The loop's invariant: the rows below q are done, the others as they were.
use Rattle.reduction.specs.Columns.{Column}
use Rattle.reduction.proofs.clear_column.Given as goal

abbrev pub invariant-loop-q : goal.invariant-loop-q
invariant-loop-q l = Column l.initial.buf l.n l.r l.layout.stride l.layout.width l.c l.q l.buf

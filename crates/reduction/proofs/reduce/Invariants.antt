-- `reduction::reduce` meets its contract. The loop's invariant: the columns below c are reduced.
use Rattle.reduction.specs.Columns.{ReducedForm}
use Rattle.reduction.proofs.reduce.Given as goal

abbrev pub invariant-loop-c : goal.invariant-loop-c
invariant-loop-c l = ReducedForm l.initial.buf l.n l.layout.stride l.layout.width l.c l.rank l.buf

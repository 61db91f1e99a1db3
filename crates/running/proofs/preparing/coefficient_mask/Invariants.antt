use Rattle.running.proofs.Masks.{Laying}
use Rattle.running.proofs.preparing.coefficient_mask.Given as goal

abbrev pub invariant-loop-j : goal.invariant-loop-j
invariant-loop-j l = Laying l.fn.c l.mask l.j

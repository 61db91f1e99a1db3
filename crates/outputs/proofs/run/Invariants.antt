-- Before each place as many outputs are written as the place's number says, and the state has moved as often.
use Rattle.running.specs.Prepared.{machine_of}
use Rattle.outputs.proofs.Laws.{Running}
use Rattle.outputs.proofs.run.Given as goal

abbrev pub invariant-loop-place : goal.invariant-loop-place
invariant-loop-place l = Running (machine_of l.p) l.initial.s l.initial.out l.place-index l.s l.out

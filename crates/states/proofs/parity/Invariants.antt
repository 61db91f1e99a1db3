use Rattle.states.proofs.StateLaws.{Summing}
use Rattle.std.proofs.Common.{length}
use Rattle.states.proofs.parity.Given as goal

abbrev pub invariant-loop-x : goal.invariant-loop-x
invariant-loop-x l = Summing l.fn.a l.fn.b l.common (length l.yielded)

-- `OutputBits::fill` meets its contract. The loop's invariant: the rows below i are filled.
use Rattle.running.specs.Prepared.{machine_of}
use Rattle.filling.specs.Rows.{Filled}
use Rattle.filling.proofs.bits.OutputBits.fill.Given as goal

abbrev pub invariant-loop-i : goal.invariant-loop-i
invariant-loop-i l = Filled (machine_of l.self.generator) l.self.l l.i l.initial.buf l.buf

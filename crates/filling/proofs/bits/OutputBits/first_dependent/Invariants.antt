-- `OutputBits::first_dependent` meets its contract. The loop's invariant: the rows below i are taken, and stand as they came in the second halves of their places.
use Rattle.std.proofs.Common.{◌≡◌, length, ◌*◌}
use Rattle.document.specs.Limits.{row_words}
use Rattle.running.specs.Prepared.{machine_of}
use Rattle.filling.proofs.Turn.{Growing}
use Rattle.filling.proofs.bits.OutputBits.first_dependent.Given as goal

abbrev pub invariant-loop-i : goal.invariant-loop-i
invariant-loop-i l = (length l.slots ≡ 64 * row_words) × Growing (machine_of l.self.generator) l.self.l l.i l.initial.buf l.buf l.slots

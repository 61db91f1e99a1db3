-- `elimination::eliminate` meets its contract. The loop's invariant: the rows below r have leading bits of their own.
use Rattle.std.proofs.Common.{◌*◌}
use Rattle.elimination.specs.Rows.{SlotsKept, Eliminating}
use Rattle.elimination.proofs.eliminate.Given as goal

abbrev pub invariant-loop-r : goal.invariant-loop-r
invariant-loop-r l = SlotsKept (64 * l.layout.lead) l.fn.slots l.slots × Eliminating l.initial.buf l.r l.r l.layout.stride l.layout.width l.layout.lead l.buf l.slots

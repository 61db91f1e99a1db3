-- `elimination::reduce_row` meets its contract. The loop's invariant: some earlier rows are added, and b is the leading bit; it rises with each turn.
use Rattle.std.proofs.Common.{◌*◌, ◌-◌}
use Rattle.elimination.specs.Rows.{Reduced}
use Rattle.elimination.proofs.reduce_row.Given as goal

abbrev pub invariant-loop-b : goal.invariant-loop-b
invariant-loop-b l = Reduced l.initial.buf l.r l.layout.stride l.layout.width l.layout.lead l.buf l.b

abbrev pub decreases-loop-b : goal.decreases-loop-b
decreases-loop-b l = 64 * l.layout.lead - l.b

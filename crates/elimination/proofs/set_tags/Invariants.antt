-- `elimination::set_tags` meets its contract. The loop's invariant: the rows below p carry their sets.
use Rattle.elimination.specs.Rows.{Tagging}
use Rattle.elimination.proofs.set_tags.Given as goal

abbrev pub invariant-loop-p : goal.invariant-loop-p
invariant-loop-p l = Tagging l.initial.buf l.p l.layout.stride l.layout.width l.layout.lead l.buf

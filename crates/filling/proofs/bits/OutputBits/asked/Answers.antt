-- `OutputBits::asked` meets its contract: what passes the shared checks is prepared, and its width is the field L.
use Rattle.std.proofs.Common.{refl, sym, arith}
use Rattle.arguments.specs.Passed.{asked_passed}
use Rattle.filling.specs.Theorems.{prepared_bits}
use Rattle.filling.proofs.bits.OutputBits.asked.Goals as goal

pub prepare-requires : goal.prepare-requires
prepare-requires c = (asked_passed _ _ _ (sym c.in_ok-asked_refusal.ensures)).accepted

pub invariant_of-result : goal.invariant_of-result
invariant_of-result c =
    let x = asked_passed _ _ _ (sym c.in_ok-asked_refusal.ensures) in
    record { some = x.l_least; within = omega (arith, x.l_most, prepared_bits _ _ x.accepted c.prepare.ensures) }

pub returns-clause-accepted : goal.returns-clause-accepted
returns-clause-accepted c = record { passed = asked_passed _ _ _ (sym c.in_ok-asked_refusal.ensures); prepared = c.prepare.ensures; same = refl }

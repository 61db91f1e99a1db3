use Rattle.running.proofs.KindTwo.{Chosen}
use Prim.Native.Nat.{◌≤◌}
use Rattle.running.proofs.gfsr.next.Given as goal

abbrev pub invariant-loop-i : goal.invariant-loop-i
invariant-loop-i l = (l.i ≤ l.r) × Chosen l.mask l.s l.w l.i l.x

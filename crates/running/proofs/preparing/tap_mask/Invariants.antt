use Rattle.running.proofs.Masks.{Tapping}
use Prim.Native.Nat.{◌≤◌}
use Rattle.running.proofs.preparing.tap_mask.Given as goal

abbrev pub invariant-loop-i : goal.invariant-loop-i
invariant-loop-i l = (l.i ≤ l.k) × Tapping l.k l.c l.mask l.i

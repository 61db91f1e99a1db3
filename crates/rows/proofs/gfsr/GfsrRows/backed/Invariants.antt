use Rattle.rows.proofs.KindTwo.{Laid}
use Prim.Native.Nat.{◌≤◌}
use Rattle.rows.proofs.gfsr.GfsrRows.backed.Given as goal

abbrev pub invariant-loop-i : goal.invariant-loop-i
invariant-loop-i l = (l.i ≤ l.self.r) × Laid l.self.mask l.self.w l.y l.initial.d l.d l.i

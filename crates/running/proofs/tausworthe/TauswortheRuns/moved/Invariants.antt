use mathlib.Core.Path.{◌≡◌}
use Prim.Native.Nat.{◌≤◌}
use Rattle.running.specs.Prepared.{Stepped}
use Rattle.running.proofs.tausworthe.TauswortheRuns.moved.Given as goal

abbrev pub invariant-loop : goal.invariant-loop
invariant-loop l = (l.counter ≤ l.self.nu) × (l.end ≡ l.self.nu) × Stepped l.self.k l.self.mask l.counter l.fn.s l.t

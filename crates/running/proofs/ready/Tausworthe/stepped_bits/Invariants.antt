use mathlib.Core.Path.{◌≡◌}
use Prim.Native.Nat.{◌≤◌}
use Rattle.running.proofs.KindOne.{Put}
use Rattle.running.proofs.ready.Tausworthe.stepped_bits.Given as goal

abbrev pub invariant-loop : goal.invariant-loop
invariant-loop l = (l.counter ≤ l.self.bits) × (l.end ≡ l.self.bits) × Put l.self.k l.self.mask l.fn.s l.t l.r l.counter

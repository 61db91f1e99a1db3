use Prim.Native.Nat.{◌≤◌}
use Rattle.rows.specs.Post.{StepsBack}
use Rattle.rows.proofs.tausworthe.steps_backed.Given as goal

abbrev pub invariant-loop : goal.invariant-loop
invariant-loop l = (l.counter ≤ l.n) × StepsBack l.k l.mask l.counter l.fn.row l.r

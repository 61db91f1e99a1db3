use mir.Syntax.{w64}
use mir.Val.{Fits}
use Prim.Native.Nat.{◌/◌}
use Rattle.states.proofs.StateLaws.{in_one, in_two}
use native.Mathlib.Omega.{arith}
use lib.ListN.{get_or}
use borrow.Author.Rules.{rules}
use Rattle.states.proofs.word_at.Goals as goal

pub returns-then-o-w-le64 : goal.returns-then-o-w-le64
returns-then-o-w-le64 c = rw c.low.ensures (in_one _ _ _ c.if-o-w-le64.true)

pub returns-else-o-w-le64 : goal.returns-else-o-w-le64
returns-else-o-w-le64 c =
    let f : Fits w64 (get_or c.args.s.now (c.args.pos / 64) 0) = search rules in
    rw c.low-else-o-w-le64.ensures (in_two _ _ _ f.fits c.if-o-w-le64.false (omega arith))

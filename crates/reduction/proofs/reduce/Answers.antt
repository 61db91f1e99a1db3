use native.Mathlib.Omega.{arith}
use Rattle.reduction.proofs.Columns.{form_start, form_pass, form_turn}
use Rattle.reduction.proofs.reduce.Goals as goal
use Rattle.reduction.proofs.reduce.Goals.{then-rank-n+in-Some, then-rank-n+in_default, else-rank-n}

pub loop-c-init : goal.loop-c-init
loop-c-init c = form_start _ _ _ _

pub loop-c-preserved : goal.loop-c-preserved
loop-c-preserved c =
    let l = c.loop-c in
    let h = c.loop-c-test.true in
    elim c.if-rank-n.branch [
      | then-rank-n+in-Some w ↦ rw (w.buf-is, w.rank-is) (form_turn _ _ _ _ _ _ _ l.invariant (omega (arith, h, c.requires.1)) _ w.in-Some.ensures _ w.take_pivot.ensures)
      | then-rank-n+in_default w ↦ rw (w.buf-is, w.rank-is) (form_pass _ _ _ _ _ _ _ l.invariant (omega (arith, h, c.requires.1)) w.in_default.ensures)
      | else-rank-n w ↦ rw (w.buf-is, w.rank-is) (form_pass _ _ _ _ _ _ _ l.invariant (omega (arith, h, c.requires.1)) (λ q a b. absurd (omega (arith, w.if-rank-n, a, b))))
    ]

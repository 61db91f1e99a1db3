-- `engine::fitting` meets its contract.
use Rattle.std.proofs.Common.{arith}
use native.Mathlib.Nat.{le-div_iff_mul-le}
use Rattle.engine.proofs.fitting.Goals as goal
use Rattle.engine.proofs.fitting.Goals.{else-lead-width-via-then-lead-width+then-width-stride+then-stride-gt0+else-rows-n, else-lead-width-via-then-lead-width+then-width-stride+else-stride-gt0, else-lead-width-via-then-lead-width+else-width-stride, else-lead-width-via-else-lead-width}

pub returns-else-lead-width : goal.returns-else-lead-width
returns-else-lead-width c =
    λ (l, f). elim c.else-lead-width.branch [
      | else-lead-width-via-then-lead-width+then-width-stride+then-stride-gt0+else-rows-n w ↦ omega (arith, w.if-rows-n, (le-div_iff_mul-le {x = c.args.rows} f.strides).1 f.words)
      | else-lead-width-via-then-lead-width+then-width-stride+else-stride-gt0 w ↦ omega (arith, w.if-stride-gt0, f.strides)
      | else-lead-width-via-then-lead-width+else-width-stride w ↦ omega (arith, w.if-width-stride, f.widths)
      | else-lead-width-via-else-lead-width w ↦ omega (arith, w.if-lead-width, l)
    ]

use Rattle.document.specs.Limits.{row_words, coefficient_bytes}
use Rattle.std.proofs.Common.{rules, ◌≡◌, arith}
use Rattle.running.proofs.Masks.{laying_start, laying_step, laying_end}
use Rattle.running.proofs.preparing.coefficient_mask.Goals as goal

pub loop-j-init : goal.loop-j-init
loop-j-init c = laying_start row_words _

pub loop-j-preserved : goal.loop-j-preserved
loop-j-preserved c = laying_step _ _ _ _ _ _ c.loop-j.invariant c.from.ensures c.mirrored.ensures c.placed-next.ensures

pub returns : goal.returns
returns c = let e : c.loop-j.j ≡ coefficient_bytes = omega arith in laying_end coefficient_bytes _ _ (search rules) (rw e at c.loop-j.invariant)

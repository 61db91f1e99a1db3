-- A run fills the part that it is lent, and that part is t long: by arithmetic, as its bounds are, so that a part of another length is refused for its length.
use Rattle.std.proofs.Common.{sym, length-take-le, arith}
use Rattle.outputs.proofs.Laws.{outputs_passed, ran_part}
use Rattle.outputs.proofs.run_checked.Goals as goal

pub prepare-requires : goal.prepare-requires
prepare-requires c = (outputs_passed _ _ _ _ (sym c.in_ok-outputs_refusal.ensures)).0

pub slice_bounds-run-end : goal.slice_bounds-run-end
slice_bounds-run-end c = omega (arith, (outputs_passed _ _ _ _ (sym c.in_ok-outputs_refusal.ensures)).1)

pub slice_bounds-run-end-2 : goal.slice_bounds-run-end-2
slice_bounds-run-end-2 c = let fits = (outputs_passed _ _ _ _ (sym c.in_ok-outputs_refusal.ensures)).1 in search (length-take-le, arith, fits)

pub returns : goal.returns
returns c = ran_part _ _ _ _ _ c.in_ok-outputs_refusal.ensures _ c.prepare.ensures _ c.run.ensures (omega arith)

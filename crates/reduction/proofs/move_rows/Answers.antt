use Rattle.std.proofs.Common.{◌*◌}
use Rattle.reduction.proofs.Packs.{copied, moved_more}
use Rattle.reduction.proofs.move_rows.Goals as goal

pub loop-p-preserved : goal.loop-p-preserved
loop-p-preserved c =
    let l = c.args.layout in
    let done = copied (c.loop-p.p * l.stride) l.width c.copy_within.ensures.len c.copy_within.ensures.by_index in
    moved_more _ _ _ _ _ l.width_within c.loop-p.invariant _ done

-- `reduction::take_pivot` meets its contract.
use native.Mathlib.Omega.{arith}
use Rattle.reduction.proofs.Columns.{pivoted, brought_zero}
use mathlib.Core.Path.{◌∙◌}
use Rattle.reduction.proofs.take_pivot.Goals as goal

pub clear_column-requires : goal.clear_column-requires
clear_column-requires c =
    let q = c.requires.in_room in
    let x = c.bring_row.ensures in
    record {
      in_room = (q.0, omega (arith, q.2, x.kept.long), q.3);
      zero = λ i h. x.here i (omega (arith, q.3)) ∙ brought_zero _ _ _ _ c.args.layout.width _ c.requires.zero.0 c.requires.zero.1 i h;
    }

pub returns : goal.returns
returns c =
    pivoted _ _ _ _ _ _ _ _ _ c.requires.in_room.0 c.args.layout.width_within c.requires.in_room.3 c.bring_row.ensures c.clear_column.ensures

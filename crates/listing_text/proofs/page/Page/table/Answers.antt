use Rattle.std.proofs.Common.{◌≡◌, ◌+◌, ◌-◌, get_or-take, arith}
use Rattle.listing_text.specs.Text.{row_line}
use Rattle.listing_text.proofs.Laws.{lines_none, lines_more}
use Rattle.listing_text.proofs.page.Page.table.Goals as goal

pub loop-i-init : goal.loop-i-init
loop-i-init g c = lines_none _ _ (omega (arith, c.requires.room))

pub row-requires : goal.row-requires
row-requires g c =
    let x = c.loop-i.invariant.wrote in
    let entry = get_or-take c.entries.result c.args.table.now c.loop-i.i 0 (omega arith) in
    omega (arith, entry, c.requires.possible c.loop-i.i (omega arith), c.requires.room, x.few, x.stop, x.long)

pub loop-i-preserved : goal.loop-i-preserved
loop-i-preserved g c =
    let place : c.loop-i.i + 1 - 1 ≡ c.loop-i.i = omega arith in
    lines_more {line = row_line _ _ _ _ _} _ c.loop-i.i (cc (get_or-take c.entries.result c.args.table.now c.loop-i.i 0 (omega arith))) c.loop-i.invariant c.row.ensures

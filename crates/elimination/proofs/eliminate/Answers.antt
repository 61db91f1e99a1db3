use Rattle.elimination.proofs.Words.{cleared_front}
use Rattle.elimination.proofs.Take.{eliminating_start, eliminating_more, eliminating_last, slots_cleared, slots_again}
use Rattle.elimination.proofs.eliminate.Goals as goal

pub loop-r-init : goal.loop-r-init
loop-r-init c =
    let k = cleared_front c.requires.1 (c.fill.ensures.after (λ y e. e)) in
    (slots_cleared _ _ _ k, eliminating_start _ _ _ _ _ _ k)

pub returns-then-not-take_row : goal.returns-then-not-take_row
returns-then-not-take_row c =
    let l = c.loop-r in
    record {
      place = c.loop-r-test.true;
      state = eliminating_last _ _ _ _ _ _ _ c.args.layout.lead_within c.args.layout.width_within l.invariant.1 _ _ _ c.take_row.ensures c.if-not-take_row.true;
      zero = (c.take_row.ensures.no c.if-not-take_row.true).0;
      slots_kept = slots_again l.invariant.0 c.take_row.ensures.slots_kept;
    }

pub loop-r-preserved : goal.loop-r-preserved
loop-r-preserved c =
    let l = c.loop-r in (
      slots_again l.invariant.0 c.take_row.ensures.slots_kept,
      eliminating_more _ _ _ _ _ _ _ c.args.layout.lead_within c.args.layout.width_within l.invariant.1 _ _ _ c.take_row.ensures c.if-not-take_row.false,
    )

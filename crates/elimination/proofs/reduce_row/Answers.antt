use Rattle.std.proofs.Common.{arith}
use Rattle.elimination.proofs.Reduce.{reduced_start, turn}
use Rattle.elimination.proofs.reduce_row.Goals as goal

pub loop-b-init : goal.loop-b-init
loop-b-init c = reduced_start c.leading_bit-b.ensures

pub add_words-requires : goal.add_words-requires
add_words-requires c =
    let l = c.args.layout in
    let t = turn c.args.slots.now l.lead_within l.width_within c.requires.slotted c.in-Some.s c.loop-b.invariant c.loop-b-test.true (omega (arith, c.in-Some.ensures)) in
    (omega arith, omega (arith, t.ends), t.apart)

pub leading_bit-b-requires-in-loop-b : goal.leading_bit-b-requires-in-loop-b
leading_bit-b-requires-in-loop-b c =
    let l = c.args.layout in
    let t = turn c.args.slots.now l.lead_within l.width_within c.requires.slotted c.in-Some.s c.loop-b.invariant c.loop-b-test.true (omega (arith, c.in-Some.ensures)) in
    (omega arith, omega (arith, c.loop-b.invariant.kept.long, c.add_words.ensures.kept.long), omega arith, t.zero c.add_words.ensures)

pub loop-b-smaller : goal.loop-b-smaller
loop-b-smaller c =
    let l = c.args.layout in
    let t = turn c.args.slots.now l.lead_within l.width_within c.requires.slotted c.in-Some.s c.loop-b.invariant c.loop-b-test.true (omega (arith, c.in-Some.ensures)) in
    let g = t.rises c.add_words.ensures c.leading_bit-b-in-loop-b.ensures in
    omega arith

pub loop-b-preserved : goal.loop-b-preserved
loop-b-preserved c =
    let l = c.args.layout in
    let t = turn c.args.slots.now l.lead_within l.width_within c.requires.slotted c.in-Some.s c.loop-b.invariant c.loop-b-test.true (omega (arith, c.in-Some.ensures)) in
    t.more c.add_words.ensures c.leading_bit-b-in-loop-b.ensures

use Rattle.elimination.proofs.Tags.{tagging_more}
use Rattle.elimination.proofs.set_tags.Goals as goal

pub loop-p-preserved : goal.loop-p-preserved
loop-p-preserved c =
    let l = c.args.layout in
    rw c.flip_bit.ensures
    (tagging_more _ _ _ _ _ _ _ c.loop-p.invariant l.lead_within l.width_within c.requires.1 c.loop-p-test.true c.requires.0 _ c.clear_words.ensures)

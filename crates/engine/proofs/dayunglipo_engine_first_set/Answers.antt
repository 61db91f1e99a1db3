-- `engine::dayunglipo_engine_first_set` meets its contract.
use Rattle.std.proofs.Common.{rules}
use Rattle.engine.proofs.Laws.{set_answered}
use Rattle.engine.specs.Answers.{Roomy}
use Rattle.engine.proofs.dayunglipo_engine_first_set.Goals as goal

pub returns : goal.returns
returns c =
    let (good, s, w, l) = c.in-Some.ensures in
    let room : Roomy c.args.rows c.in-Some.layout.width c.in-Some.layout.lead = search rules in
    rw c.unwrap_or.ensures (set_answered _ _ _ _ _ _ _ (rw (s, w, l) at c.set_tags.ensures) good (rw (w, l) at room) _ _ c.eliminate.result (rw (s, w, l) at c.eliminate.ensures))

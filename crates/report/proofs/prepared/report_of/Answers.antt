-- The first dependent bits of a prepared generator answer every question of whatever it is prepared of, so the report made of them is its report.
use Rattle.std.proofs.Common.{◌∙◌}
use Rattle.document.specs.Generator.{machine}
use Rattle.running.specs.Theorems.{prepared_size, prepared_width}
use Rattle.report.specs.Theorems.{made_is}
use Rattle.report.proofs.Laws.{says_all, front_cleared}
use Rattle.report.proofs.prepared.report_of.Goals as goal

pub returns : goal.returns
returns c =
    let p = c.args.p in
    let s = c.sizes.ensures in
    record {
      number = c.of_first.ensures.refusal;
      report = λ g a y. made_is (machine g) _ _ _ (s.state ∙ prepared_size g p a y) (s.output ∙ prepared_width g p a y) (says_all p _ _ _ c.first_bits-first.ensures g a y) _ c.of_first.ensures;
      cleared = front_cleared p _ _ _ _ c.first_bits-first.ensures c.clear_words.ensures;
    }

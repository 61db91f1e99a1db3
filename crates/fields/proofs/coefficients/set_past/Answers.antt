use Rattle.std.specs.Prelude.{ℕ, Bool}
use Rattle.std.proofs.Common.{refl, ◌∙◌, ◌-◌, ◌/◌, ◌%◌, get_or, rules, tests}
use Rattle.std.proofs.lemmas.Iterator.{YieldsList-from_range}
use Rattle.std.proofs.lemmas.Iterator.Search.{any_from_yields_List}
use Rattle.digits.specs.Def.{digit}
use Rattle.fields.proofs.Laws.{any_from}
use Rattle.fields.proofs.coefficients.set_past.Goals as goal

pub returns : goal.returns
returns c =
    let set : ℕ → Bool = λ i. digit (get_or c.args.bytes.now (i / 8) 0) (7 - i % 8) in
    any_from_yields_List set _ _ _ c.any.ensures.ran (YieldsList-from_range c.args.n 480 (480 - c.args.n) refl refl) (λ x b q k. search (rules, tests))
    ∙ any_from set c.args.n 480

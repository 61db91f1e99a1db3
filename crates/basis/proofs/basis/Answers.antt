-- `basis::basis` meets its contract: the part is the front that the reply counts.
use Rattle.std.proofs.Common.{sym, ◌∙◌, arith, length-take-le}
use Rattle.basis.proofs.Laws.{part_handed}
use Rattle.basis.proofs.basis.Goals as goal

pub returns : goal.returns
returns c =
    let g = c.basis_rows-reply in
    let x = g.ensures in
    let f = length-take-le g.result.words g.new.work (omega (arith, x.within, x.long)) in
    record {
      accepted = λ e. part_handed _ _ _ g.result.words g.new.work (omega (arith, x.within, x.long)) (x.rows (x.refusal ∙ e));
      refused = λ n. f ∙ (x.refused (λ e. n (sym x.refusal ∙ e))).0;
    }

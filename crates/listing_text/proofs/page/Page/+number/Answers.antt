use Rattle.std.proofs.Common.{sym, arith}
use Rattle.listing_text.proofs.Laws.{added_then, added_as, decimal_small, decimal_more, decimal_few, few_more}
use Rattle.listing_text.proofs.page.Page.+number.Goals as goal

pub returns-then-n-lt10 : goal.returns-then-n-lt10
returns-then-n-lt10 t c = added_as _ (sym (decimal_small 4 _ c.if-n-lt10.true)) (decimal_few c.args.n) c.byte.ensures

pub byte-requires-2 : goal.byte-requires-2
byte-requires-2 t c =
    let x = c.number.ensures.wrote in
    omega (arith, x.long, x.stop, few_more c.args.n (omega arith) (omega arith), c.requires)

pub returns : goal.returns
returns t c = added_as _ (sym (decimal_more _ (omega arith) (omega arith))) (decimal_few c.args.n) (added_then c.number.ensures c.byte-2.ensures)

use Rattle.rows.proofs.KindFour.{unit-word, first_word_is}
use Rattle.rows.proofs.twister.first_word.Goals as goal

pub un_right-x-requires : goal.un_right-x-requires
un_right-x-requires c = let p = c.args.p in (p.words.narrow, p.shifts.3, (unit-word _ _ p.words.narrow c.requires).0)

pub returns : goal.returns
returns c =
    first_word_is _ _ _ _ _ _ _ _ _ _ _ _ _ (unit-word _ _ c.args.p.words.narrow c.requires).1 c.un_right-x.ensures c.un_left-y.ensures c.un_left.ensures c.un_right.ensures

use Rattle.running.proofs.KindFour.{next4_is}
use Rattle.running.proofs.ready.Twister.next.Goals as goal

pub returns : goal.returns
returns c =
    next4_is _ _ _ _ _ _ _ _ _ _ _ c.args.self.words.wide c.word_at-x.ensures c.word_at-y.ensures c.word_at-z.ensures c.joined.ensures c.twisted.ensures

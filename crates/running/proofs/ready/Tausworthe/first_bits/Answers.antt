use Rattle.running.proofs.KindOne.{first_is}
use Rattle.kinds.specs.Generator.{tausworthe}
use Rattle.running.proofs.ready.Tausworthe.first_bits.Goals as goal

pub returns : goal.returns
unfolding tausworthe
returns c = first_is c.args.self.k _ c.args.self.bits _ _ _ c.requires.1 c.word_at.ensures c.number.ensures

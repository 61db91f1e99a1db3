-- Of accepted fields, each arm of the match knows the kind's number, and so the ranges of that kind.
use Rattle.std.proofs.Common.{inl, inr}
use Rattle.running.proofs.PrepareLaws.{kind_is}
use Rattle.running.proofs.prepare.Goals as goal

pub of_tausworthe-requires : goal.of_tausworthe-requires
of_tausworthe-requires c = c.requires.one (kind_is _ _ c.requires c.in-Tausworthe.ensures)

pub of_gfsr-requires : goal.of_gfsr-requires
of_gfsr-requires c = c.requires.two (kind_is _ _ c.requires c.in-Gfsr.ensures)

pub of_twisted-requires : goal.of_twisted-requires
of_twisted-requires c = c.requires.three (kind_is _ _ c.requires c.in-Twisted.ensures)

pub of_twister-requires : goal.of_twister-requires
of_twister-requires c = c.requires.four (kind_is _ _ c.requires c.in-Mersenne.ensures)

pub returns-in-Tausworthe : goal.returns-in-Tausworthe
returns-in-Tausworthe c = (kind_is _ _ c.requires c.in-Tausworthe.ensures, c.of_tausworthe.ensures)

pub returns-in-Gfsr : goal.returns-in-Gfsr
returns-in-Gfsr c = (kind_is _ _ c.requires c.in-Gfsr.ensures, c.of_gfsr.ensures)

pub returns-in-Twisted : goal.returns-in-Twisted
returns-in-Twisted c = inl (kind_is _ _ c.requires c.in-Twisted.ensures, c.of_twisted.ensures)

pub returns-in-Mersenne : goal.returns-in-Mersenne
returns-in-Mersenne c = inr (kind_is _ _ c.requires c.in-Mersenne.ensures, c.of_twister.ensures)

use Rattle.std.proofs.Common.{◌≡◌, arith, ap₂}
use lib.Bits.{bit_xor}
use Rattle.elimination.proofs.Words.{written_none, written_more, written_apart}
use Rattle.elimination.proofs.add_words.Goals as goal

pub loop-k-init : goal.loop-k-init
loop-k-init c = written_none

pub loop-k-preserved : goal.loop-k-preserved
loop-k-preserved c =
    let x = c.loop-k.invariant in
    written_more _ (omega arith) (ap₂ bit_xor (x.kept.above _ (omega arith)) (written_apart _ _ c.loop-k-test.true c.requires.2 x)) x

pub returns : goal.returns
returns c =
    let eq : c.loop-k.k ≡ c.args.n = omega arith in
    rw eq at c.loop-k.invariant

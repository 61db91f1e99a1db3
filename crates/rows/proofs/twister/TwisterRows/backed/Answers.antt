use Rattle.kinds.specs.Generator.{mersenne}
use lib.Pow.{shr_lt}
use Rattle.rows.proofs.KindFour.{inside4, backed4_is, back4_is}
use mathlib.Core.Path.{◌≡◌}
use Prim.Native.Nat.{◌+◌, ◌-◌}
use native.Mathlib.Omega.{arith}
use Rattle.rows.proofs.twister.TwisterRows.backed.Goals as goal

pub placed-requires : goal.placed-requires
placed-requires c =
    let p = c.args.self in
    let e : p.p + (p.w - p.p) ≡ p.w = omega (arith, p.part) in
    (omega (arith, inside4 p, p.part), omega (arith, p.part, p.words.narrow), shr_lt p.p (p.w - p.p) (rw e c.untwisted-z.ensures.small))

pub returns : goal.returns
unfolding mersenne
returns c =
    back4_is c.args.self _ _ c.requires
    (backed4_is _ _ _ _ _ _ _ _ _ _ _ _ _ (omega (arith, c.args.self.part)) c.word_at-y.ensures c.untwisted-z.ensures c.low.ensures c.lowered.ensures c.placed-d.ensures c.placed-e.ensures c.placed.ensures)

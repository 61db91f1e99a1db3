-- `basis::reduced_rows` meets its contract.
use Rattle.std.proofs.Common.{arith}
use Rattle.filling.specs.Theorems.{ready-size}
use Rattle.basis.proofs.Laws.{based_by_size}
use Rattle.basis.proofs.reduced_rows.Goals as goal

pub reduce-rank-requires : goal.reduce-rank-requires
reduce-rank-requires c = (omega (arith, c.requires.0, c.requires.1, c.fill.ensures.long), omega (arith, c.size-k.ensures, ready-size c.args.bits.generator))

pub returns : goal.returns
returns c = based_by_size _ _ _ _ _ c.size-k.ensures (omega (arith, ready-size c.args.bits.generator)) c.requires.0 _ _ _ _ c.fill.ensures c.reduce-rank.ensures c.pack.ensures

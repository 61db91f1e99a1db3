-- `elimination::flip_bit` meets its contract.
use Prim.Native.Nat.{ℕ, ◌%◌}
use native.Mathlib.Omega.{arith}
use native.Mathlib.Nat.{one-mul}
use lib.Dec.{lit<}
use lib.Pow.{shl_exact}
use Rattle.elimination.specs.Words.{flipped}
use Rattle.elimination.proofs.flip_bit.Goals as goal

pub returns : goal.returns
unfolding flipped
returns c =
    let k : ℕ = c.args.i % 64 in
    rw (shl_exact {a = 1} 1 k 64 (lit< tt) (omega arith), one-mul)

use lib.Dec.{lit<}
use lib.Pow.{shl_exact}
use lib.Bits.{and_mask}
use native.Mathlib.Nat.{one-mul}
use Prim.Native.Nat.{ℕ, ◌%◌, ◌^◌, ◌<◌}
use mathlib.Core.Path.{◌≡◌, ◌∙◌}
use Prim.Native.Nat.{◌*◌}
use native.Mathlib.Omega.{arith}
use Rattle.states.proofs.words.low.Goals as goal

one_shl : (w : ℕ) → w < 64 → 1 * 2 ^ w % 2 ^ 64 ≡ 2 ^ w
one_shl w h = shl_exact {a = 1} 1 w 64 (lit< tt) (omega arith) ∙ one-mul (2 ^ w)

pub returns : goal.returns
returns c = rw (one_shl c.args.w (omega arith)) (and_mask c.args.x c.args.w)

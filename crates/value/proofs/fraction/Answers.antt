use mathlib.Core.Path.{subst}
use mathlib.Core.Bool.{false}
use Prim.Native.Nat.{◌^◌, ℕ, ◌≤◌}
use lib.Pow.{pow_mono, pow_pos}
use lib.IntN.{pos}
use lib.Ieee.{of_int, binary64}
use lib.Ieee.Exact.{HasValue}
use lib.Ieee.Fits.{div-fits}
use lib.Ieee.Bits.{of_bits-fits}
use Rattle.document.specs.Value.{value_bits}
use Rattle.value.specs.Exact.{div_exact, whole_value}
use Rattle.value.specs.Unique.{unique}
use Rattle.value.specs.Theorems.{value_exact}
use native.Mathlib.Omega.{arith}
use Rattle.value.proofs.fraction.Goals as goal

pub returns : goal.returns
returns c = let q : c.power-p.result ≤ 2 ^ 53 = omega (arith, c.power-p.ensures, pow_mono {i = c.args.l} {j = 53} (omega arith)) in
    let v = div_exact (of_int binary64 (pos c.args.y)) (of_int binary64 (pos c.power-p.result)) c.args.y c.args.l (omega arith) (omega arith) (whole_value c.args.y (omega arith))
    (subst (λ (x : ℕ). HasValue (of_int binary64 (pos c.power-p.result)) false x 1) c.power-p.ensures (whole_value c.power-p.result q)) in
    unique binary64 _ _ false c.args.y (2 ^ c.args.l) (pow_pos c.args.l) (div-fits binary64 _ _) (of_bits-fits binary64 (value_bits c.args.y c.args.l)) v (value_exact c.args.y c.args.l c.requires.0 c.requires.1)

-- "Value: from Y and L, the f64 Y / 2^L exactly": its 64 bits as a number.
use Rattle.std.specs.Prelude.{cond, ℕ, ◌+◌, ◌-◌, ◌*◌, ◌^◌, eqb, leb}
use Rattle.document.specs.Limits.{most_output}
use Rattle.document.specs.Report.{largest}

-- h, where 2^h is the highest power in y: y is below 2 ^ 32
unfoldable pub highest : ℕ → ℕ
highest y = largest (λ h. leb (2 ^ h) y) (most_output - 1)

-- "exponent field 1023 + h − L and fraction (Y − 2^h)·2^(52−h)"
unfoldable pub fields64 : ℕ → ℕ → ℕ → ℕ
fields64 h y L = (1023 + h - L) * 2 ^ 52 + (y - 2 ^ h) * 2 ^ (52 - h)

-- "zero bits for Y = 0"
unfoldable pub value_bits : ℕ → ℕ → ℕ
value_bits y L = cond (eqb y 0) 0 (fields64 (highest y) y L)

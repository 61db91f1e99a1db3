-- What is prepared keeps its ranges.
use mathlib.Core.Path.{◌≡◌, ap₂, ◌∙◌}
use mathlib.Core.List.{List}
use Prim.Native.Nat.{ℕ, ◌*◌, ◌≤◌}
use native.Mathlib.Omega.{arith}
use Rattle.digits.specs.Def.{Word, bits_of}
use Rattle.kinds.specs.Transpose.{taps}
use Rattle.kinds.specs.Adjoint.{taps_at, taps_past}
use Rattle.document.specs.Limits.{most_bits}
use Rattle.document.specs.declared.Fields.{Fields}
use Rattle.document.specs.declared.kind.Kind.{Kind}
use Rattle.document.specs.Answer.{kind_number, column}
use Rattle.document.specs.Ranges.{WordRanges, Accepted}
use Rattle.document.proofs.Columns.{of_kind}
use Rattle.running.specs.Ranges.{Mask, Words}

pub mask_is : (k : ℕ) (mask : List ℕ) (a : Word) → 1 ≤ k → k ≤ most_bits → ((i : ℕ) → bits_of mask i ≡ taps k a i) → Mask k mask
mask_is k mask a l m f = record { least = l; most = m; at = f k ∙ taps_at k a; past = λ i h. f i ∙ taps_past k a i h }

pub words_are : (g : Fields) (r w L : ℕ) → WordRanges g → r ≡ g.r → w ≡ g.w → L ≡ g.bits → Words r w L
words_are g r w L x e f h = record {
  wide = omega (arith, x.w_least, f);
  narrow = omega (arith, x.w_most, f);
  some = omega (arith, x.r_least, e);
  fit = omega (arith, x.product, ap₂ (λ a b. a * b) e f);
  least = omega (arith, x.bits_least, h);
  bits = omega (arith, x.bits_most, f, h);
}

-- the kind of accepted fields is the one that their byte goes by
pub kind_is : (g : Fields) (kind : Kind) → Accepted g → kind ≡ column g.kind → g.kind ≡ kind_number kind
kind_is g kind x e = of_kind g.kind kind e x.kind_least x.kind_most

-- The ranges that a prepared generator's numbers keep: facts of its type.
use Rattle.std.specs.Prelude.{◌≡◌, true, List, ℕ, suc, ◌*◌, ◌≤◌}
use Rattle.digits.specs.Def.{Clear, bits_of}
use Rattle.document.specs.Limits.{most_bits, most_output}

-- a mask of taps: the bit k is set, and none past it
pub record Mask (k : ℕ) (mask : List ℕ) : Type 0 where
  pub least : 1 ≤ k
  pub most : k ≤ most_bits
  pub at : bits_of mask k ≡ true
  pub past : Clear (suc k) (bits_of mask)

-- the words of kinds 2 to 4: r words of w bits, and L bits of an output
pub record Words (r w L : ℕ) : Type 0 where
  pub wide : 1 ≤ w
  pub narrow : w ≤ most_output
  pub some : 1 ≤ r
  pub fit : r * w ≤ most_bits
  pub least : 1 ≤ L
  pub bits : L ≤ w

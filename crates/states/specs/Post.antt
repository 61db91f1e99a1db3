-- What the leaves give. A word of w bits is held mirrored in a number: its bit j, the first being bit 0, is worth 2 ^ j.
use Rattle.std.specs.Prelude.{◌≡◌, Bool, true, not, ◌&&◌, ◌||◌, cond, List, ℕ, zero, suc, ◌+◌, ◌-◌, ◌*◌, ◌/◌, ◌%◌, ◌<◌, ◌^◌, eqb, ltb}
use Rattle.digits.specs.Def.{Word, Same, digit, bits_of}
use Rattle.document.specs.Limits.{row_words}

-- r is the word x of w bits
pub record Holds (w : ℕ) (x : Word) (r : ℕ) : Type 0 where
  pub small : r < 2 ^ w
  pub bits : Same w (digit r) x

-- the bits of a state's words
abbrev pub state_bits : ℕ
state_bits = 64 * row_words

-- r is s with bit i flipped
pub record Flipped (s : List ℕ) (i : ℕ) (r : List ℕ) : Type 0 where
  pub here : bits_of r i ≡ not (bits_of s i)
  pub other : (j : ℕ) → (j ≡ i → ⊥) → bits_of r j ≡ bits_of s j

-- ---- 32 bits the other way round, by five exchanges

-- where the bit i comes from when fields of d bits change places in pairs
abbrev pub across : ℕ → ℕ → ℕ
across d i = cond (eqb (i / d % 2) 0) (i + d) (i - d)

-- do the n first bits come from each other, and does the mask m choose the lower field of each pair?
abbrev pub exchanges : ℕ → ℕ → ℕ → Bool
exchanges m d zero = true
exchanges m d (suc i) =
    exchanges m d i && ltb (across d i) 32
    && cond (eqb (i / d % 2) 0) (digit m i && (ltb i d || not (digit m (i - d)))) (not (digit m i) && not (ltb i d) && digit m (i - d))

-- r is x with the fields of d bits exchanged
pub record Exchanged (d x r : ℕ) : Type 0 where
  pub small : r < 2 ^ 32
  pub inside : (i : ℕ) → i < 32 → across d i < 32
  pub bits : (i : ℕ) → i < 32 → digit r i ≡ digit x (across d i)

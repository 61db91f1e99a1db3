-- "Question", and demand 3: over all 2^k start states, each of the 2^(t·l) patterns comes from equally many.
use Rattle.std.specs.Prelude.{◌≡◌, Bool, true, false, ℕ, ◌*◌, ◌/◌, ◌%◌, ◌<◌}
use Rattle.theory.specs.Def.{Bits, bit, evenly, Dependent, Independent}
use Rattle.digits.specs.Def.{Word}
use Rattle.kinds.specs.Generator.{Machine, output_bit}

-- "The bits are numbered n·l + j for bit j of output n"; `place` says which outputs form the cells.
unfoldable pub bit_of : Machine → (ℕ → ℕ) → ℕ → ℕ → Word → Bool
bit_of M place l i s = output_bit M (place (i / l)) (i % l) s

-- successive outputs
abbrev pub successive : ℕ → ℕ
successive n = n

-- output bit i of a start state of k bits, for the resolution l
unfoldable pub cell_bit : (M : Machine) → ℕ → ℕ → Bits M.size → Bool
cell_bit M l i s = bit_of M successive l i (bit s)

-- yes or no for (t, l)
unfoldable pub is_yes : Machine → ℕ → ℕ → Bool
is_yes M t l = evenly (cell_bit M l) (t * l)

-- d is the first bit that is a sum of earlier ones (of none, if it is always zero), and S is the set, d included:
-- non-empty, summing to zero from every start state, and ending earliest
pub record FirstSet (M : Machine) (t l d : ℕ) (S : ℕ → Bool) : Type 0 where
  pub place : d < t * l
  pub set : Dependent (cell_bit M l) d S
  pub past : (i : ℕ) → d < i → S i ≡ false
  pub earliest : Independent (cell_bit M l) d

-- "A yes has d = 0 and the empty set."
pub record Answer (M : Machine) (t l : ℕ) (says : Bool) (d : ℕ) (S : ℕ → Bool) : Type 0 where
  pub verdict : says ≡ is_yes M t l
  pub even : says ≡ true → (d ≡ 0) × ((i : ℕ) → S i ≡ false)
  pub uneven : says ≡ false → FirstSet M t l d S

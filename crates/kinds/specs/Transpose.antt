-- Moves and outputs transposed. Definitions only; what is proved of them stands in Rows.antt and `proofs/KindFour.antt`.
-- A row ρ stands for the sum of the bits of a state that it names; `back ρ` stands for that sum after a move, and `first j` for bit j of the output.
use Rattle.std.specs.Prelude.{◌≡◌, false, ◌&&◌, cond, ℕ, suc, ◌+◌, ◌-◌, ◌*◌, ◌<◌, ltb, eqb}
use Rattle.theory.specs.Def.{xorsum, unit, pair}
use Rattle.digits.specs.Def.{Word, Clear}
use Rattle.kinds.specs.Generator.{Machine, times, ◌⊻◌, masked, right, left}

-- the first n bits of y at pos, and zeros elsewhere
unfoldable pub place : ℕ → ℕ → Word → Word
place pos n y i = cond (ltb i pos) false (cond (ltb (i - pos) n) (y (i - pos)) false)

-- moved down by w
unfoldable pub down : ℕ → Word → Word
down w ρ i = ρ (i + w)

-- kind 1: the bits of the state that x_(n+k) sums, and the bit k besides, which takes up what a step moves past k - 1
unfoldable pub taps : ℕ → Word → Word
taps k a i = cond (ltb i k) (a (k - suc i)) (eqb i k)

-- a step of kind 1: the row moved up by one, and the taps if its bit k - 1 is set
unfoldable pub back1 : ℕ → Word → Word → Word
back1 k a ρ = right 1 ρ ⊻ (λ i. ρ (k - 1) && taps k a i)

-- the row of bit j of kind 1's output: the first bit of the state, j steps before
unfoldable pub first1 : ℕ → Word → ℕ → Word
first1 k a j = times j (back1 k a) (unit 0)

-- a move of kind 2: moved down by a word, and the first word added at each word that has its coefficient
unfoldable pub back2 : ℕ → ℕ → Word → Word → Word
back2 r w a ρ = down w ρ ⊻ (λ b. xorsum r (λ i. a i && place (i * w) w ρ b))

-- the twist
unfoldable pub untwist : ℕ → Word → Word → Word
untwist w a y j = cond (ltb (suc j) w) (y (suc j)) (xorsum w (λ i. a i && y i))

-- a move of kind 4
unfoldable pub back4 : ℕ → ℕ → ℕ → ℕ → Word → Word → Word
back4 r m w p a ρ =
    down w ρ ⊻ place ((r - m - 1) * w) w ρ ⊻ place ((r - 1) * w) (w - p) (untwist w a ρ)
    ⊻ place ((r - 2) * w + (w - p)) p (λ j. untwist w a ρ (w - p + j))

-- tempering: y + (y left u), and y + ((b and y) right u)
unfoldable pub un_right : ℕ → ℕ → Word → Word
un_right w u y = y ⊻ left w u y

unfoldable pub un_left : ℕ → Word → Word → Word
un_left u b y = y ⊻ right u (masked b y)

-- the row of bit j of kind 4's output, within its first word
unfoldable pub first4 : ℕ → ℕ → ℕ → Word → ℕ → Word → ℕ → ℕ → Word
first4 w U S b T c Z j = un_right w U (un_left S b (un_left T c (un_right w Z (unit j))))

-- what makes them the transposes of a machine's move and output
pub record Transposed (M : Machine) (back : Word → Word) (first : ℕ → Word) : Type 0 where
  pub back_clear : (ρ : Word) → Clear M.size ρ → Clear M.size (back ρ)
  pub back_sum : (ρ s : Word) → Clear M.size ρ → pair M.size (back ρ) s ≡ pair M.size ρ (M.move s)
  pub first_clear : (j : ℕ) → j < M.width → Clear M.size (first j)
  pub first_sum : (j : ℕ) (s : Word) → j < M.width → pair M.size (first j) s ≡ M.out s j

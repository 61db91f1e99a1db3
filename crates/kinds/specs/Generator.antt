-- Document 01, "The generator". Definitions only.
-- A state of k bits and a word of w bits are functions ℕ → Bool, first bit first. Only the first k, or w, of them are read: `Theorems.antt`.
use Rattle.std.specs.Prelude.{Bool, false, ◌&&◌, cond, ℕ, zero, suc, ◌+◌, ◌-◌, ◌*◌, ltb}
use Rattle.theory.specs.Def.{◌⊕◌, xorsum}
use Rattle.digits.specs.Def.{Word}

infixl 45 ◌⊻◌
-- A generator: its k state bits, the L bits of an output, the move between two outputs, and the output of a state (000, equations 1 to 3).
pub record Machine : Type 0 where
  pub size : ℕ
  pub width : ℕ
  pub move : Word → Word
  pub out : Word → Word

-- f applied n times
unfoldable pub times : ℕ → (Word → Word) → Word → Word
times zero f s = s
times (suc n) f s = f (times n f s)

-- "Output y_0 is made from the start state itself; then the state moves once between outputs": bit j of output n from the start state s
unfoldable pub output_bit : Machine → ℕ → ℕ → Word → Bool
output_bit M n j s = M.out (times n M.move s) j

-- ---- words

-- the sum of two words
unfoldable pub ◌⊻◌ : Word → Word → Word
(x ⊻ y) j = x j ⊕ y j

-- x and b
unfoldable pub masked : Word → Word → Word
masked b x j = b j && x j

-- x shifted right by u, away from the most significant end
unfoldable pub right : ℕ → Word → Word
right u x j = cond (ltb j u) false (x (j - u))

-- x, of w bits, shifted left by u: what leaves the w bits is dropped
unfoldable pub left : ℕ → ℕ → Word → Word
left w u x j = cond (ltb (j + u) w) (x (j + u)) false

-- the first n bits of x, then those of y
unfoldable pub join : ℕ → Word → Word → Word
join n x y j = cond (ltb j n) (x j) (y j)

-- A·x: x shifted right by one, plus the word a if the last bit of x is 1
unfoldable pub twist : ℕ → Word → Word → Word
twist w a x = right 1 x ⊻ (λ j. a j && x (w - 1))

-- ---- tempering

-- x + ((x left u) and b)
unfoldable pub add_left : ℕ → ℕ → Word → Word → Word
add_left w u b x = x ⊻ masked b (left w u x)

-- x + (x right u)
unfoldable pub add_right : ℕ → Word → Word
add_right u x = x ⊻ right u x

-- kind 3: y = x + ((x left S) and b); then y + ((y left T) and c)
unfoldable pub temper3 : ℕ → ℕ → Word → ℕ → Word → Word → Word
temper3 w S b T c x = add_left w T c (add_left w S b x)

-- kind 4: y = x + (x right U), then the two steps of kind 3, then y + (y right V)
unfoldable pub temper4 : ℕ → ℕ → ℕ → Word → ℕ → Word → ℕ → Word → Word
temper4 w U S b T c Z x = add_right Z (temper3 w S b T c (add_right U x))

-- ---- kind 1, Tausworthe: state x_n, .., x_(n+k-1); `a i` is a_(i+1)

-- x_(n+k) = a_1·x_(n+k-1) + .. + a_k·x_n
unfoldable pub next_bit : ℕ → Word → Word → Bool
next_bit k a s = xorsum k (λ i. a i && s (k - suc i))

-- from x_n, .. to x_(n+1), ..
unfoldable pub stepped : ℕ → Word → Word → Word
stepped k a s i = cond (ltb (suc i) k) (s (suc i)) (next_bit k a s)

-- Bit j of output n is x_(nν+j): a move is ν steps, and bit j of an output is the first bit after j steps, also where j is k or more.
unfoldable pub tausworthe : ℕ → ℕ → ℕ → Word → Machine
tausworthe k L ν a = record {
  size = k;
  width = L;
  move = times ν (stepped k a);
  out = λ s j. times j (stepped k a) s 0;
}

-- ---- kinds 2 to 4: state v_n, v_(n-1), .., v_(n+1-r), words of w bits

-- the word q of a state, v_(n-q)
unfoldable pub word : ℕ → ℕ → Word → Word
word w q s j = s (q * w + j)

-- a new word enters in front, and the others move along by one place
unfoldable pub enter : ℕ → Word → Word → Word
enter w new s i = cond (ltb i w) (new i) (s (i - w))

-- kind 2: v_(n+1) = a_1·v_n + .. + a_r·v_(n+1-r); `a i` is a_(i+1)
unfoldable pub next2 : ℕ → ℕ → Word → Word → Word
next2 r w a s j = xorsum r (λ i. a i && word w i s j)

-- kind 3: v_(n+1) = v_(n+1+m-r) + A·v_(n+1-r)
unfoldable pub next3 : ℕ → ℕ → ℕ → Word → Word → Word
next3 r m w a s = word w (r - m - 1) s ⊻ twist w a (word w (r - 1) s)

-- kind 4: v_(n+1) = v_(n+1+m-r) + A·(first w - p bits of v_(n+1-r), then last p bits of v_(n+2-r))
unfoldable pub next4 : ℕ → ℕ → ℕ → ℕ → Word → Word → Word
next4 r m w p a s = word w (r - m - 1) s ⊻ twist w a (join (w - p) (word w (r - 1) s) (word w (r - 2) s))

-- kind 2, GFSR: leading L bits of v_n
unfoldable pub gfsr : ℕ → ℕ → ℕ → Word → Machine
gfsr r w L a = record {
  size = r * w;
  width = L;
  move = λ s. enter w (next2 r w a s) s;
  out = word w 0;
}

-- kind 3, twisted GFSR: v_n tempered, leading L bits
unfoldable pub twisted : ℕ → ℕ → ℕ → ℕ → Word → ℕ → Word → ℕ → Word → Machine
twisted r m w L a S b T c = record {
  size = r * w;
  width = L;
  move = λ s. enter w (next3 r m w a s) s;
  out = λ s. temper3 w S b T c (word w 0 s);
}

-- kind 4, Mersenne Twister: the state is without the last p bits of its last word
unfoldable pub mersenne : ℕ → ℕ → ℕ → ℕ → ℕ → Word → ℕ → ℕ → Word → ℕ → Word → ℕ → Machine
mersenne r m w p L a U S b T c Z = record {
  size = r * w - p;
  width = L;
  move = λ s. enter w (next4 r m w p a s) s;
  out = λ s. temper4 w U S b T c Z (word w 0 s);
}

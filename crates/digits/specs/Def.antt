-- Numbers, and words of 64 bits, as rows of bits. A row is a function ℕ → Bool, bit 0 first.
use Rattle.std.specs.Prelude.{◌≡◌, Bool, true, false, cond, List, ℕ, zero, suc, ◌+◌, ◌-◌, ◌*◌, ◌/◌, ◌%◌, ◌^◌, ◌<◌, ◌≤◌, get_or}

-- a word, a state, a row, a set of output bits
abbrev pub Word : Type 0
Word = ℕ → Bool

-- two of them have the same first n bits
abbrev pub Same : ℕ → Word → Word → Type 0
Same n x y = (j : ℕ) → j < n → x j ≡ y j

-- no bit is set from k on
abbrev pub Clear : ℕ → Word → Type 0
Clear k s = (i : ℕ) → k ≤ i → s i ≡ false

abbrev pub nonzero : ℕ → Bool
nonzero zero = false
nonzero (suc n) = true

-- the digit of n that is worth 2 ^ i
unfoldable pub digit : ℕ → ℕ → Bool
digit n i = nonzero (n / 2 ^ i % 2)

-- a row in words of 64 bits: bit i is worth 2 ^ (i mod 64) in word i div 64
unfoldable pub bits_of : List ℕ → Word
bits_of ws i = digit (get_or ws (i / 64) 0) (i % 64)

-- the row that begins at the word `at` of a longer list
unfoldable pub bits_from : List ℕ → ℕ → Word
bits_from ws at i = digit (get_or ws (at + i / 64) 0) (i % 64)

-- the first w digits of the number n, the most significant first
unfoldable pub word_of : ℕ → ℕ → Word
word_of w n j = digit n (w - suc j)

-- the number whose first w digits are x 0, .., x (w - 1), the most significant first
unfoldable pub number_of : ℕ → Word → ℕ
number_of zero x = 0
number_of (suc w) x = 2 * number_of w x + cond (x w) 1 0

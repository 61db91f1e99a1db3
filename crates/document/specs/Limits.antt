-- The limits of document 01, each named once.
use Rattle.std.specs.Prelude.{ℕ, ◌+◌, ◌*◌}

-- the most state bits, and the words of 64 bits that hold them
abbrev pub most_bits : ℕ
most_bits = 480

abbrev pub row_words : ℕ
row_words = 8

-- the work buffer: 481 rows of 16 words
abbrev pub work_words : ℕ
work_words = (most_bits + 1) * (2 * row_words)

-- the most bits of an output
abbrev pub most_output : ℕ
most_output = 32

-- the bytes of the coefficients
abbrev pub coefficient_bytes : ℕ
coefficient_bytes = 60

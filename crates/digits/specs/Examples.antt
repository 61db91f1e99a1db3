-- The definitions computed on small numbers by hand: where a digit stands, and what it is worth.
use Rattle.std.specs.Prelude.{◌≡◌, refl, Bool, true, false, List, [], ◌∷◌, ℕ, zero, suc}
use Rattle.digits.specs.Def.{Word, digit, bits_of, bits_from, word_of, number_of}

-- the bits x i, x (i + 1), .., n of them
bits : Word → ℕ → ℕ → List Bool
bits x i zero = []
bits x i (suc n) = x i ∷ bits x (suc i) n

-- 6 is 4 + 2: its digits from the one worth 1 on, and as a word of five bits, the most significant first
digits_of_six : bits (digit 6) 0 4 ≡ false ∷ true ∷ true ∷ false ∷ []
unfolding bits digit
digits_of_six = refl

word_of_six : bits (word_of 5 6) 0 5 ≡ false ∷ false ∷ true ∷ true ∷ false ∷ []
unfolding bits word_of digit
word_of_six = refl

-- 10011 is 16 + 2 + 1
number_of_bits : number_of 5 (digit 0b11001) ≡ 19
unfolding number_of digit
number_of_bits = refl

-- bit 64 is the lowest of the second word: 2 ^ 63 sets bit 63, and 5 sets the bits 64 and 66
bits_of_words : bits (bits_of (0x8000000000000000 ∷ 5 ∷ [])) 62 6 ≡ false ∷ true ∷ true ∷ false ∷ true ∷ false ∷ []
unfolding bits bits_of digit
bits_of_words = refl

-- the same row, behind another word
bits_from_one : bits (bits_from (7 ∷ 0x8000000000000000 ∷ 5 ∷ []) 1) 62 6 ≡ false ∷ true ∷ true ∷ false ∷ true ∷ false ∷ []
unfolding bits bits_from digit
bits_from_one = refl

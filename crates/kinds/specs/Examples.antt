-- The operations on words and the first output, computed at small sizes by hand.
use Rattle.std.specs.Prelude.{◌≡◌, refl, true, [], ◌∷◌}
use Rattle.theory.specs.Def.{unit}
use Rattle.digits.specs.Def.{digit, word_of, number_of}
use Rattle.kinds.specs.Generator.{times, output_bit, ◌⊻◌, masked, right, left, join, twist, add_left, add_right, temper3, temper4, tausworthe, mersenne}

-- 0x35 right by one is 0x1a, and its last bit adds 0xa3; 0x34 has none
twists : number_of 8 (twist 8 (word_of 8 0xa3) (word_of 8 0x35)) ∷ number_of 8 (twist 8 (word_of 8 0xa3) (word_of 8 0x34)) ∷ [] ≡ 0xb9 ∷ 0x1a ∷ []
unfolding number_of twist word_of digit ◌⊻◌ right
twists = refl

-- 0x35 + (0xd4 and 0xb4) = 0xa1, and 0xa1 + (0x08 and 0x6c) = 0xa9
tempers3 : number_of 8 (temper3 8 2 (word_of 8 0xb4) 3 (word_of 8 0x6c) (word_of 8 0x35)) ≡ 0xa9
unfolding number_of temper3 add_left masked left word_of digit ◌⊻◌
tempers3 = refl

-- 0x35 + 0x1a = 0x2f, + 0xb4 = 0x9b, + 0x48 = 0xd3, + 0x0d = 0xde
tempers4 : number_of 8 (temper4 8 1 2 (word_of 8 0xb4) 3 (word_of 8 0x6c) 4 (word_of 8 0x35)) ≡ 0xde
unfolding number_of temper4 temper3 add_left add_right masked left right word_of digit ◌⊻◌
tempers4 = refl

-- the first 3 bits of 0xf0, then the last 5 of 0x0f
joins : number_of 8 (join 3 (word_of 8 0xf0) (word_of 8 0x0f)) ≡ 0xef
unfolding number_of join word_of digit
joins = refl

-- output 0 is made from the start state itself: x_0 alone set
first-output : output_bit (tausworthe 4 4 1 (unit 3)) 0 0 (unit 0) ≡ true
unfolding output_bit tausworthe times unit
first-output = refl

-- kind 4 with r = 2, w = 2, p = 1 has three state bits
three_bits : (mersenne 2 1 2 1 2 (unit 0) 2 2 (unit 0) 2 (unit 0) 2).size ≡ 3
unfolding mersenne
three_bits = refl

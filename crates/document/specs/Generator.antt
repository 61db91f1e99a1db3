-- "The generator": the machine that a kind and its fields stand for. The kinds themselves are defined in the crate kinds, file Generator.
use Rattle.std.specs.Prelude.{cond, ℕ, ◌-◌, ◌/◌, ◌%◌, eqb, get_or}
use Rattle.digits.specs.Def.{Word, digit, word_of}
use Rattle.kinds.specs.Generator.{Machine, tausworthe, gfsr, twisted, mersenne}
use Rattle.document.specs.declared.Fields.{Fields}

-- one of four, by the kind
unfoldable pub by_kind : {A : Type 0} → ℕ → A → A → A → A → A
by_kind kind one two three four = cond (eqb kind 1) one (cond (eqb kind 2) two (cond (eqb kind 3) three four))

-- a_(i+1). "a_1 is the bit of value 128 in the first coefficient byte, a_8 its bit of value 1, a_9 the 128 of the next"
unfoldable pub coefficient : Fields → Word
coefficient g i = digit (get_or g.coefficients (i / 8) 0) (7 - i % 8)

-- the words a, b and c: "Words have w bits, and their first bit is the most significant"
abbrev pub word_in : Fields → ℕ → Word
word_in g n = word_of g.w n

unfoldable pub machine : Fields → Machine
machine g =
    by_kind g.kind
    (tausworthe g.k g.bits g.nu (coefficient g))
    (gfsr g.r g.w g.bits (coefficient g))
    (twisted g.r g.m g.w g.bits (word_in g g.a) g.s (word_in g g.b) g.t (word_in g g.c))
    (mersenne g.r g.m g.w g.p g.bits (word_in g g.a) g.u g.s (word_in g g.b) g.t (word_in g g.c) g.v)

-- k, the state bits
abbrev pub size : Fields → ℕ
size g = (machine g).size

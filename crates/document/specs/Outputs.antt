-- "Outputs: t numbers of 32 bits, each the L bits as a number below 2^L".
use Rattle.std.specs.Prelude.{ℕ, List}
use Rattle.digits.specs.Def.{Word, bits_of, number_of}
use Rattle.kinds.specs.Generator.{Machine, output_bit}
use Rattle.document.specs.declared.Fields.{Fields}
use Rattle.document.specs.Generator.{machine}
use Rattle.document.specs.Memory.{Front}

-- output n from the start state s: "An output is L bits, the first the most significant"
unfoldable pub output : Machine → ℕ → Word → ℕ
output M n s = number_of M.width (λ j. output_bit M n j s)

-- the buffer after t outputs from a start state of 8 words
abbrev pub OutputsOf : Fields → ℕ → List ℕ → List ℕ → List ℕ → Type 0
OutputsOf g t state = Front t (λ n. output (machine g) n (bits_of state))

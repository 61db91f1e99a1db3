-- "The bits are numbered n·l + j for bit j of output n": that they are; and what the other numbering, resolution first, would find.
use Rattle.std.specs.Prelude.{◌≡◌, refl, Bool, true, not, ◌&&◌, [], ◌∷◌, ℕ, ◌+◌, ◌*◌, ◌/◌, ◌%◌, ◌<◌}
use Rattle.std.proofs.Common.{ap, ◌∙◌, add-zero, mod-eq_of_lt, arith}
use Rattle.std.proofs.Math.Nat.{div-eq_of_lt, mul-add-div_right, mul-add-mod_self_right}
use Rattle.std.proofs.lemmas.Bool.{not-true}
use Rattle.theory.specs.Def.{xorsum, Bits, bit, every, agree, hits, evenly, count, Linear, Dependent, Independent}
use Rattle.theory.specs.Laws.{every_elim}
use Rattle.theory.proofs.Theorems as T
use Rattle.digits.specs.Def.{Word, digit}
use Rattle.kinds.specs.Generator.{Machine, times, output_bit, next_bit, stepped, tausworthe}
use Rattle.kinds.proofs.Outputs.{output_linear}
use Rattle.document.specs.Generator.{by_kind, coefficient, machine}
use Rattle.document.specs.Description.{number, fields_of}
use Rattle.document.specs.Cells.{bit_of}
use Rattle.document.specs.Agreement.{machine_linear}
use Rattle.document.specs.Cases.{G, set_of}

pub bit_numbering : (M : Machine) (place : ℕ → ℕ) (l n j : ℕ) (s : Word) → j < l → bit_of M place l (n * l + j) s ≡ output_bit M (place n) j s
unfolding bit_of
bit_numbering M place l n j s h =
    let some : 0 < l = omega arith in
    let q : (n * l + j) / l ≡ n = mul-add-div_right some n j ∙ ap (λ x. n + x) (div-eq_of_lt h) ∙ add-zero n in
    let m : (n * l + j) % l ≡ j = mul-add-mod_self_right n l j ∙ mod-eq_of_lt h in
    rw (q, m)

-- ---- "Numbering bits resolution first: verdicts agree, d and the set do not."

-- of t outputs: bit j·t + n is bit j of output n
unfoldable pub resolution_first : (M : Machine) → ℕ → ℕ → Bits M.size → Bool
resolution_first M t i s = output_bit M (i % t) (i / t) (bit s)

-- G1 (3, 2) is x_0 x_1, x_1 x_2, x_2 x_3: bit 2 is bit 1 again (`further` in `Cases.antt`). Resolution first it is x_0 x_1 x_2, x_1 x_2 x_3.
abbrev pub G1 : Machine
G1 = machine (fields_of (G 1))

cancels : every (λ s. not (xorsum 4 (λ i. digit (set_of (1 ∷ 3 ∷ [])) i && resolution_first G1 3 i s))) ≡ true
unfolding resolution_first G set_of xorsum bit every digit times output_bit next_bit stepped tausworthe by_kind coefficient machine number fields_of
cancels = refl

even : evenly (resolution_first G1 3) 3 ≡ true
unfolding resolution_first G xorsum bit every agree hits evenly count digit times output_bit next_bit stepped tausworthe by_kind coefficient machine number fields_of
even = refl

linear : (i : ℕ) → Linear (resolution_first G1 3 i)
unfolding resolution_first
linear i = output_linear G1 (machine_linear (fields_of (G 1))) (i % 3) (i / 3)

-- There the first bit that is a sum of earlier ones is 3, with the set {1, 3}.
pub resolution_first_apart : Dependent (resolution_first G1 3) 3 (digit (set_of (1 ∷ 3 ∷ []))) × Independent (resolution_first G1 3) 3
unfolding digit set_of
resolution_first_apart = (
  record { last = refl; cancels = λ s. not-true _ (every_elim (λ s. not (xorsum 4 (λ i. digit 10 i && resolution_first G1 3 i s))) cancels s) },
  (T.equidistribution (resolution_first G1 3) linear 3).0 ((T.counted (resolution_first G1 3) linear 3).0 even),
)

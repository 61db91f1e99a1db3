-- What is proved of the transposes: the rows of the outputs, one from another. (`proofs/KindFour.antt` has kinds 3 and 4.)
use Rattle.std.specs.Prelude.{◌≡◌, refl, ℕ, ◌+◌, ◌-◌, ◌/◌, ◌%◌, ◌≤◌, ◌<◌}
use Rattle.std.proofs.Common.{sym, ap, subst, ◌∙◌, mod-eq_of_lt, add-one, arith}
use Rattle.std.proofs.Math.Nat.{div-eq_of_lt, div-eq-sub-div, add-mod_right}
use Rattle.theory.specs.Def.{unit, pair}
use Rattle.theory.specs.Sums.{pair_same}
use Rattle.digits.specs.Def.{Word, Clear}
use Rattle.kinds.specs.Generator.{Machine, times, output_bit, tausworthe, gfsr}
use Rattle.kinds.specs.Recurrence.{times-first}
use Rattle.kinds.specs.Alike.{Alike}
use Rattle.kinds.specs.Transpose.{back1, first1, back2, Transposed}
use Rattle.kinds.specs.Adjoint as A

-- ---- each kind

pub tausworthe-rows : (k L ν : ℕ) (a : Word) → 1 ≤ k → Transposed (tausworthe k L ν a) (times ν (back1 k a)) (first1 k a)
tausworthe-rows = A.tausworthe-rows

pub gfsr-rows : (r w L : ℕ) (a : Word) → 1 ≤ r → L ≤ w → Transposed (gfsr r w L a) (back2 r w a) unit
gfsr-rows = A.gfsr-rows

-- machines that are alike have the same rows
pub alike_rows : (M N : Machine) (back : Word → Word) (first : ℕ → Word) → Alike M N → Transposed M back first → Transposed N back first
alike_rows M N back first a t =
    let up : (ρ : Word) → Clear N.size ρ → Clear M.size ρ = λ ρ. subst (λ n. Clear n ρ) (sym a.size) in
    let same : (s : Word) (j : ℕ) → j < N.size → M.move s j ≡ N.move s j = λ s. a.move s s (λ _ _. refl) in
    record {
      back_clear = λ ρ c. subst (λ n. Clear n (back ρ)) a.size (t.back_clear ρ (up ρ c));
      back_sum = λ ρ s c.
          ap (λ n. pair n (back ρ) s) (sym a.size) ∙ t.back_sum ρ s (up ρ c) ∙ ap (λ n. pair n ρ (M.move s)) a.size
          ∙ pair_same N.size ρ ρ _ _ (λ _ _. refl) (same s);
      first_clear = λ j h. subst (λ n. Clear n (first j)) a.size (t.first_clear j (subst (λ n. j < n) (sym a.width) h));
      first_sum = λ j s h.
          ap (λ n. pair n (first j) s) (sym a.size) ∙ t.first_sum j s (subst (λ n. j < n) (sym a.width) h) ∙ a.out s s (λ _ _. refl) j h;
    }

-- ---- rows of successive outputs: bit i of resolution l is bit i mod l of output i div l

pub bit-first : (M : Machine) (l i : ℕ) (s : Word) → i < l → output_bit M (i / l) (i % l) s ≡ M.out s i
unfolding output_bit times
bit-first M l i s h = rw (div-eq_of_lt h, mod-eq_of_lt h)

pub bit-next : (M : Machine) (l i : ℕ) (s : Word) → 0 < l → l ≤ i → output_bit M (i / l) (i % l) s ≡ output_bit M ((i - l) / l) ((i - l) % l) (M.move s)
unfolding output_bit
bit-next M l i s p h =
    let e : i - l + l ≡ i = omega arith in
    let m : i % l ≡ (i - l) % l = ap (λ x. x % l) (sym e) ∙ add-mod_right (i - l) l in
    rw (div-eq-sub-div p h, add-one, m) (ap (λ t. M.out t ((i - l) % l)) (times-first ((i - l) / l) M.move s))

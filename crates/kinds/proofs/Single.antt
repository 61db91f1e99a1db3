-- A bit of an output is the sum of those bits of the start state that alone set it: the state is a sum of single bits.
use Rattle.std.specs.Prelude.{◌≡◌, Bool, true, ◌&&◌}
use Rattle.std.proofs.Common.{sym, ◌∙◌, arith}
use Rattle.std.proofs.Math.Path.{ap, ap₂, fun_ext}
use Rattle.std.proofs.Math.Bool.{false, and-false, and-true}
use Rattle.std.proofs.Math.Logic.{by_cases}
use Rattle.std.proofs.Math.Decide.{dec_lt, ℕ_discrete}
use Prim.Native.Nat.{ℕ, zero, suc, ◌<◌}
use Rattle.theory.specs.Def.{◌⊕◌, xorsum, unit, pair}
use Rattle.theory.specs.Laws.{⊕_self, ⊕_false, put, put_below, put_from}
use Rattle.theory.specs.Sums.{unit_at, unit_other}
use Rattle.digits.specs.Def.{Word}
use Rattle.kinds.specs.Generator.{Machine, output_bit, ◌⊻◌}
use Rattle.kinds.specs.Linear.{LinearMachine}
use Rattle.kinds.proofs.Outputs.{output_sums}
use Rattle.kinds.specs.Reads.{LocalMachine, output_local}

-- the first n + 1 bits of s are its first n, and bit n if it is set
one_more : (n : ℕ) (s : Word) (i : ℕ) → put (suc n) s false i ≡ put n s false i ⊕ (s n && unit n i)
one_more n s i = by_cases (dec_lt i n)
    (λ h. let d : ¬ (i ≡ n) = λ e. omega arith in
    put_below (suc n) s false i (omega arith) ∙ sym (⊕_false (s i))
    ∙ sym (ap₂ ◌⊕◌ (put_below n s false i h) (ap (λ x. s n && x) (unit_other n i d) ∙ and-false (s n))))
    (λ h. by_cases (ℕ_discrete i n)
    (λ e. rw e (put_below (suc n) s false n (omega arith)
    ∙ sym (ap₂ ◌⊕◌ (put_from n s false n (omega arith)) (ap (λ x. s n && x) (unit_at n) ∙ and-true (s n)))))
    (λ d. put_from (suc n) s false i (omega arith)
    ∙ sym (ap₂ ◌⊕◌ (put_from n s false i (omega arith)) (ap (λ x. s n && x) (unit_other n i d) ∙ and-false (s n)))))

module _ (f : Word → Bool) (sums : (s t : Word) → f (s ⊻ t) ≡ f s ⊕ f t) where
  nothing : f (λ _. false) ≡ false
  unfolding ◌⊻◌
  nothing = sums (λ _. false) (λ _. false) ∙ ⊕_self (f (λ _. false))

  single : (n : ℕ) (b : Bool) → f (λ i. b && unit n i) ≡ (f (unit n) && b)
  single n true = sym (and-true (f (unit n)))
  single n false = nothing ∙ sym (and-false (f (unit n)))

  pub of_singles : (k : ℕ) (s : Word) → f (put k s false) ≡ pair k (λ b. f (unit b)) s
  unfolding pair xorsum ◌⊻◌
  of_singles zero s = ap f (fun_ext (λ i. put_from zero s false i (omega arith))) ∙ nothing
  of_singles (suc k) s =
      ap f (fun_ext (one_more k s)) ∙ sums (put k s false) (λ i. s k && unit k i) ∙ ap₂ ◌⊕◌ (of_singles k s) (single k (s k))

pub output_single : (M : Machine) → LinearMachine M → LocalMachine M → (n j : ℕ) → j < M.width → (s : Word)
    → output_bit M n j s ≡ pair M.size (λ b. output_bit M n j (unit b)) s
output_single M linear local n j h s =
    output_local M local n j h s (put M.size s false) (λ i l. sym (put_below M.size s false i l))
    ∙ of_singles (output_bit M n j) (output_sums M linear n j) M.size s

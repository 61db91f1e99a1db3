-- The parity of a number's digits.
use Rattle.std.specs.Prelude.{◌≡◌, refl, true, ℕ, zero, suc, ◌+◌, ◌/◌, ◌%◌, ◌^◌, ◌<◌, eqb}
use Rattle.std.proofs.Common.{sym, ap, ap₂, ◌∙◌, arith}
use Rattle.std.proofs.Math.Path.{fun_ext}
use Rattle.std.proofs.Math.Nat.{two-pow-succ}
use Rattle.std.specs.Int.Count.{ones, ones_step}
use Rattle.theory.specs.Def.{◌⊕◌, xorsum}
use Rattle.theory.specs.Sums.{xorsum_head}
use Rattle.digits.specs.Def.{nonzero, digit}
use Rattle.digits.specs.Laws.{digit_low, digit-suc}

sum_bits : (x n : ℕ) → x < 2 → nonzero ((x + n) % 2) ≡ nonzero x ⊕ nonzero (n % 2)
sum_bits zero n h = let e : 0 + n ≡ n = omega arith in rw e
sum_bits (suc zero) n h = other (n % 2) ((1 + n) % 2) (omega arith) (omega arith)
  where
    other : (x y : ℕ) → x < 2 → x + y ≡ 1 → nonzero y ≡ true ⊕ nonzero x
    other zero zero g e = absurd (omega arith)
    other zero (suc y) g e = refl
    other (suc x) zero g e = refl
    other (suc x) (suc y) g e = absurd (omega arith)
sum_bits (suc (suc x)) n h = absurd (omega arith)

ones_parity : (k n : ℕ) → n < 2 ^ k → nonzero (ones n % 2) ≡ xorsum k (digit n)
unfolding xorsum ones
ones_parity zero n h = let e : n ≡ 0 = omega arith in ap (λ x. nonzero (ones x % 2)) e
ones_parity (suc k) n h =
    rw (ones_step n)
    (sum_bits (n % 2) (ones (n / 2)) (omega arith)
    ∙ ap₂ ◌⊕◌ (sym (digit_low n)) (ones_parity k (n / 2) (omega (arith, two-pow-succ k)) ∙ ap (xorsum k) (fun_ext (λ i. sym (digit-suc n i))))
    ∙ sym (xorsum_head k (digit n)))

odd_test : (x : ℕ) → x < 2 → eqb x 1 ≡ nonzero x
odd_test zero h = refl
odd_test (suc zero) h = refl
odd_test (suc (suc x)) h = absurd (omega arith)

-- `count_ones(n) % 2 == 1` is the sum of the digits of n
pub parity_test : (k n : ℕ) → n < 2 ^ k → eqb (ones n % 2) 1 ≡ xorsum k (digit n)
parity_test k n h = odd_test (ones n % 2) (omega arith) ∙ ones_parity k n h

-- `(n >> i) % 2 == 1` is a digit of n
pub digit_test : (n i : ℕ) → eqb (n / 2 ^ i % 2) 1 ≡ digit n i
unfolding digit
digit_test n i = odd_test (n / 2 ^ i % 2) (omega arith)

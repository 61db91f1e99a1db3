-- A field tested against zero, one test written as the other's opposite, a search over a range of numbers, and a number below every power of two that is past its word.
use Rattle.std.specs.Prelude.{◌≡◌, Bool, true, false, not, ◌&&◌, ℕ, zero, suc, ◌+◌, ◌-◌, ◌^◌, ◌≤◌, ◌<◌, eqb, ltb, leb}
use Rattle.std.proofs.Common.{refl, sym, ap, ◌∙◌, true≢false, arith, ne_eqb, lt-ltb, le-ltb, pow_mono}
use Rattle.std.proofs.lemmas.Bool.{lt-leb, le-leb}
use Rattle.std.specs.List.{list_any, range_with_len}
use Rattle.std.proofs.Math.Logic.{by_cases}
use Rattle.std.proofs.Math.Decide.{dec_lt, ℕ_discrete}
use Rattle.digits.specs.Def.{nonzero}
use Rattle.document.specs.Refusals.{any}
use Rattle.document.specs.Ranges.{or-none, any_none, none_any}

pub nonzero_test : (n : ℕ) → not (eqb n 0) ≡ nonzero n
nonzero_test zero = refl
nonzero_test (suc n) = ap not (ne_eqb (suc n) 0 (λ e. omega arith))

-- `<=` is what `<` the other way round is not
pub le_not_lt : (m n : ℕ) → leb m n ≡ not (ltb n m)
le_not_lt m n = by_cases (dec_lt n m) (λ h. lt-leb m n h ∙ sym (ap not (lt-ltb n m h))) (λ h. let l : m ≤ n = omega arith in le-leb m n l ∙ sym (ap not (le-ltb n m l)))

-- a number of 32 bits is below every higher power
pub small_below : (x w : ℕ) → x < 2 ^ 32 → 32 ≤ w → ltb x (2 ^ w) ≡ true
small_below x w h l = lt-ltb x (2 ^ w) (omega (arith, pow_mono {i = 32} {j = w} l))

-- ---- f i for some i from a on

none : (f : ℕ → Bool) (a n : ℕ) → ((i : ℕ) → a ≤ i → i < a + n → f i ≡ false) → list_any f (range_with_len a n) ≡ false
none f a zero e = refl
none f a (suc n) e = rw (e a (omega arith) (omega arith), none f (a + 1) n (λ i l h. e i (omega arith) (omega arith)))

listed : (f : ℕ → Bool) (a n : ℕ) → list_any f (range_with_len a n) ≡ false → (i : ℕ) → a ≤ i → i < a + n → f i ≡ false
listed f a zero e i l h = absurd (omega arith)
listed f a (suc n) e i l h =
    let (x, y) = or-none (f a) (list_any f (range_with_len (a + 1) n)) e in
    by_cases (ℕ_discrete i a) (λ q. ap f q ∙ x) (λ q. listed f (a + 1) n y i (omega arith) (omega arith))

pub any_from : (f : ℕ → Bool) (a n : ℕ) → list_any f (range_with_len a (n - a)) ≡ any n (λ i. not (ltb i a) && f i)
any_from f a n = go (list_any f (range_with_len a (n - a))) (any n late) refl refl
  where
    late : ℕ → Bool
    late i = not (ltb i a) && f i

    past : (i : ℕ) → a ≤ i → late i ≡ f i
    past i l = ap (λ b. not b && f i) (le-ltb i a l)

    go : (x y : Bool) → list_any f (range_with_len a (n - a)) ≡ x → any n late ≡ y → list_any f (range_with_len a (n - a)) ≡ any n late
    go x false p q = none f a (n - a) (λ i l h. sym (past i l) ∙ any_none n late q i (omega arith)) ∙ sym q
    go true true p q = p ∙ sym q
    go false true p q = absurd (true≢false (sym q ∙ none_any n late (λ i h. by_cases (dec_lt i a)
        (λ l. ap (λ b. not b && f i) (lt-ltb i a l))
        (λ l. past i (omega arith) ∙ listed f a (n - a) p i (omega arith) (omega arith)))))

-- The digits of a number, read back, are the number; and none of them is a zero in front.
use Rattle.std.specs.Prelude.{◌≡◌, refl, List, [], ◌∷◌, ◌++◌, ℕ, zero, suc, ◌+◌, ◌-◌, ◌*◌, ◌/◌, ◌%◌, ◌^◌, ◌≤◌, ◌<◌, get_or, length}
use Rattle.std.proofs.Common.{ap, ◌∙◌, pow-suc, arith, length-append, lt-ltb, le-ltb}
use Rattle.std.proofs.Math.Logic.{by_cases}
use Rattle.std.proofs.Math.Decide.{dec_lt}
use Rattle.std.proofs.Math.ListN.{get_or-append}
use Rattle.listing_text.specs.Text.{decimal_in, decimal, most_number}

-- the number that digits stand for, behind the digits of a
unfoldable pub read_from : ℕ → List ℕ → ℕ
read_from a [] = a
read_from a (d ∷ ds) = read_from (10 * a + (d - 48)) ds

read_append : (a : ℕ) (ds : List ℕ) (d : ℕ) → read_from a (ds ++ (d ∷ [])) ≡ 10 * read_from a ds + (d - 48)
unfolding read_from
read_append a [] d = refl
read_append a (x ∷ ds) d = read_append (10 * a + (x - 48)) ds d

one_digit : (n : ℕ) → n < 10 → 10 * 0 + (48 + n - 48) ≡ n
one_digit n h = omega arith

digits_read : (p n : ℕ) → n < 10 ^ suc p → read_from 0 (decimal_in p n) ≡ n
unfolding decimal_in read_from
digits_read zero n h = one_digit n h
digits_read (suc p) n h = by_cases (dec_lt n 10)
    (λ l. rw (lt-ltb n 10 l) (one_digit n l))
    (λ l. let g : 10 ≤ n = omega arith in
    rw (le-ltb n 10 g) (read_append 0 (decimal_in p (n / 10)) (48 + n % 10)
    ∙ ap (λ x. 10 * x + (48 + n % 10 - 48)) (digits_read p (n / 10) (omega (arith, pow-suc 10 (suc p)))) ∙ omega arith))

pub decimal_read : (n : ℕ) → n < most_number → read_from 0 (decimal n) ≡ n
decimal_read n h = digits_read 4 n h

-- a number above 0 begins with another digit than 0
not_empty : (p n : ℕ) → 0 < length (decimal_in p n)
unfolding decimal_in
not_empty zero n = omega arith
not_empty (suc p) n = by_cases (dec_lt n 10)
    (λ l. rw (lt-ltb n 10 l) (omega arith))
    (λ l. let g : 10 ≤ n = omega arith in rw (le-ltb n 10 g) (simp length-append (omega arith)))

first-digit : (p n : ℕ) → 0 < n → 48 < get_or (decimal_in p n) 0 0
unfolding decimal_in
first-digit zero n h = omega arith
first-digit (suc p) n h = by_cases (dec_lt n 10)
    (λ l. rw (lt-ltb n 10 l) (omega arith))
    (λ l. let g : 10 ≤ n = omega arith in
    rw (le-ltb n 10 g) (rw (get_or-append (decimal_in p (n / 10)) ((48 + n % 10) ∷ []) 0 0 (not_empty p (n / 10))) (first-digit p (n / 10) (omega arith))))

pub no_zero_in_front : (n : ℕ) → 0 < n → 48 < get_or (decimal n) 0 0
no_zero_in_front n h = first-digit 4 n h

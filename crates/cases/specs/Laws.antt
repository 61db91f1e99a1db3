-- The first that is given, by its place; appended lists; rising numbers, where the first is the lowest. By induction on the list.
use Rattle.std.specs.Prelude.{◌≡◌, Bool, cond, ◌⊎◌, ◌↔◌, ℕ, zero, suc, ◌≤◌, ◌<◌, length, get_or}
use Rattle.std.proofs.Math.Path.{refl}
use Rattle.std.proofs.Common.{sym, ap, ◌∙◌, true≢false, ⊎_elim, arith}
use Rattle.std.proofs.Math.Bool.{true, false}
use mathlib.Core.List.{List, [], ◌∷◌, ◌++◌}
use Rattle.std.proofs.Math.Logic.{inl, inr, by_cases}
use Rattle.std.proofs.Math.Decide.{dec_lt}
use Rattle.cases.specs.Def.{first, FirstAt, None, Each, Case, ◌if◌, no_case, first_given, Positive, Rising, Applies, AppliesFirst, NoneGiven}

module _ {A : Type 0} (p : A → Bool) (z : A) where
  -- one more in front that has not p
  later : (x : A) (xs : List A) (i : ℕ) → p x ≡ false → FirstAt p z xs i → FirstAt p z (x ∷ xs) (suc i)
  later x xs i e f = record { within = omega (arith, f.within); holds = f.holds; earlier = go }
    where
      go : (j : ℕ) → j < suc i → p (get_or (x ∷ xs) j z) ≡ false
      go zero h = e
      go (suc j) h = f.earlier j (omega arith)

  none_more : (x : A) (xs : List A) → p x ≡ false → None p z xs → None p z (x ∷ xs)
  none_more x xs e f zero h = e
  none_more x xs e f (suc j) h = f j (omega arith)

  -- there is none, or a first
  abbrev Decided : List A → A → Type 0
  Decided xs x = (None p z xs × (x ≡ z)) ⊎ ((i : ℕ) × FirstAt p z xs i × (x ≡ get_or xs i z))

  pub decided : (xs : List A) → Decided xs (first p z xs)
  unfolding first
  decided [] = inl (λ j h. absurd (omega arith), refl)
  decided (x ∷ xs) = go (p x) refl (decided xs)
    where
      go : (b : Bool) → p x ≡ b → Decided xs (first p z xs) → Decided (x ∷ xs) (cond b x (first p z xs))
      go true e q = inr (0, record { within = omega arith; holds = e; earlier = λ j h. absurd (omega arith) }, refl)
      go false e (inl (f, g)) = inl (none_more x xs e f, g)
      go false e (inr (i, f, g)) = inr (suc i, later x xs i e f, g)

  -- only one place is the first
  pub one_first : (xs : List A) (i j : ℕ) → FirstAt p z xs i → FirstAt p z xs j → i ≡ j
  one_first xs i j f g =
      by_cases (dec_lt i j) (λ h. absurd (true≢false (sym f.holds ∙ g.earlier i h)))
      (λ h. by_cases (dec_lt j i) (λ k. absurd (true≢false (sym g.holds ∙ f.earlier j k))) (λ k. omega arith))

  pub first_is : (xs : List A) (i : ℕ) → FirstAt p z xs i → first p z xs ≡ get_or xs i z
  first_is xs i f = ⊎_elim
      (λ q. absurd (true≢false (sym f.holds ∙ q.0 i f.within)))
      (λ q. q.2 ∙ ap (λ k. get_or xs k z) (one_first xs q.0 i q.1 f))
      (decided xs)

  pub none_is : (xs : List A) → None p z xs → first p z xs ≡ z
  none_is xs f = ⊎_elim (λ q. q.1) (λ q. absurd (true≢false (sym q.1.holds ∙ f q.0 q.1.within))) (decided xs)

-- one list after another: the second's first stands for "none" in the first
pub first-append : {A : Type 0} (p : A → Bool) (z : A) (xs ys : List A) → first p z (xs ++ ys) ≡ first p (first p z ys) xs
unfolding first
first-append p z [] ys = refl
first-append p z (x ∷ xs) ys = ap (cond (p x) x) (first-append p z xs ys)

pub each_append : {A : Type 0} (P : A → Type 0) (xs ys : List A) → Each P xs → Each P ys → Each P (xs ++ ys)
each_append P [] ys a b = b
each_append P (x ∷ xs) ys (a, rest) b = (a, each_append P xs ys rest b)

pub each_at : {A : Type 0} (P : A → Type 0) (z : A) (xs : List A) → Each P xs → (i : ℕ) → i < length xs → P (get_or xs i z)
each_at P z [] a i h = absurd (omega arith)
each_at P z (x ∷ xs) (a, rest) zero h = a
each_at P z (x ∷ xs) (a, rest) (suc i) h = each_at P z xs rest i (omega arith)

-- ---- cases

abbrev given : Case → Bool
given c = c.given

pub answer_first : (cs : List Case) → first_given cs ≡ (first given no_case cs).number
unfolding first_given first
answer_first [] = refl
answer_first (c ∷ cs) = go c.given (answer_first cs)
  where
    go : (b : Bool) → first_given cs ≡ (first given no_case cs).number → cond b c.number (first_given cs) ≡ (cond b c (first given no_case cs)).number
    go true e = refl
    go false e = e

-- 0 exactly where no case is given
pub accepted : (cs : List Case) → Positive cs → (first_given cs ≡ 0) ↔ None given no_case cs
accepted cs s = (
  λ e. ⊎_elim (λ q. q.0)
      (λ q. absurd (omega (arith, each_at (λ c. 0 < c.number) no_case cs s q.0 q.1.within, sym (ap (λ c. c.number) q.2) ∙ sym (answer_first cs) ∙ e)))
      (decided given no_case cs),
  λ f. answer_first cs ∙ ap (λ c. c.number) (none_is given no_case cs f),
)

-- n exactly where a case of the number n is given, and none before it
pub refused : (cs : List Case) → Positive cs → (n : ℕ) → 0 < n → (first_given cs ≡ n) ↔ AppliesFirst n cs
refused cs s n h = (
  λ e. ⊎_elim (λ q. absurd (omega (arith, answer_first cs ∙ ap (λ c. c.number) q.1, e)))
      (λ q. (q.0, q.1, sym (ap (λ c. c.number) q.2) ∙ sym (answer_first cs) ∙ e))
      (decided given no_case cs),
  λ q. answer_first cs ∙ ap (λ c. c.number) (first_is given no_case cs q.0 q.1) ∙ q.2,
)

-- where the answer is 0, each case is false
pub none-given : (cs : List Case) → Positive cs → first_given cs ≡ 0 → NoneGiven cs
unfolding first_given
none-given [] s e = tt
none-given (c ∷ cs) (l, s) e = go c.given refl e (none-given cs s)
  where
    go : (b : Bool) → c.given ≡ b → cond b c.number (first_given cs) ≡ 0 → (first_given cs ≡ 0 → NoneGiven cs) → NoneGiven (c ∷ cs)
    go true g h rest = absurd (omega (arith, h))
    go false g h rest = (g, rest h)

-- no answer is above every number
pub at_most : (n : ℕ) (cs : List Case) → Each (λ c. c.number ≤ n) cs → first_given cs ≤ n
unfolding first_given
at_most n [] a = omega arith
at_most n (c ∷ cs) (h, a) = go c.given (at_most n cs a)
  where
    go : (b : Bool) → first_given cs ≤ n → cond b c.number (first_given cs) ≤ n
    go true k = h
    go false k = k

-- ---- rising numbers: the first is the lowest

pub rising_positive : (m : ℕ) (cs : List Case) → Rising m cs → Positive cs
rising_positive m [] r = tt
rising_positive m (c ∷ cs) (l, r) = (omega arith, rising_positive c.number cs r)

above : (m : ℕ) (cs : List Case) → Rising m cs → (i : ℕ) → i < length cs → m < (get_or cs i no_case).number
above m [] r i h = absurd (omega arith)
above m (c ∷ cs) (l, r) zero h = l
above m (c ∷ cs) (l, r) (suc i) h = omega (arith, l, above c.number cs r i (omega arith))

-- a later number is higher
rises : (m : ℕ) (cs : List Case) → Rising m cs → (i j : ℕ) → i < j → j < length cs → (get_or cs i no_case).number < (get_or cs j no_case).number
rises m [] r i j h k = absurd (omega arith)
rises m (c ∷ cs) (l, r) i zero h k = absurd (omega arith)
rises m (c ∷ cs) (l, r) zero (suc j) h k = above c.number cs r j (omega arith)
rises m (c ∷ cs) (l, r) (suc i) (suc j) h k = rises c.number cs r i j (omega arith) (omega arith)

-- so the first that applies is the lowest that applies
first-lowest : (cs : List Case) → Rising 0 cs → (n : ℕ) → AppliesFirst n cs → (m : ℕ) → Applies m cs → n ≤ m
first-lowest cs r n (i, f, e) m (j, k, d, g) =
    by_cases (dec_lt j i) (λ l. absurd (true≢false (sym g ∙ f.earlier j l)))
    (λ l. by_cases (dec_lt i j) (λ q. omega (arith, rises 0 cs r i j q k, e, d)) (λ q. same (omega arith)))
  where
    same : i ≡ j → n ≤ m
    same z = omega (arith, sym e ∙ ap (λ x. (get_or cs x no_case).number) z ∙ d)

pub lowest_refused : (cs : List Case) → Rising 0 cs → (n : ℕ) → 0 < n → (first_given cs ≡ n) ↔ (Applies n cs × ((m : ℕ) → Applies m cs → n ≤ m))
lowest_refused cs r n h = (there, back)
  where
    s : Positive cs
    s = rising_positive 0 cs r

    there : first_given cs ≡ n → Applies n cs × ((m : ℕ) → Applies m cs → n ≤ m)
    there e = let (i, f, d) = (refused cs s n h).0 e in ((i, f.within, d, f.holds), first-lowest cs r n (i, f, d))

    -- another first number would be both lower and higher
    back : Applies n cs × ((m : ℕ) → Applies m cs → n ≤ m) → first_given cs ≡ n
    back (a, l) = ⊎_elim
        (λ q. absurd (true≢false (sym a.3 ∙ q.0 a.0 a.1)))
        (λ q. let m : ℕ = (get_or cs q.0 no_case).number in
        let e : first_given cs ≡ m = answer_first cs ∙ ap (λ c. c.number) q.2 in
        let low : m ≤ n = first-lowest cs r m (q.0, q.1, refl) n a in
        let high : n ≤ m = l m (q.0, q.1.within, refl, q.1.holds) in
        omega (arith, e, low, high))
        (decided given no_case cs)

-- ---- a chain of tests, each a call's answer

pub gives : (n : ℕ) (b r : Bool) (cs : List Case) → r ≡ b → r ≡ true → n ≡ first_given ((n if b) ∷ cs)
unfolding first_given
gives n b r cs e f = sym (ap (λ x. cond x n (first_given cs)) (sym e ∙ f))

pub skips : (x n : ℕ) (b r : Bool) (cs : List Case) → r ≡ b → r ≡ false → x ≡ first_given cs → x ≡ first_given ((n if b) ∷ cs)
unfolding first_given
skips x n b r cs e f g = g ∙ sym (ap (λ y. cond y n (first_given cs)) (sym e ∙ f))

pub none_left : 0 ≡ first_given []
unfolding first_given
none_left = refl

-- ---- one chain after another

pub first_of : (cs ds : List Case) (n : ℕ) → first_given cs ≡ n → (n ≡ 0 → ⊥) → n ≡ first_given (cs ++ ds)
unfolding first_given
first_of [] ds n e z = absurd (z (sym e))
first_of (c ∷ cs) ds n e z = go c.given e (λ h. first_of cs ds n h z)
  where
    go : (b : Bool) → cond b c.number (first_given cs) ≡ n → (first_given cs ≡ n → n ≡ first_given (cs ++ ds)) → n ≡ cond b c.number (first_given (cs ++ ds))
    go true h rest = sym h
    go false h rest = rest h

-- the second's answer, where the first gives none
pub then_of : (cs ds : List Case) (x : ℕ) → Positive cs → first_given cs ≡ 0 → x ≡ first_given ds → x ≡ first_given (cs ++ ds)
unfolding first_given
then_of [] ds x s e f = f
then_of (c ∷ cs) ds x (l, s) e f = go c.given e (λ h. then_of cs ds x s h f)
  where
    go : (b : Bool) → cond b c.number (first_given cs) ≡ 0 → (first_given cs ≡ 0 → x ≡ first_given (cs ++ ds)) → x ≡ cond b c.number (first_given (cs ++ ds))
    go true h rest = absurd (omega (arith, h))
    go false h rest = rest h

-- where no case of two chains is given, none of either is
pub both_none : (cs ds : List Case) → Positive cs → first_given (cs ++ ds) ≡ 0 → (first_given cs ≡ 0) × (first_given ds ≡ 0)
both_none cs ds s e = by_cases (dec_lt 0 (first_given cs))
    (λ h. absurd (omega (arith, first_of cs ds (first_given cs) refl (λ z. omega arith), e)))
    (λ h. let z : first_given cs ≡ 0 = omega arith in (z, then_of cs ds (first_given ds) s z refl ∙ e))

-- Small instances of the definitions, decided by computing: what the table of cases is proved by.
use Rattle.std.specs.Prelude.{◌≡◌, Bool, ◌&&◌, ◌||◌, cond, List, length, get_or}
use Rattle.std.proofs.Math.Path.{refl, sym}
use Rattle.std.proofs.Common.{ap, ◌∙◌, true≢false, inl, inr, arith}
use Rattle.std.proofs.Math.Bool.{true, false, not}
use Rattle.std.proofs.lemmas.Bool.{false≢true}
use Prim.Native.Nat.{ℕ, zero, suc, ◌*◌, ◌^◌, ◌<◌}
use Rattle.std.proofs.Math.Dec.{ltb, eqb}
use borrow.Author.Tests.{ltb-true, eqb-true, not-true}
use Rattle.theory.specs.Def.{xorsum, Bits, bit, every, agree, evenly, Spanned}
use Rattle.theory.specs.Laws.{below_suc, and_true_l, and_true_r, agree_elim, every_intro, every_elim, find}
use Rattle.theory.proofs.Theorems as T
use Rattle.digits.specs.Def.{Word, digit}
use Rattle.digits.specs.Laws.{digit_past}
use Rattle.kinds.specs.Generator.{Machine}
use Rattle.kinds.specs.Linear.{LinearMachine}
use Rattle.document.specs.Cells.{cell_bit, is_yes, Answer}
use Rattle.document.specs.Basis.{row, BasisOf}
use Rattle.document.specs.Agreement.{cell_linear}

-- f i for each i below n
unfoldable pub all : ℕ → (ℕ → Bool) → Bool
all zero f = true
all (suc n) f = all n f && f n

all_elim : (n : ℕ) (f : ℕ → Bool) → all n f ≡ true → (i : ℕ) → i < n → f i ≡ true
unfolding all
all_elim zero f e = λ i h. absurd (omega arith)
all_elim (suc n) f e = below_suc n (λ i. f i ≡ true) (all_elim n f (and_true_l (all n f) (f n) e)) (and_true_r (all n f) (f n) e)

-- ---- the question

-- a no at d with the set whose members are the digits of S
unfoldable pub is_no : Machine → ℕ → ℕ → ℕ → ℕ → Bool
is_no M t l d S =
    not (is_yes M t l) && ltb d (t * l) && digit S d && ltb S (2 ^ suc d)
    && every (λ s. not (xorsum (suc d) (λ i. digit S i && cell_bit M l i s))) && evenly (cell_bit M l) d

module _ (M : Machine) (linear : LinearMachine M) (t l : ℕ) where
  pub yes_answer : is_yes M t l ≡ true → Answer M t l true 0 (λ _. false)
  yes_answer e = record { verdict = sym e; even = λ _. (refl, λ i. refl); uneven = λ f. absurd (true≢false f) }

  pub no_answer : (d S : ℕ) → is_no M t l d S ≡ true → Answer M t l false d (digit S)
  unfolding is_no
  no_answer d S e =
      let (a, b, c, f, g, h) = parts _ _ _ _ _ _ e in
      record {
        verdict = sym (not-true _ a);
        even = λ x. absurd (false≢true x);
        uneven = λ _. record {
          place = ltb-true d (t * l) b;
          set = record { last = c; cancels = λ s. not-true _ (every_elim (λ s. not (xorsum (suc d) (λ i. digit S i && cell_bit M l i s))) g s) };
          past = λ i k. digit_past S (suc d) i (ltb-true S (2 ^ suc d) f) k;
          earliest = (T.equidistribution (cell_bit M l) (cell_linear M linear l) d).0 ((T.counted (cell_bit M l) (cell_linear M linear l) d).0 h);
        };
      }
    where
      parts : (a b c f g h : Bool) → (a && b && c && f && g && h) ≡ true → (a ≡ true) × (b ≡ true) × (c ≡ true) × (f ≡ true) × (g ≡ true) × (h ≡ true)
      parts true true true true true h e = (refl, refl, refl, refl, refl, e)
      parts true true true true false h e = absurd (false≢true e)
      parts true true true false g h e = absurd (false≢true e)
      parts true true false f g h e = absurd (false≢true e)
      parts true false c f g h e = absurd (false≢true e)
      parts false b c f g h e = absurd (false≢true e)

-- ---- the basis

-- is v a sum of some of the n rows Q?
unfoldable pub is_sum : ℕ → ℕ → (ℕ → Word) → Word → Bool
is_sum k n Q v = not (every {k = n} (λ c. not (agree k v (λ b. xorsum n (λ i. bit c i && Q i b)))))

sum_of : (k n : ℕ) (Q : ℕ → Word) (v : Word) → is_sum k n Q v ≡ true → Spanned k n Q v
unfolding is_sum
sum_of k n Q v e = elim (find (λ (c : Bits n). agree k v (λ b. xorsum n (λ i. bit c i && Q i b)))) [
  | inl (c, a) ↦ record { chosen = bit c; sum = agree_elim k v _ a }
  | inr h ↦ absurd (true≢false (sym (every_intro (λ (c : Bits n). not (agree k v (λ b. xorsum n (λ i. bit c i && Q i b)))) (λ c. ap not (h c))) ∙ not-true _ e))
]

-- the lowest i below n with f i, or n
unfoldable pub first_of : ℕ → (ℕ → Bool) → ℕ
first_of zero f = 0
first_of (suc n) f = cond (f 0) 0 (suc (first_of n (λ i. f (suc i))))

module _ (M : Machine) (t l : ℕ) (ws : List ℕ) where
  -- the rows that the words ws hold, and their leading bits
  abbrev rows : ℕ → Word
  rows i = digit (get_or ws i 0)

  abbrev leads : ℕ → ℕ
  leads i = first_of M.size (rows i)

  unfoldable pub well_led : Bool
  well_led =
      all (length ws) (λ i.
      ltb (leads i) M.size && rows i (leads i) && ltb (get_or ws i 0) (2 ^ M.size) && is_sum M.size (t * l) (row M l) (rows i)
      && all (leads i) (λ b. not (rows i b))
      && all i (λ j. ltb (leads j) (leads i))
      && all (length ws) (λ j. eqb j i || not (rows j (leads i))))

  unfoldable pub covering : Bool
  covering = all (t * l) (λ i. is_sum M.size (length ws) rows (row M l i))

  record Led (i : ℕ) : Type 0 where
    inside : leads i < M.size
    set : rows i (leads i) ≡ true
    past : get_or ws i 0 < 2 ^ M.size
    sums : Spanned M.size (t * l) (row M l) (rows i)
    lowest : (b : ℕ) → b < leads i → rows i b ≡ false
    rising : (j : ℕ) → j < i → leads j < leads i
    alone : (j : ℕ) → j < length ws → ¬ (j ≡ i) → rows j (leads i) ≡ false

  led : well_led ≡ true → (i : ℕ) → i < length ws → Led i
  unfolding well_led
  led e i h =
      let (a, b, c, d, f, g, o) = parts _ _ _ _ _ _ _ (all_elim (length ws) _ e i h) in
      record {
        inside = ltb-true _ _ a;
        set = b;
        past = ltb-true _ _ c;
        sums = sum_of M.size (t * l) (row M l) (rows i) d;
        lowest = λ b k. not-true _ (all_elim (leads i) (λ b. not (rows i b)) f b k);
        rising = λ j k. ltb-true _ _ (all_elim i (λ j. ltb (leads j) (leads i)) g j k);
        alone = λ j k n. other (eqb j i) (rows j (leads i)) (λ q. n (eqb-true j i q)) (all_elim (length ws) (λ j. eqb j i || not (rows j (leads i))) o j k);
      }
    where
      parts : (a b c d f g o : Bool) → (a && b && c && d && f && g && o) ≡ true → (a ≡ true) × (b ≡ true) × (c ≡ true) × (d ≡ true) × (f ≡ true) × (g ≡ true) × (o ≡ true)
      parts true true true true true true o e = (refl, refl, refl, refl, refl, refl, e)
      parts true true true true true false o e = absurd (false≢true e)
      parts true true true true false g o e = absurd (false≢true e)
      parts true true true false f g o e = absurd (false≢true e)
      parts true true false d f g o e = absurd (false≢true e)
      parts true false c d f g o e = absurd (false≢true e)
      parts false b c d f g o e = absurd (false≢true e)

      other : (x y : Bool) → ¬ (x ≡ true) → (x || not y) ≡ true → y ≡ false
      other true y n e = absurd (n refl)
      other false true n e = absurd (false≢true e)
      other false false n e = refl

  pub basis_rows : well_led ≡ true → covering ≡ true → BasisOf M t l (length ws) rows
  unfolding covering
  basis_rows e f =
      record {
        lead = leads;
        reduced = record {
          inside = λ i h. (led e i h).inside;
          set = λ i h. (led e i h).set;
          lowest = λ i h. (led e i h).lowest;
          rising = λ i j h k. (led e j k).rising i h;
          alone = λ i j h k. (led e i h).alone j k;
        };
        past = λ i h b k. digit_past (get_or ws i 0) M.size b (led e i h).past k;
        sums = λ i h. (led e i h).sums;
        all = λ i h. sum_of M.size (length ws) rows (row M l i) (all_elim (t * l) _ f i h);
      }

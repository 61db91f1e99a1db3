-- Rows that stand for output bits: a set of rows adds up to zero just where the set of output bits is dependent.
use Rattle.std.specs.Prelude.{◌≡◌, refl, Bool, ◌&&◌, ℕ, suc, ◌≤◌, ◌<◌}
use Rattle.std.proofs.Common.{sym, ◌∙◌, arith}
use Rattle.std.proofs.Math.Bool.{and-false}
use Rattle.std.proofs.Math.Logic.{by_cases}
use Rattle.std.proofs.Math.Decide.{dec_lt}
use Rattle.theory.specs.Def.{xorsum, unit, pair, Bits, bit, tabulate, Linear, Equidistributed, Dependent, Independent}
use Rattle.theory.specs.Laws.{bit-tabulate, xorsum_cong, xorsum-none}
use Rattle.theory.specs.Sums.{pair-rows, pair-none, pair_same, pair-unit}
use Rattle.theory.proofs.Theorems as Counted
use Rattle.digits.specs.Def.{Word}
use Rattle.span.specs.Def.{DependentRows, IndependentRows, RowsOf, FirstSet}

module _ {k L n : ℕ} {row : ℕ → Word} {out : ℕ → Bits k → Bool} (x : RowsOf L n row out) where
  module _ (d : ℕ) (h : d < n) (S : ℕ → Bool) where
    sums : (s : Bits k) → xorsum (suc d) (λ p. S p && out p s) ≡ pair k (λ i. xorsum (suc d) (λ p. S p && row p i)) (bit s)
    sums s = sym (pair-rows k (suc d) S row (bit s) ∙ xorsum_cong (suc d) _ _ (λ p l. rw (x.is p (omega arith) s)))

    pub dependent_outputs : DependentRows L row d S → Dependent out d S
    dependent_outputs y =
        record { last = y.last; cancels = λ s. sums s ∙ pair-none k _ (bit s) (λ i l. y.cancels i (omega (arith, x.fits))) }

    pub dependent_rows : Dependent out d S → DependentRows L row d S
    dependent_rows y =
        record {
          last = y.last;
          cancels = λ i l.
              by_cases (dec_lt i k)
              (λ g. sym (pair-unit k i (λ i. xorsum (suc d) (λ p. S p && row p i)) g)
              ∙ pair_same k _ _ (unit i) (bit (tabulate k (unit i))) (λ _ _. refl) (λ j q. sym (bit-tabulate k (unit i) j q))
              ∙ sym (sums (tabulate k (unit i))) ∙ y.cancels (tabulate k (unit i)))
              (λ g. xorsum-none (suc d) _ (λ p q. rw (x.clear p (omega arith) i (omega arith) l) (and-false (S p))));
        }

  pub independent_outputs : (m : ℕ) → m ≤ n → IndependentRows L row m → Independent out m
  independent_outputs m l y d h S z = y d h S (dependent_rows d (omega arith) S z)

  module _ (linear : (i : ℕ) → Linear (out i)) where
    pub independent_even : (m : ℕ) → m ≤ n → IndependentRows L row m → Equidistributed out m
    independent_even m h y = (Counted.equidistribution out linear m).1 (independent_outputs m h y)

    pub dependent_uneven : (d : ℕ) (S : ℕ → Bool) → d < n → DependentRows L row d S → (m : ℕ) → d < m → ¬ Equidistributed out m
    dependent_uneven d S h y m l e = (Counted.equidistribution out linear m).0 e d l S (dependent_outputs d h S y)

    pub rows_bound : (m : ℕ) → m ≤ n → IndependentRows L row m → m ≤ k
    rows_bound m h y = Counted.bound out linear m (independent_even m h y)

-- there is one first set only
module _ {k d e : ℕ} {out : ℕ → Bits k → Bool} {S T : ℕ → Bool} (x : FirstSet out d S) (y : FirstSet out e T) where
  pub first-place : d ≡ e
  first-place =
      by_cases (dec_lt d e)
      (λ l. absurd (x.uneven (suc d) (omega arith) (y.even (suc d) l)))
      (λ g. by_cases (dec_lt e d) (λ l. absurd (y.uneven (suc e) (omega arith) (x.even (suc e) l))) (λ f. omega arith))

  pub first_only : (i : ℕ) → i < suc d → S i ≡ T i
  first_only i h =
      let t : Dependent out d T = rw first-place y.set in
      sym (x.only T t i h)

-- rows that agree in the L bits
pub rows_same : {k L n : ℕ} {row : ℕ → Word} {out : ℕ → Bits k → Bool} (new : ℕ → Word) → ((p : ℕ) → p < n → (i : ℕ) → i < L → new p i ≡ row p i)
    → RowsOf L n row out → RowsOf L n new out
rows_same {k = k} {row = row} new e x =
    record {
      fits = x.fits;
      clear = λ p h i a b. e p h i b ∙ x.clear p h i a b;
      is = λ p h s. pair_same k (new p) (row p) (bit s) (bit s) (λ i l. e p h i (omega (arith, x.fits))) (λ _ _. refl) ∙ x.is p h s;
    }

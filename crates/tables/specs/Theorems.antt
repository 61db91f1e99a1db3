-- What callers conclude: tables and sums made from first dependent bits are the document's, for any machine whose questions they answer.
use Rattle.std.specs.Prelude.{◌≡◌, refl, Bool, cond, List, get_or}
use Rattle.std.proofs.Math.Path.{sym, ap}
use Rattle.std.proofs.Common.{◌∙◌, arith, ext_get_or}
use Rattle.std.proofs.Math.Logic.{by_cases}
use Prim.Native.Nat.{ℕ, zero, suc, ◌+◌, ◌-◌, ◌/◌, ◌≤◌, min}
use Rattle.std.proofs.Math.Decide.{dec_lt}
use Rattle.kinds.specs.Generator.{Machine}
use Rattle.document.specs.Limits.{most_bits, most_output}
use Rattle.document.specs.Cells.{is_yes}
use Rattle.document.specs.Report.{largest, total, most_resolution, resolution, most_dimension, dimension, resolution_gap, dimension_gap, resolution_sum, dimension_sum}
use Rattle.document.specs.Largest.{largest_is}
use Rattle.tables.specs.Tables.{says, resolution_of, dimension_of, Entries}

-- ---- numbers 1 to n alone count

pub largest_same : (f g : ℕ → Bool) (n : ℕ) → ((i : ℕ) → 1 ≤ i → i ≤ n → f i ≡ g i) → largest f n ≡ largest g n
unfolding largest
largest_same f g zero e = refl
largest_same f g (suc n) e =
    ap (λ b. cond b (suc n) (largest f n)) (e (suc n) (omega arith) (omega arith))
    ∙ ap (λ m. cond (g (suc n)) (suc n) m) (largest_same f g n (λ i p q. e i p (omega arith)))

pub total_same : (f g : ℕ → ℕ) (n : ℕ) → ((i : ℕ) → 1 ≤ i → i ≤ n → f i ≡ g i) → total n f ≡ total n g
unfolding total
total_same f g zero e = refl
total_same f g (suc n) e =
    ap (λ s. s + f (suc n)) (total_same f g n (λ i p q. e i p (omega arith)))
    ∙ ap (λ v. total n g + v) (e (suc n) (omega arith) (omega arith))

-- ---- tables

-- just one list is a table
pub entries_agree : (size n : ℕ) (f : ℕ → ℕ) (x y : List ℕ) → Entries size n f x → Entries size n f y → x ≡ y
entries_agree size n f x y a b =
    ext_get_or 0 x y (a.long ∙ sym b.long)
    (λ i _. by_cases (dec_lt i n) (λ h. a.entry i h ∙ sym (b.entry i h)) (λ h. a.past i (omega arith) ∙ sym (b.past i (omega arith))))

entries_same : {size n m : ℕ} {f : ℕ → ℕ} (g : ℕ → ℕ) {table : List ℕ} → n ≡ m → ((i : ℕ) → 1 ≤ i → i ≤ n → f i ≡ g i)
    → Entries size n f table → Entries size m g table
entries_same g q e x =
    record {
      long = x.long;
      entry = λ i h. x.entry i (omega arith) ∙ e (i + 1) (omega arith) (omega arith);
      past = λ i h. x.past i (omega arith);
    }

-- the entry of t at its place
pub at_place : {size n : ℕ} {f : ℕ → ℕ} {table : List ℕ} → Entries size n f table → (t : ℕ) → 1 ≤ t → t ≤ n → get_or table (t - 1) 0 ≡ f t
at_place {f = f} x t p q = x.entry (t - 1) (omega arith) ∙ ap f {x = t - 1 + 1} {y = t} (omega arith)

module _ (M : Machine) (first : List ℕ) (k L : ℕ) (size : k ≡ M.size) (width : L ≡ M.width)
    (answers : (t l : ℕ) → 1 ≤ l → l ≤ M.width → is_yes M t l ≡ says first t l) where
  resolution_is : (t : ℕ) → resolution_of (says first) k L t ≡ resolution M t
  unfolding resolution_of resolution most_resolution
  resolution_is t = rw (size, width) (largest_same _ _ _ (λ l p q. sym (answers t l p (omega arith))))

  dimension_is : (l : ℕ) → 1 ≤ l → l ≤ M.width → dimension_of (says first) k l ≡ dimension M l
  unfolding dimension_of dimension most_dimension
  dimension_is l p q = rw size (largest_same _ _ _ (λ t _ _. sym (answers t l p q)))

  pub resolutions_are : {table : List ℕ} → Entries most_bits k (resolution_of (says first) k L) table → Entries most_bits M.size (resolution M) table
  resolutions_are x = entries_same (resolution M) size (λ t _ _. resolution_is t) x

  pub dimensions_are : {table : List ℕ} → Entries most_output L (dimension_of (says first) k) table → Entries most_output M.width (dimension M) table
  dimensions_are x = entries_same (dimension M) width (λ l p q. dimension_is l p (omega arith)) x

-- ---- what the sums require

pub resolution_bounded : (test : ℕ → ℕ → Bool) (k L t : ℕ) → resolution_of test k L t ≤ min L (k / t)
unfolding resolution_of
resolution_bounded test k L t = (largest_is (λ l. test t l) (min L (k / t))).bound

pub dimension_bounded : (test : ℕ → ℕ → Bool) (k l : ℕ) → dimension_of test k l ≤ k / l
unfolding dimension_of
dimension_bounded test k l = (largest_is (λ t. test t l) (k / l)).bound

-- ---- the sums

module _ (M : Machine) (k L : ℕ) (size : k ≡ M.size) (width : L ≡ M.width) where
  pub resolution_sum_is : {table : List ℕ} → Entries most_bits M.size (resolution M) table → total k (λ t. min L (k / t) - get_or table (t - 1) 0) ≡ resolution_sum M
  unfolding resolution_sum resolution_gap most_resolution
  resolution_sum_is x = rw (size, width) (total_same _ _ _ (λ t p q. ap (λ v. min M.width (M.size / t) - v) (at_place x t p q)))

  pub dimension_sum_is : {table : List ℕ} → Entries most_output M.width (dimension M) table → total L (λ l. k / l - get_or table (l - 1) 0) ≡ dimension_sum M
  unfolding dimension_sum dimension_gap most_dimension
  dimension_sum_is x = rw (size, width) (total_same _ _ _ (λ l p q. ap (λ v. M.size / l - v) (at_place x l p q)))

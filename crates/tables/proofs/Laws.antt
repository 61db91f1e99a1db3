-- A table that is filled entry by entry, a step of the search downward, and a sum of gaps. Assumes nothing.
use Rattle.std.proofs.Common.{◌≡◌, refl, ap, ◌∙◌, Bool, true, false, List, ℕ, zero, suc, ◌+◌, ◌-◌, ◌<◌, ◌≤◌, add-one, arith, get_or, take, replicate, set, below_more}
use Rattle.std.proofs.lemmas.List.{length-set, length-replicate, get_or-take, get_or-set_same, get_or-set_other}
use Rattle.document.specs.Report.{largest, total}
use Rattle.document.specs.Largest.{largest_yes, largest_no}
use Rattle.tables.specs.Tables.{Entries}

-- ---- a table

zeros : (n i : ℕ) → ◌≡◌ {A = ℕ} (get_or (replicate n 0) i 0) 0
zeros zero i = refl
zeros (suc n) zero = refl
zeros (suc n) (suc i) = zeros n i

pub entries_none : (size : ℕ) (f : ℕ → ℕ) → Entries size 0 f (replicate size 0)
entries_none size f = record { long = length-replicate size 0; entry = λ i h. absurd (omega arith); past = λ i h. zeros size i }

-- entry n is stored
pub entries_more : (size n v : ℕ) (f : ℕ → ℕ) (table : List ℕ) → Entries size n f table → n < size → v ≡ f (n + 1) → Entries size (n + 1) f (set table n v)
entries_more size n v f table x h now =
    record {
      long = length-set table n v ∙ x.long;
      entry =
          below_more (λ (i : ℕ). get_or (set table n v) i 0 ≡ f (i + 1)) n
          (λ i b. get_or-set_other table n i v 0 (λ q. omega arith) ∙ x.entry i b)
          (get_or-set_same table n v 0 (omega (arith, x.long)) ∙ now);
      past = λ i b. get_or-set_other table n i v 0 (λ q. omega arith) ∙ x.past i (omega arith);
    }

-- entry n is 0, and stands there already
pub entries_zero : (size n : ℕ) (f : ℕ → ℕ) (table : List ℕ) → Entries size n f table → f (n + 1) ≡ 0 → Entries size (n + 1) f table
entries_zero size n f table x now =
    record {
      long = x.long;
      entry = below_more (λ (i : ℕ). get_or table i 0 ≡ f (i + 1)) n x.entry (x.past n (omega arith) ∙ (cc));
      past = λ i b. x.past i (omega arith);
    }

-- ---- a search: a no is passed, a yes is taken, and nothing is left at 0

pub step : (f : ℕ → Bool) (n : ℕ) → 0 < n → f n ≡ false → largest f n ≡ largest f (n - 1)
step f zero h e = absurd (omega arith)
step f (suc m) h e = largest_no f m e ∙ ap (largest f) {x = m} {y = suc m - 1} (omega arith)

pub stop : (f : ℕ → Bool) (n : ℕ) → 0 < n → f n ≡ true → largest f n ≡ n
stop f zero h e = absurd (omega arith)
stop f (suc m) h e = largest_yes f m e

pub none : (f : ℕ → Bool) (n : ℕ) → n ≤ 0 → largest f n ≡ 0
unfolding largest
none f zero h = refl
none f (suc m) h = absurd (omega arith)

-- ---- a sum

-- one gap more, of an entry of the front part
pub more : (i s v k : ℕ) (most : ℕ → ℕ) (table : List ℕ) → i < k → s ≡ total i (λ n. most n - get_or table (n - 1) 0)
    → v ≡ most (i + 1) - get_or (take k table) i 0 → s + v ≡ total (i + 1) (λ n. most n - get_or table (n - 1) 0)
unfolding total
more i s v k most table h p q =
    let e : suc i - 1 ≡ i = omega arith in
    rw add-one (cc (add-one i, get_or-take k table i 0 h))

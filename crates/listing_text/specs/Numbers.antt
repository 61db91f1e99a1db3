-- Every number that a listing prints is below the bound under which `decimal` is its decimal writing (`decimal_read`).
use Rattle.std.specs.Prelude.{◌≡◌, Bool, true, false, cond, List, [], ◌∷◌, ℕ, zero, suc, ◌*◌, ◌/◌, ◌≤◌, ◌<◌, min}
use Rattle.std.proofs.Math.Nat.{div-le_self, mul-le-mul}
use Rattle.std.proofs.Common.{arith}
use Rattle.kinds.specs.Generator.{Machine}
use Rattle.document.specs.Limits.{most_bits, most_output}
use Rattle.document.specs.Generator.{machine}
use Rattle.document.specs.Description.{fields_of}
use Rattle.document.specs.Refusals.{Case, lowest, read_cases, read_refusal}
use Rattle.document.specs.Ranges.{Accepted}
use Rattle.document.specs.Largest.{largest_is}
use Rattle.document.specs.Report.{total, most_resolution, resolution, resolution_gap, most_dimension, dimension, dimension_gap, resolution_sum, dimension_sum}
use Rattle.document.specs.Theorems.{read_accepted, width_most}
use Rattle.document.proofs.Theorems.{ranges, size_most}
use Rattle.listing_text.specs.Text.{most_number}

abbrev pub AllSmall : List ℕ → Type 0
AllSmall [] = Unit {0}
AllSmall (n ∷ ns) = (n < most_number) × AllSmall ns

-- the numbers of `report_text`, line by line
pub record SmallNumbers (M : Machine) : Type 0 where
  pub head : AllSmall (M.size ∷ M.width ∷ [])
  pub by_dimension : (t : ℕ) → t ≤ M.size → AllSmall (t ∷ most_resolution M t ∷ resolution M t ∷ resolution_gap M t ∷ [])
  pub by_resolution : (l : ℕ) → l ≤ M.width → AllSmall (l ∷ most_dimension M l ∷ dimension M l ∷ dimension_gap M l ∷ [])
  pub sums : AllSmall (resolution_sum M ∷ dimension_sum M ∷ [])

-- ---- how large they can be

total_most : (n b : ℕ) (f : ℕ → ℕ) → ((i : ℕ) → f i ≤ b) → total n f ≤ n * b
unfolding total
total_most zero b f h = omega arith
total_most (suc n) b f h = omega (arith, total_most n b f h, h (suc n))

module _ (M : Machine) where
  pub resolution_most : (t : ℕ) → resolution M t ≤ min M.width (M.size / t)
  unfolding resolution most_resolution
  resolution_most t = (largest_is _ (min M.width (M.size / t))).bound

  pub dimension_most : (l : ℕ) → dimension M l ≤ M.size / l
  unfolding dimension most_dimension
  dimension_most l = (largest_is _ (M.size / l)).bound

  resolution_sum_most : resolution_sum M ≤ M.size * M.width
  unfolding resolution_sum resolution_gap most_resolution
  resolution_sum_most = total_most M.size M.width _ (λ t. omega arith)

  dimension_sum_most : dimension_sum M ≤ M.width * M.size
  unfolding dimension_sum dimension_gap most_dimension
  dimension_sum_most = total_most M.width M.size _ (λ l. omega (arith, div-le_self M.size l))

  pub small_numbers : M.size ≤ most_bits → M.width ≤ most_output → SmallNumbers M
  unfolding most_resolution resolution_gap most_dimension dimension_gap
  small_numbers a b =
      let most : M.size * M.width < most_number = omega (arith, mul-le-mul a b) in
      record {
        head = omega arith;
        by_dimension = λ t h. omega (arith, resolution_most t);
        by_resolution = λ l h. omega (arith, dimension_most l, div-le_self M.size l);
        sums = omega (arith, resolution_sum_most, dimension_sum_most);
      }

-- ---- refusals

abbrev Below : ℕ → List Case → Type 0
Below n [] = Unit {0}
Below n (c ∷ cs) = (c.number ≤ n) × Below n cs

lowest_below : (n : ℕ) (cs : List Case) → Below n cs → lowest cs ≤ n
unfolding lowest
lowest_below n [] b = omega arith
lowest_below n (c ∷ cs) (h, b) = go c.given (lowest_below n cs b)
  where
    go : (x : Bool) → lowest cs ≤ n → cond x c.number (lowest cs) ≤ n
    go true l = h
    go false l = l

pub read_small : (bs : List ℕ) → read_refusal bs ≤ 6
unfolding read_refusal
read_small bs = lowest_below 6 (read_cases bs) (omega arith)

-- ---- of a listing: the report's numbers, or the refusal's

pub listing_numbers : (bs : List ℕ) → read_refusal bs ≡ 0 → SmallNumbers (machine (fields_of bs))
listing_numbers bs e =
    let a : Accepted (fields_of bs) = ranges (fields_of bs) (read_accepted bs e) in
    small_numbers (machine (fields_of bs)) (size_most (fields_of bs) a) (width_most (fields_of bs) a)

pub refused_number : (bs : List ℕ) → AllSmall (read_refusal bs ∷ [])
refused_number bs = omega (arith, read_small bs)

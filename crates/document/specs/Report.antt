-- "Report": resolutions, dimensions, gaps, sums and ME.
use Rattle.std.specs.Prelude.{Bool, cond, ℕ, zero, suc, ◌+◌, ◌-◌, ◌/◌, min, eqb}
use Rattle.kinds.specs.Generator.{Machine}
use Rattle.document.specs.Cells.{is_yes}

-- "the largest from n down that gets a yes, or 0"
unfoldable pub largest : (ℕ → Bool) → ℕ → ℕ
largest says zero = 0
largest says (suc n) = cond (says (suc n)) (suc n) (largest says n)

-- f 1 + .. + f n
unfoldable pub total : ℕ → (ℕ → ℕ) → ℕ
total zero f = 0
total (suc n) f = total n f + f (suc n)

module _ (M : Machine) where
  -- l_t* = min(L, k div t), and l_t
  unfoldable pub most_resolution : ℕ → ℕ
  most_resolution t = min M.width (M.size / t)

  unfoldable pub resolution : ℕ → ℕ
  resolution t = largest (λ l. is_yes M t l) (most_resolution t)

  -- k div l, and t_l
  unfoldable pub most_dimension : ℕ → ℕ
  most_dimension l = M.size / l

  unfoldable pub dimension : ℕ → ℕ
  dimension l = largest (λ t. is_yes M t l) (most_dimension l)

  -- Λ_t = l_t* − l_t and Δ_l = (k div l) − t_l
  unfoldable pub resolution_gap : ℕ → ℕ
  resolution_gap t = most_resolution t - resolution t

  unfoldable pub dimension_gap : ℕ → ℕ
  dimension_gap l = most_dimension l - dimension l

  -- "The two sums run over t = 1 to k and l = 1 to L. It is ME when the sum of Λ is 0."
  unfoldable pub resolution_sum : ℕ
  resolution_sum = total M.size resolution_gap

  unfoldable pub dimension_sum : ℕ
  dimension_sum = total M.width dimension_gap

  unfoldable pub is_me : Bool
  is_me = eqb resolution_sum 0

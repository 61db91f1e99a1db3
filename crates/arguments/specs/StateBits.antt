-- k by the kind, and the bounds of k and L.
use Rattle.std.specs.Prelude.{◌≡◌, ◌*◌, ◌-◌, ◌≤◌}
use Rattle.std.proofs.Math.Path.{ap}
use Rattle.std.proofs.Common.{mul-le-mul, le_refl, arith}
use Rattle.std.proofs.Math.Logic.{by_cases}
use Rattle.std.proofs.Math.Decide.{ℕ_discrete}
use Rattle.kinds.specs.Generator.{Machine, tausworthe, gfsr, twisted, mersenne}
use Rattle.document.specs.declared.Fields.{Fields}
use Rattle.document.specs.Limits.{most_bits, most_output}
use Rattle.document.specs.Generator.{machine, size}
use Rattle.document.specs.Ranges.{WordRanges, Accepted, is_one, is_two, is_three, is_four, cases}

module _ (g : Fields) where
  pub size_one : g.kind ≡ 1 → size g ≡ g.k
  unfolding machine tausworthe
  size_one e = ap (λ (M : Machine). M.size) (is_one g.kind _ _ _ _ e)

  size_two : g.kind ≡ 2 → size g ≡ g.r * g.w
  unfolding machine gfsr
  size_two e = ap (λ (M : Machine). M.size) (is_two g.kind _ _ _ _ e)

  size_three : g.kind ≡ 3 → size g ≡ g.r * g.w
  unfolding machine twisted
  size_three e = ap (λ (M : Machine). M.size) (is_three g.kind _ _ _ _ e)

  pub size-four : g.kind ≡ 4 → size g ≡ g.r * g.w - g.p
  unfolding machine mersenne
  size-four e = ap (λ (M : Machine). M.size) (is_four g.kind _ _ _ _ e)

  module _ (x : Accepted g) where
    pub size_words : (g.kind ≡ 1 → ⊥) → (g.kind ≡ 4 → ⊥) → size g ≡ g.r * g.w
    size_words n m = by_cases (ℕ_discrete g.kind 2) size_two (λ h. size_three (omega (arith, x.kind_least, x.kind_most)))

    words : (g.kind ≡ 1 → ⊥) → WordRanges g
    words n = by_cases (ℕ_discrete g.kind 2) (λ e. (x.two e).words)
        (λ h. by_cases (ℕ_discrete g.kind 3) (λ e. (x.three e).words) (λ o. (x.four (omega (arith, x.kind_least, x.kind_most))).twist.words))

    pub few_bits : (g.kind ≡ 1 → ⊥) → g.r * g.w ≤ most_bits
    few_bits n = (words n).product

    pub p_fits : g.kind ≡ 4 → g.p ≤ g.r * g.w
    p_fits e =
        let y = x.four e in
        omega (arith, y.p_most, mul-le-mul {n₁ = 1} {m₁ = g.w} {n₂ = g.r} {m₂ = g.w} y.twist.words.r_least (le_refl g.w))

    pub size_most : size g ≤ most_bits
    size_most = cases g x
        (λ e. omega (arith, size_one e, (x.one e).k_most))
        (λ e. omega (arith, size_two e, (x.two e).words.product))
        (λ e. omega (arith, size_three e, (x.three e).words.product))
        (λ e. omega (arith, size-four e, (x.four e).twist.words.product))

    pub bits_most : g.bits ≤ most_output
    bits_most = cases g x
        (λ e. (x.one e).bits_most)
        (λ e. omega (arith, (x.two e).words.bits_most, (x.two e).words.w_most))
        (λ e. omega (arith, (x.three e).words.bits_most, (x.three e).words.w_most))
        (λ e. omega (arith, (x.four e).twist.words.bits_most, (x.four e).twist.words.w_most))

-- The k and L of the machine that a description stands for: L is the field, and both keep within their limits.
use Rattle.std.specs.Prelude.{◌≡◌, refl, Bool, true, false, cond, ◌-◌, ◌*◌, ◌≤◌, eqb}
use Rattle.std.proofs.Common.{ap, arith}
use Rattle.kinds.specs.Generator.{Machine, tausworthe, gfsr, twisted, mersenne}
use Rattle.document.specs.declared.Fields.{Fields}
use Rattle.document.specs.Limits.{most_bits, most_output}
use Rattle.document.specs.Generator.{by_kind, machine, size}
use Rattle.document.specs.Ranges.{Accepted, cases, is_one, is_two, is_three, is_four}

pub machine_width : (g : Fields) → (machine g).width ≡ g.bits
unfolding machine by_kind tausworthe gfsr twisted mersenne
machine_width g = pick (eqb g.kind 1) (eqb g.kind 2) (eqb g.kind 3) _ _ _ _ refl refl refl refl
  where
    pick : (x y z : Bool) (A B C D : Machine) → A.width ≡ g.bits → B.width ≡ g.bits → C.width ≡ g.bits → D.width ≡ g.bits
        → (cond x A (cond y B (cond z C D))).width ≡ g.bits
    pick true y z _ _ _ _ a b c d = a
    pick false true z _ _ _ _ a b c d = b
    pick false false true _ _ _ _ a b c d = c
    pick false false false _ _ _ _ a b c d = d

pub width_most : (g : Fields) → Accepted g → (machine g).width ≤ most_output
width_most g x = cases g x
    (λ e. omega (arith, machine_width g, (x.one e).bits_most))
    (λ e. let y = (x.two e).words in omega (arith, machine_width g, y.bits_most, y.w_most))
    (λ e. let y = (x.three e).words in omega (arith, machine_width g, y.bits_most, y.w_most))
    (λ e. let y = (x.four e).twist.words in omega (arith, machine_width g, y.bits_most, y.w_most))

pub size_most : (g : Fields) → Accepted g → size g ≤ most_bits
unfolding machine tausworthe gfsr twisted mersenne
size_most g x = cases g x
    (λ e. let q : size g ≡ g.k = ap (λ (M : Machine). M.size) (is_one g.kind _ _ _ _ e) in omega (arith, (x.one e).k_most))
    (λ e. let q : size g ≡ g.r * g.w = ap (λ (M : Machine). M.size) (is_two g.kind _ _ _ _ e) in omega (arith, (x.two e).words.product))
    (λ e. let q : size g ≡ g.r * g.w = ap (λ (M : Machine). M.size) (is_three g.kind _ _ _ _ e) in omega (arith, (x.three e).words.product))
    (λ e. let q : size g ≡ g.r * g.w - g.p = ap (λ (M : Machine). M.size) (is_four g.kind _ _ _ _ e) in omega (arith, (x.four e).twist.words.product))

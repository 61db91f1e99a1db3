-- k by the kind whose rules the fields go by: each machine's size is its column of one table.
use Rattle.std.specs.Prelude.{◌≡◌, refl, Bool, true, false, cond, ◌-◌, ◌*◌, ◌≤◌, eqb}
use Rattle.kinds.specs.Generator.{Machine, tausworthe, gfsr, twisted, mersenne}
use Rattle.document.specs.declared.Fields.{Fields}
use Rattle.document.specs.declared.kind.Kind.TheVariants.{Mersenne}
use Rattle.document.specs.Answer.{column}
use Rattle.document.specs.Generator.{by_kind, machine, size}
use Rattle.document.specs.Ranges.{Accepted}
use Rattle.document.proofs.Columns.{of_kind}
use Rattle.arguments.specs.StateBits.{p_fits}

pub size_by_kind : (g : Fields) → size g ≡ by_kind g.kind g.k (g.r * g.w) (g.r * g.w) (g.r * g.w - g.p)
unfolding machine by_kind tausworthe gfsr twisted mersenne
size_by_kind g = pick (eqb g.kind 1) (eqb g.kind 2) (eqb g.kind 3) _ _ _ _
  where
    pick : (x y z : Bool) (A B C D : Machine) → (cond x A (cond y B (cond z C D))).size ≡ cond x A.size (cond y B.size (cond z C.size D.size))
    pick true y z _ _ _ _ = refl
    pick false true z _ _ _ _ = refl
    pick false false true _ _ _ _ = refl
    pick false false false _ _ _ _ = refl

pub p_below : (g : Fields) → Accepted g → Mersenne ≡ column g.kind → g.p ≤ g.r * g.w
p_below g x e = p_fits g x (of_kind g.kind Mersenne e x.kind_least x.kind_most)

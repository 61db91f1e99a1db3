-- One of four by a kind that is known: the kind that a byte names, or whose rules it goes by.
use Rattle.std.proofs.Common.{◌≡◌, refl, Bool, true, false, ℕ, sym, ap, ◌∙◌, arith}
use Rattle.std.specs.Prelude.{cond, eqb, Result, Ok, Err}
use Rattle.std.specs.Result.{result_unwrap_or}
use Rattle.document.specs.declared.kind.Kind.{Kind}
use Rattle.document.specs.declared.kind.Kind.TheVariants.{Tausworthe, Gfsr, Twisted, Mersenne}
use Rattle.document.specs.declared.refusals.Refusal.{Refusal}
use Rattle.document.specs.Generator.{by_kind}
use Rattle.document.specs.Answer.{Names, kind_number, column}
use Rattle.document.specs.Refusals.{outside}
use Rattle.document.specs.Ranges.{is_other}
use Rattle.std.proofs.Common.{◌≤◌}
use Rattle.std.proofs.Math.Decide.{ℕ_discrete}

named : (kind : Kind) → kind ≡ column (kind_number kind)
unfolding by_kind
named Tausworthe = refl
named Gfsr = refl
named Twisted = refl
named Mersenne = refl

nameless : (byte : ℕ) → outside 1 4 byte ≡ true → Mersenne ≡ column byte
unfolding outside
nameless byte e = sym (is_other byte _ _ _ _ (λ q. grind (arith, q, e)) (λ q. grind (arith, q, e)) (λ q. grind (arith, q, e)))

pub column_of : (byte : ℕ) (r : Result Kind Refusal) → Names byte r → result_unwrap_or r Mersenne ≡ column byte
column_of byte (Ok kind) e = named kind ∙ ap column e
column_of byte (Err _) e = nameless byte e.1

-- ---- what is said by the kind, where the kind is known

-- one of four
abbrev pub pick : {A : Type 0} → Kind → A → A → A → A → A
pick Tausworthe a b c d = a
pick Gfsr a b c d = b
pick Twisted a b c d = c
pick Mersenne a b c d = d

pick_by : {A : Type 0} (byte : ℕ) (a b c d : A) → pick (column byte) a b c d ≡ by_kind byte a b c d
unfolding by_kind
pick_by byte a b c d = go (eqb byte 1) (eqb byte 2) (eqb byte 3)
  where
    go : (x y z : Bool) → pick (cond x Tausworthe (cond y Gfsr (cond z Twisted Mersenne))) a b c d ≡ cond x a (cond y b (cond z c d))
    go true y z = refl
    go false true z = refl
    go false false true = refl
    go false false false = refl

pub in_column : {A : Type 0} (byte : ℕ) (kind : Kind) (a b c d x : A) → kind ≡ column byte → x ≡ pick kind a b c d → x ≡ by_kind byte a b c d
in_column byte kind a b c d x e f = f ∙ ap (λ k. pick k a b c d) e ∙ pick_by byte a b c d

pub at_column : {A : Type 0} (byte : ℕ) (kind : Kind) (a b c d : A) → column byte ≡ kind → by_kind byte a b c d ≡ pick kind a b c d
at_column byte kind a b c d e = sym (pick_by byte a b c d) ∙ ap (λ k. pick k a b c d) e

-- a byte that names a kind is 1 to 4
pub kind_inside : (byte : ℕ) (kind : Kind) → kind_number kind ≡ byte → outside 1 4 byte ≡ false
unfolding outside
kind_inside byte kind e = ap (outside 1 4) (sym e) ∙ inside kind
  where
    inside : (kind : Kind) → outside 1 4 (kind_number kind) ≡ false
    inside Tausworthe = refl
    inside Gfsr = refl
    inside Twisted = refl
    inside Mersenne = refl

-- a byte that is 1 to 4 names the kind that it goes by
pub of_kind : (byte : ℕ) (kind : Kind) → kind ≡ column byte → 1 ≤ byte → byte ≤ 4 → byte ≡ kind_number kind
unfolding by_kind
of_kind byte kind e low high = number (ℕ_discrete byte 1) (ℕ_discrete byte 2) (ℕ_discrete byte 3) ∙ sym (ap kind_number e)
  where
    number : Dec (byte ≡ 1) → Dec (byte ≡ 2) → Dec (byte ≡ 3) → byte ≡ kind_number (column byte)
    number (yes p) _ _ = rw p refl
    number (no _) (yes p) _ = rw p refl
    number (no _) (no _) (yes p) = rw p refl
    number (no p) (no q) (no r) = let h : byte ≡ 4 = omega (arith, p, q, r) in rw h refl

-- What is known where no case is given: each law takes a shared list of cases apart once, for every call.
use Rattle.std.specs.Prelude.{◌≡◌, List, ◌++◌, ℕ, ◌≤◌}
use Rattle.std.proofs.Common.{sym, ◌∙◌, arith, ltb-false}
use Rattle.document.specs.declared.Fields.{Fields}
use Rattle.document.specs.Generator.{size}
use Rattle.document.specs.Refusals.{Case, lowest, field_cases, pair_cases, asked_cases, room_cases}
use Rattle.document.specs.Lowest.{Rising, field_rises, first_of, then_of, after}
use Rattle.document.specs.Ranges.{Accepted, inside, passed}
use Rattle.document.proofs.Accepted.{accepted}

pub record AskedPassed (g : Fields) (t l : ℕ) : Type 0 where
  pub accepted : Accepted g
  pub t_least : 1 ≤ t
  pub t_most : t ≤ size g
  pub l_least : 1 ≤ l
  pub l_most : l ≤ g.bits

pub asked_passed : (g : Fields) (t l : ℕ) → lowest (asked_cases g t l) ≡ 0 → AskedPassed g t l
asked_passed g t l e =
    let (a, b) = after 0 (field_cases g) (pair_cases (size g) g.bits t l) (field_rises g) e in
    let (x, y) = passed 6 _ _ b in
    let (z, _) = passed 7 _ _ y in
    let (t₁, t₂) = inside 1 (size g) t x in
    let (l₁, l₂) = inside 1 g.bits l z in
    record { accepted = accepted g a; t_least = t₁; t_most = t₂; l_least = l₁; l_most = l₂ }

asked_rises : (g : Fields) (t l : ℕ) → Rising 0 (asked_cases g t l)
asked_rises g t l = omega arith

-- what follows (t, l) in a call's list is then free of cases too
pub then_passed : (g : Fields) (t l : ℕ) (ds : List Case) → lowest (asked_cases g t l ++ ds) ≡ 0 → AskedPassed g t l × (lowest ds ≡ 0)
then_passed g t l ds e =
    let (a, b) = after 0 (asked_cases g t l) ds (asked_rises g t l) e in
    (asked_passed g t l a, b)

pub asked_first : (g : Fields) (t l : ℕ) (ds : List Case) (r : ℕ) → r ≡ lowest (asked_cases g t l) → (r ≡ 0 → ⊥) → r ≡ lowest (asked_cases g t l ++ ds)
asked_first g t l ds r e n = first_of (asked_cases g t l) ds r (sym e) n

pub asked_then : (g : Fields) (t l : ℕ) (ds : List Case) (r x : ℕ) → r ≡ lowest (asked_cases g t l) → r ≡ 0 → x ≡ lowest ds → x ≡ lowest (asked_cases g t l ++ ds)
asked_then g t l ds r x e z f = then_of 0 (asked_cases g t l) ds x (asked_rises g t l) (sym e ∙ z) f

pub room_passed : (least room : ℕ) → lowest (room_cases least room) ≡ 0 → least ≤ room
room_passed least room e = ltb-false room least (passed 10 _ _ e).0

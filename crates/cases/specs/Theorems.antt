-- What is proved of the answer to a list of cases, and an order of document 02 whose numbers do not rise.
use Rattle.std.specs.Prelude.{◌≡◌, Bool, List, [], ◌∷◌, ◌↔◌, ℕ, ◌≤◌, ◌<◌}
use Rattle.std.proofs.Common.{arith}
use Rattle.cases.specs.Def.{Case, ◌if◌, no_case, first_given, Positive, Rising, Applies, AppliesFirst, None}
use Rattle.cases.specs.Laws as L

-- 0 exactly where no case is given
pub accepted_exactly : (cs : List Case) → Positive cs → (first_given cs ≡ 0) ↔ None (λ c. c.given) no_case cs
accepted_exactly = L.accepted

-- n exactly where a case of the number n is given, and none that stands before it
pub refused_exactly : (cs : List Case) → Positive cs → (n : ℕ) → 0 < n → (first_given cs ≡ n) ↔ AppliesFirst n cs
refused_exactly = L.refused

-- where numbers rise: n exactly where its case is given, and no lower one's
pub lowest_exactly : (cs : List Case) → Rising 0 cs → (n : ℕ) → 0 < n → (first_given cs ≡ n) ↔ (Applies n cs × ((m : ℕ) → Applies m cs → n ≤ m))
lowest_exactly = L.lowest_refused

-- the certificate checker of document 02: 15 stands twice, and 7 behind it
checks : Bool → Bool → Bool → Bool → Bool → Bool → List Case
checks a b c d e f = (6 if a) ∷ (15 if b) ∷ (7 if c) ∷ (8 if d) ∷ (15 if e) ∷ (16 if f) ∷ []

checks_exactly : (a b c d e f : Bool) (n : ℕ) → 0 < n → (first_given (checks a b c d e f) ≡ n) ↔ AppliesFirst n (checks a b c d e f)
unfolding checks
checks_exactly a b c d e f = refused_exactly ((6 if a) ∷ (15 if b) ∷ (7 if c) ∷ (8 if d) ∷ (15 if e) ∷ (16 if f) ∷ []) (omega arith)

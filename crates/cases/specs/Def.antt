-- Cases in a list, each with a number: the first that is given is the answer, whatever the order of the numbers.
use Rattle.std.specs.Prelude.{◌≡◌, Bool, true, false, cond, List, [], ◌∷◌, ℕ, ◌<◌, length, get_or}

-- ---- the first of any list

-- the first x with p x, or z where there is none
unfoldable pub first : {A : Type 0} → (A → Bool) → A → List A → A
first p z [] = z
first p z (x ∷ xs) = cond (p x) x (first p z xs)

-- the first with p stands at the place i
pub record FirstAt {A : Type 0} (p : A → Bool) (z : A) (xs : List A) (i : ℕ) : Type 0 where
  pub within : i < length xs
  pub holds : p (get_or xs i z) ≡ true
  pub earlier : (j : ℕ) → j < i → p (get_or xs j z) ≡ false

-- none has p
abbrev pub None : {A : Type 0} → (A → Bool) → A → List A → Type 0
None p z xs = (j : ℕ) → j < length xs → p (get_or xs j z) ≡ false

-- P holds of each
abbrev pub Each : {A : Type 0} → (A → Type 0) → List A → Type 0
Each P [] = Unit {0}
Each P (x ∷ xs) = P x × Each P xs

-- ---- cases

-- a number, and whether its case is given
pub record Case : Type 0 where
  pub number : ℕ
  pub given : Bool

infix 20 ◌if◌
abbrev pub ◌if◌ : ℕ → Bool → Case
n if b = record { number = n; given = b }

abbrev pub no_case : Case
no_case = 0 if false

-- the number of the first case that is given; "Accepted is 0"
unfoldable pub first_given : List Case → ℕ
first_given [] = 0
first_given (c ∷ cs) = cond c.given c.number (first_given cs)

-- every number is above 0
abbrev pub Positive : List Case → Type 0
Positive = Each (λ c. 0 < c.number)

-- the numbers are above m, and rise
abbrev pub Rising : ℕ → List Case → Type 0
Rising m [] = Unit {0}
Rising m (c ∷ cs) = (m < c.number) × Rising c.number cs

-- a case of the number n is given
abbrev pub Applies : ℕ → List Case → Type 0
Applies n cs = (i : ℕ) × (i < length cs) × ((get_or cs i no_case).number ≡ n) × ((get_or cs i no_case).given ≡ true)

-- a case of the number n is given, and none that stands before it
abbrev pub AppliesFirst : ℕ → List Case → Type 0
AppliesFirst n cs = (i : ℕ) × FirstAt (λ c. c.given) no_case cs i × ((get_or cs i no_case).number ≡ n)

-- no case is given
abbrev pub NoneGiven : List Case → Type 0
NoneGiven = Each (λ c. c.given ≡ false)

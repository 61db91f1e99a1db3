-- What is claimed of a machine whose output bits are sums, modulo 2, of the bits of its state. Definitions only.
-- A word, a row, a set and a pattern are functions ℕ → Bool, first bit first, read below the bound at hand.
use Rattle.std.specs.Prelude.{◌≡◌, Bool, true, false, not, ◌&&◌, cond, ℕ, zero, suc, ◌+◌, ◌<◌, eqb}

infixl 32 ◌⊕◌
infixr 40 ◌▹◌
infixl 45 ◌⊞◌
-- The sum of two bits, modulo 2. (`&&`, their product, binds closer.)
abbrev pub ◌⊕◌ : Bool → Bool → Bool
true ⊕ b = not b
false ⊕ b = b

-- f 0 ⊕ f 1 ⊕ .. ⊕ f (n - 1)
unfoldable pub xorsum : ℕ → (ℕ → Bool) → Bool
xorsum zero f = false
xorsum (suc n) f = xorsum n f ⊕ f n

-- the set, or the row, that has i alone
unfoldable pub unit : ℕ → ℕ → Bool
unit i j = eqb j i

-- the sum of those of the first k bits of s that the row ρ names
unfoldable pub pair : ℕ → (ℕ → Bool) → (ℕ → Bool) → Bool
pair k ρ s = xorsum k (λ b. ρ b && s b)

-- ---- the 2 ^ k states of k bits, and counting over all of them

pub data Bits : ℕ → Type 0 where
  [] : Bits zero
  ◌▹◌ : {k : ℕ} → Bool → Bits k → Bits (suc k)

-- bit b of a state; no bit is set from k on
unfoldable pub bit : {k : ℕ} → Bits k → ℕ → Bool
bit [] b = false
bit (x ▹ s) zero = x
bit (x ▹ s) (suc b) = bit s b

-- the state whose bit b is f b
unfoldable pub tabulate : (k : ℕ) → (ℕ → Bool) → Bits k
tabulate zero f = []
tabulate (suc k) f = f zero ▹ tabulate k (λ b. f (suc b))

unfoldable pub zeros : (k : ℕ) → Bits k
zeros zero = []
zeros (suc k) = false ▹ zeros k

-- the sum of two states, bit by bit
unfoldable pub ◌⊞◌ : {k : ℕ} → Bits k → Bits k → Bits k
[] ⊞ [] = []
(x ▹ s) ⊞ (y ▹ t) = (x ⊕ y) ▹ (s ⊞ t)

-- how many of the 2 ^ k states pass the test P
unfoldable pub count : {k : ℕ} → (Bits k → Bool) → ℕ
count {k = zero} P = cond (P []) 1 0
count {k = suc k} P = count (λ s. P (false ▹ s)) + count (λ s. P (true ▹ s))

-- do all of the 2 ^ k states pass the test P?
unfoldable pub every : {k : ℕ} → (Bits k → Bool) → Bool
every {k = zero} P = P []
every {k = suc k} P = every (λ s. P (false ▹ s)) && every (λ s. P (true ▹ s))

-- do p and q agree below m?
unfoldable pub agree : ℕ → (ℕ → Bool) → (ℕ → Bool) → Bool
agree zero p q = true
agree (suc m) p q = agree m p q && not (p m ⊕ q m)

-- A bit that is a sum of some bits of the state: it is set in a sum of states where just one of them sets it.
abbrev pub Linear : {k : ℕ} → (Bits k → Bool) → Type 0
Linear {k} g = (s t : Bits k) → g (s ⊞ t) ≡ g s ⊕ g t

-- S has one of 0, .., m - 1
abbrev pub NonEmpty : ℕ → (ℕ → Bool) → Type 0
NonEmpty m S = (i : ℕ) × (i < m) × (S i ≡ true)

-- ---- cells: `out i s` is the output bit i from the state s of k bits

module _ {k : ℕ} (out : ℕ → Bits k → Bool) where
  -- how many states have the pattern p 0, .., p (m - 1) for their first m output bits
  unfoldable pub hits : ℕ → (ℕ → Bool) → ℕ
  hits m p = count (λ s. agree m (λ i. out i s) p)

  -- every pattern of m bits comes from equally many states
  abbrev pub Equidistributed : ℕ → Type 0
  Equidistributed m = (p q : ℕ → Bool) → hits m p ≡ hits m q

  -- the same, counted out: does each of the 2 ^ m patterns come from as many states as the pattern of zeros?
  unfoldable pub evenly : ℕ → Bool
  evenly m = every {k = m} (λ p. eqb (hits m (bit p)) (hits m (λ _. false)))

  -- those of the first m output bits that S has add up to zero, whatever the state
  abbrev pub Cancels : ℕ → (ℕ → Bool) → Type 0
  Cancels m S = (s : Bits k) → xorsum m (λ i. S i && out i s) ≡ false

  -- S is a dependent set of output bits that ends at d: it has d, and what it has up to d cancels
  pub record Dependent (d : ℕ) (S : ℕ → Bool) : Type 0 where
    pub last : S d ≡ true
    pub cancels : Cancels (suc d) S

  -- no dependent set ends below m
  abbrev pub Independent : ℕ → Type 0
  Independent m = (d : ℕ) → d < m → (S : ℕ → Bool) → ¬ Dependent d S

-- ---- rows of k bits

-- v is a sum of some of the rows R 0, .., R (n - 1)
pub record Spanned (k n : ℕ) (R : ℕ → ℕ → Bool) (v : ℕ → Bool) : Type 0 where
  pub chosen : ℕ → Bool
  pub sum : (b : ℕ) → b < k → v b ≡ xorsum n (λ i. chosen i && R i b)

-- The rows R 0, .., R (n - 1) are in reduced row echelon form: `lead i` is the lowest-numbered bit of the row i,
-- these leading bits rise, and no other row has a leading bit set. (So no row is zero.)
pub record Reduced (k n : ℕ) (R : ℕ → ℕ → Bool) (lead : ℕ → ℕ) : Type 0 where
  pub inside : (i : ℕ) → i < n → lead i < k
  pub set : (i : ℕ) → i < n → R i (lead i) ≡ true
  pub lowest : (i : ℕ) → i < n → (b : ℕ) → b < lead i → R i b ≡ false
  pub rising : (i j : ℕ) → i < j → j < n → lead i < lead j
  pub alone : (i j : ℕ) → i < n → j < n → ¬ (j ≡ i) → R j (lead i) ≡ false

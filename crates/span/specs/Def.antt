-- Rows of bits, each a function ℕ → Bool that is read below a bound: dependent sets of them, what elimination makes of them, and the output bits
-- that they stand for. Definitions only.
use Rattle.std.specs.Prelude.{◌≡◌, Bool, true, false, ◌&&◌, ℕ, suc, ◌+◌, ◌<◌, ◌≤◌}
use Rattle.theory.specs.Def.{◌⊕◌, xorsum, unit, pair, Bits, bit, Equidistributed, Dependent, Spanned}
use Rattle.digits.specs.Def.{Word}

-- S is a dependent set of rows that ends at d: it has d, and the rows up to d that it has add up to zero in their first L bits
pub record DependentRows (L : ℕ) (row : ℕ → Word) (d : ℕ) (S : ℕ → Bool) : Type 0 where
  pub last : S d ≡ true
  pub cancels : (i : ℕ) → i < L → xorsum (suc d) (λ p. S p && row p i) ≡ false

-- no dependent set of rows ends below m
abbrev pub IndependentRows : ℕ → (ℕ → Word) → ℕ → Type 0
IndependentRows L row m = (d : ℕ) → d < m → (S : ℕ → Bool) → ¬ DependentRows L row d S

-- no bit of ρ below L is set
abbrev pub Zero : ℕ → Word → Type 0
Zero L ρ = (i : ℕ) → i < L → ρ i ≡ false

-- ---- elimination, row by row

-- in their first W bits, σ is ρ with some of the first n rows added
pub record Plus (W n : ℕ) (row : ℕ → Word) (ρ σ : Word) : Type 0 where
  pub chosen : ℕ → Bool
  pub sum : (i : ℕ) → i < W → σ i ≡ ρ i ⊕ xorsum n (λ p. chosen p && row p i)

-- row p of `new` is row p of `old` with some of the rows of `new` before it added
abbrev pub Made : ℕ → (ℕ → Word) → (ℕ → Word) → ℕ → Type 0
Made W old new p = Plus W p new (old p) (new p)

-- b is the leading bit of ρ, the lowest that is set of its first L bits; or L, if none is set
pub record Leading (L : ℕ) (ρ : Word) (b : ℕ) : Type 0 where
  pub within : b ≤ L
  pub set : b < L → ρ b ≡ true
  pub lower : Zero b ρ

-- each of the first n rows has a leading bit of its own, and slot b is p + 1 where b is that of the row p, and 0 where it is nobody's
pub record Slotted (L n : ℕ) (row : ℕ → Word) (slot : ℕ → ℕ) : Type 0 where
  pub lead : ℕ → ℕ
  pub place : (p : ℕ) → p < n → lead p < L
  pub leading : (p : ℕ) → p < n → Leading L (row p) (lead p)
  pub own : (p : ℕ) → p < n → slot (lead p) ≡ suc p
  pub taken : (b p : ℕ) → b < L → slot b ≡ suc p → (p < n) × (lead p ≡ b)

-- the first m rows of `new` are made from those of `old`, and the first n of `new` have leading bits of their own
pub record Eliminated (L W n m : ℕ) (old new : ℕ → Word) (slot : ℕ → ℕ) : Type 0 where
  pub made : (p : ℕ) → p < m → Made W old new p
  pub slotted : Slotted L n new slot

-- each of the first n rows carries the set of itself alone, as T bits behind its first L
abbrev pub Tagged : ℕ → ℕ → ℕ → (ℕ → Word) → Type 0
Tagged L T n row = (p q : ℕ) → p < n → q < T → row p (L + q) ≡ unit p q

-- ---- the reduced row echelon form, column by column

-- The first `rank` rows are in reduced row echelon form, with leading bits below c, which none of the n rows but their own have; the others have
-- no bit below c; and the n rows have, in W bits, the sums that they had.
pub record Reducing (W n : ℕ) (old : ℕ → Word) (c rank : ℕ) (row : ℕ → Word) : Type 0 where
  pub lead : ℕ → ℕ
  pub few : rank ≤ n
  pub inside : (p : ℕ) → p < rank → lead p < c
  pub set : (p : ℕ) → p < rank → row p (lead p) ≡ true
  pub lowest : (p : ℕ) → p < rank → Zero (lead p) (row p)
  pub rising : (p q : ℕ) → p < q → q < rank → lead p < lead q
  pub alone : (p q : ℕ) → p < rank → q < n → ¬ (q ≡ p) → row q (lead p) ≡ false
  pub rest : (q : ℕ) → rank ≤ q → q < n → Zero c (row q)
  pub from : (p : ℕ) → p < n → Spanned W n old (row p)
  pub back : (p : ℕ) → p < n → Spanned W n row (old p)

-- row r becomes ρ, and ρ is added to each other row that has the bit c
pub record Swept (W n r c : ℕ) (row : ℕ → Word) (ρ : Word) (new : ℕ → Word) : Type 0 where
  pub here : (i : ℕ) → i < W → new r i ≡ ρ i
  pub others : (q : ℕ) → q < n → ¬ (q ≡ r) → (i : ℕ) → i < W → new q i ≡ row q i ⊕ row q c && ρ i

-- ---- output bits

-- the first n rows stand for the first n output bits: each output bit is the sum of the state bits that its row has
pub record RowsOf {k : ℕ} (L n : ℕ) (row : ℕ → Word) (out : ℕ → Bits k → Bool) : Type 0 where
  pub fits : k ≤ L
  pub clear : (p : ℕ) → p < n → (i : ℕ) → k ≤ i → i < L → row p i ≡ false
  pub is : (p : ℕ) → p < n → (s : Bits k) → pair k (row p) (bit s) ≡ out p s

-- S is the one dependent set of output bits that ends at d, and none ends before: m output bits are equidistributed just where m ≤ d
pub record FirstSet {k : ℕ} (out : ℕ → Bits k → Bool) (d : ℕ) (S : ℕ → Bool) : Type 0 where
  pub set : Dependent out d S
  pub only : (R : ℕ → Bool) → Dependent out d R → (i : ℕ) → i < suc d → R i ≡ S i
  pub even : (m : ℕ) → m ≤ d → Equidistributed out m
  pub uneven : (m : ℕ) → d < m → ¬ Equidistributed out m

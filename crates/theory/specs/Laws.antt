-- Laws of bits, sums, patterns, states and counts.
use Rattle.std.specs.Prelude.{◌≡◌, refl, Bool, true, false, not, ◌&&◌, cond, ◌⊎◌, ℕ, zero, suc, ◌+◌, ◌^◌, ◌≤◌, ◌<◌}
use Rattle.std.proofs.Common.{sym, ap, ap₂, ◌∙◌, inl, inr, add_comm, arith}
use Rattle.std.proofs.Math.Path.{fun_ext}
use Rattle.std.proofs.lemmas.Bool.{false≢true}
use Rattle.std.proofs.Math.Bool.{and_comm}
use Rattle.std.proofs.Math.Nat.{two-pow-succ}
use Rattle.std.proofs.Math.Decide.{ℕ_discrete}
use Rattle.theory.specs.Def.{◌⊕◌, xorsum, Bits, [], ◌▹◌, bit, tabulate, zeros, ◌⊞◌, count, every, agree, Linear}

-- ---- two, three, four bits

pub ⊕_assoc : (a b c : Bool) → a ⊕ b ⊕ c ≡ a ⊕ (b ⊕ c)
⊕_assoc true true true = refl
⊕_assoc true true false = refl
⊕_assoc true false c = refl
⊕_assoc false b c = refl

pub ⊕_comm : (a b : Bool) → a ⊕ b ≡ b ⊕ a
⊕_comm true true = refl
⊕_comm true false = refl
⊕_comm false true = refl
⊕_comm false false = refl

pub ⊕_self : (a : Bool) → a ⊕ a ≡ false
⊕_self true = refl
⊕_self false = refl

pub ⊕_false : (a : Bool) → a ⊕ false ≡ a
⊕_false true = refl
⊕_false false = refl

pub not-⊕_true : (a : Bool) → not (a ⊕ true) ≡ a
not-⊕_true true = refl
not-⊕_true false = refl

pub ⊕-left_comm : (a b c : Bool) → a ⊕ (b ⊕ c) ≡ b ⊕ (a ⊕ c)
⊕-left_comm a b c = sym (⊕_assoc a b c) ∙ rw (⊕_comm a b) (⊕_assoc b a c)

pub ⊕_cancel : (a b : Bool) → a ⊕ (a ⊕ b) ≡ b
⊕_cancel a b = sym (⊕_assoc a a b) ∙ rw ⊕_self

-- `simp xor-ac` sorts a sum of bits and leaves out what stands in it twice
pub ruleset xor-ac = (⊕_assoc, ⊕_comm, ⊕-left_comm, ⊕_self, ⊕_cancel, ⊕_false)

pub ⊕_swap : (a b c d : Bool) → a ⊕ b ⊕ (c ⊕ d) ≡ a ⊕ c ⊕ (b ⊕ d)
⊕_swap a b c d = simp xor-ac

pub ⊕_same : {a b : Bool} → a ⊕ b ≡ false → a ≡ b
⊕_same {a} {b} e = sym (⊕_false a) ∙ rw (← e) (⊕_cancel a b)

pub and-⊕ : (a b c : Bool) → (a && (b ⊕ c)) ≡ a && b ⊕ a && c
and-⊕ true b c = refl
and-⊕ false b c = refl

pub ⊕-and : (a b c : Bool) → ((a ⊕ b) && c) ≡ a && c ⊕ b && c
⊕-and a b c = and_comm (a ⊕ b) c ∙ and-⊕ c a b ∙ ap₂ ◌⊕◌ (and_comm c a) (and_comm c b)

pub and_true_l : (a b : Bool) → (a && b) ≡ true → a ≡ true
and_true_l true b e = refl
and_true_l false b e = e

pub and_true_r : (a b : Bool) → (a && b) ≡ true → b ≡ true
and_true_r true b e = e
and_true_r false b e = absurd (false≢true e)

not_inj : {a : Bool} → not a ≡ true → a ≡ false
not_inj {a = true} e = sym e
not_inj {a = false} e = refl

-- ---- what holds below a bound

pub below_suc : (m : ℕ) (A : ℕ → Type 0) → ((i : ℕ) → i < m → A i) → A m → (i : ℕ) → i < suc m → A i
below_suc m A f a i h = elim (ℕ_discrete i m) [ yes e ↦ rw e a | no n ↦ f i (omega arith) ]

-- c below m, and b from m on
pub put : ℕ → (ℕ → Bool) → Bool → ℕ → Bool
put zero c b i = b
put (suc m) c b zero = c zero
put (suc m) c b (suc i) = put m (λ j. c (suc j)) b i

pub put_below : (m : ℕ) (c : ℕ → Bool) (b : Bool) (i : ℕ) → i < m → put m c b i ≡ c i
unfolding put
put_below zero c b i h = absurd (omega arith)
put_below (suc m) c b zero h = refl
put_below (suc m) c b (suc i) h = put_below m (λ j. c (suc j)) b i (omega arith)

pub put_from : (m : ℕ) (c : ℕ → Bool) (b : Bool) (i : ℕ) → m ≤ i → put m c b i ≡ b
unfolding put
put_from zero c b i h = refl
put_from (suc m) c b zero h = absurd (omega arith)
put_from (suc m) c b (suc i) h = put_from m (λ j. c (suc j)) b i (omega arith)

pub put_at : (m : ℕ) (c : ℕ → Bool) (b : Bool) → put m c b m ≡ b
put_at m c b = put_from m c b m (omega arith)

-- ---- sums

pub xorsum-⊕ : (n : ℕ) (f g : ℕ → Bool) → xorsum n (λ i. f i ⊕ g i) ≡ xorsum n f ⊕ xorsum n g
unfolding xorsum
xorsum-⊕ zero f g = refl
xorsum-⊕ (suc n) f g = rw (xorsum-⊕ n f g) (⊕_swap (xorsum n f) (xorsum n g) (f n) (g n))

pub xorsum_cong : (n : ℕ) (f g : ℕ → Bool) → ((i : ℕ) → i < n → f i ≡ g i) → xorsum n f ≡ xorsum n g
unfolding xorsum
xorsum_cong zero f g h = refl
xorsum_cong (suc n) f g h = ap₂ ◌⊕◌ (xorsum_cong n f g (λ i l. h i (omega arith))) (h n (omega arith))

pub xorsum-none : (n : ℕ) (f : ℕ → Bool) → ((i : ℕ) → i < n → f i ≡ false) → xorsum n f ≡ false
unfolding xorsum
xorsum-none zero f h = refl
xorsum-none (suc n) f h = ap₂ ◌⊕◌ (xorsum-none n f (λ i l. h i (omega arith))) (h n (omega arith))

-- a sum of which only the term i may be set
pub xorsum_pick : (n : ℕ) (f : ℕ → Bool) (i : ℕ) → i < n → ((j : ℕ) → j < n → ¬ (j ≡ i) → f j ≡ false) → xorsum n f ≡ f i
unfolding xorsum
xorsum_pick zero f i l h = absurd (omega arith)
xorsum_pick (suc n) f i l h = elim (ℕ_discrete n i) [
  | yes e ↦ ap₂ ◌⊕◌ (xorsum-none n f (λ j k. h j (omega arith) (omega arith))) (ap f e)
  | no d ↦ ap₂ ◌⊕◌ (xorsum_pick n f i (omega arith) (λ j k. h j (omega arith))) (h n (omega arith) d) ∙ ⊕_false (f i)
]

-- ---- patterns

pub agree_intro : (m : ℕ) (p q : ℕ → Bool) → ((i : ℕ) → i < m → p i ≡ q i) → agree m p q ≡ true
unfolding agree
agree_intro zero p q h = refl
agree_intro (suc m) p q h = rw (agree_intro m p q (λ i l. h i (omega arith)), h m (omega arith), ⊕_self)

pub agree_elim : (m : ℕ) (p q : ℕ → Bool) → agree m p q ≡ true → (i : ℕ) → i < m → p i ≡ q i
unfolding agree
agree_elim zero p q e = λ i h. absurd (omega arith)
agree_elim (suc m) p q e =
    below_suc m (λ i. p i ≡ q i) (agree_elim m p q (and_true_l (agree m p q) (not (p m ⊕ q m)) e))
    (⊕_same (not_inj (and_true_r (agree m p q) (not (p m ⊕ q m)) e)))

pub agree_cong : (m : ℕ) (a p q : ℕ → Bool) → ((i : ℕ) → i < m → p i ≡ q i) → agree m a p ≡ agree m a q
unfolding agree
agree_cong zero a p q h = refl
agree_cong (suc m) a p q h = ap₂ (λ x y. x && not (a m ⊕ y)) (agree_cong m a p q (λ i l. h i (omega arith))) (h m (omega arith))

pub agree_shift : (m : ℕ) (a c p q : ℕ → Bool) → ((i : ℕ) → i < m → c i ≡ p i ⊕ q i) → agree m (λ i. a i ⊕ c i) p ≡ agree m a q
unfolding agree
agree_shift zero a c p q h = refl
agree_shift (suc m) a c p q h = rw (h m (omega arith)) (ap₂ ◌&&◌ (agree_shift m a c p q (λ i l. h i (omega arith))) (simp xor-ac))

-- ---- states

pub ⊞-zeros : (k : ℕ) → zeros k ⊞ zeros k ≡ zeros k
unfolding ◌⊞◌ zeros
⊞-zeros zero = refl
⊞-zeros (suc k) = ap (λ s. false ▹ s) (⊞-zeros k)

pub linear_zeros : {k : ℕ} (g : Bits k → Bool) → Linear g → g (zeros k) ≡ false
linear_zeros {k} g l = ap g (sym (⊞-zeros k)) ∙ l (zeros k) (zeros k) ∙ ⊕_self (g (zeros k))

pub linear_⊕ : {k : ℕ} (g h : Bits k → Bool) → Linear g → Linear h → Linear (λ s. g s ⊕ h s)
linear_⊕ g h l r s t = rw (l s t, r s t) (⊕_swap (g s) (g t) (h s) (h t))

-- ---- counts

-- a row that passes the test, or none
abbrev pub Found : {k : ℕ} → (Bits k → Bool) → Type 0
Found {k} P = ((s : Bits k) × (P s ≡ true)) ⊎ ((s : Bits k) → P s ≡ false)

of_empty : (P : Bits zero → Bool) → P [] ≡ false → (s : Bits zero) → P s ≡ false
of_empty P e [] = e

of_halves : {k : ℕ} (P : Bits (suc k) → Bool) → ((s : Bits k) → P (false ▹ s) ≡ false) → ((s : Bits k) → P (true ▹ s) ≡ false) → (s : Bits (suc k))
    → P s ≡ false
of_halves P h g (false ▹ s) = h s
of_halves P h g (true ▹ s) = g s

find_nil : (P : Bits zero → Bool) (b : Bool) → P [] ≡ b → Found P
find_nil P true e = inl ([], e)
find_nil P false e = inr (of_empty P e)

find_cons : {k : ℕ} (P : Bits (suc k) → Bool) → Found (λ s. P (false ▹ s)) → Found (λ s. P (true ▹ s)) → Found P
find_cons P (inl (s, e)) d = inl (false ▹ s, e)
find_cons P (inr h) (inl (s, e)) = inl (true ▹ s, e)
find_cons P (inr h) (inr g) = inr (of_halves P h g)

pub find : {k : ℕ} (P : Bits k → Bool) → Found P
find {k = zero} P = find_nil P (P []) refl
find {k = suc k} P = find_cons P (find (λ s. P (false ▹ s))) (find (λ s. P (true ▹ s)))

pub count_cong : {k : ℕ} (P Q : Bits k → Bool) → ((s : Bits k) → P s ≡ Q s) → count P ≡ count Q
count_cong P Q h = ap count (fun_ext h)

-- adding t to every row is a permutation of the rows
pub count_shift : {k : ℕ} (P : Bits k → Bool) (t : Bits k) → count (λ s. P (s ⊞ t)) ≡ count P
unfolding count ◌⊞◌
count_shift P [] = refl
count_shift P (false ▹ t) = ap₂ ◌+◌ (count_shift (λ s. P (false ▹ s)) t) (count_shift (λ s. P (true ▹ s)) t)
count_shift P (true ▹ t) = ap₂ ◌+◌ (count_shift (λ s. P (true ▹ s)) t) (count_shift (λ s. P (false ▹ s)) t) ∙ add_comm _ _

pub count_pos : {k : ℕ} (P : Bits k → Bool) (s : Bits k) → P s ≡ true → 0 < count P
unfolding count
count_pos P [] e = rw e (omega arith)
count_pos P (false ▹ s) e = omega (arith, count_pos (λ r. P (false ▹ r)) s e)
count_pos P (true ▹ s) e = omega (arith, count_pos (λ r. P (true ▹ r)) s e)

count_none : {k : ℕ} (P : Bits k → Bool) → ((s : Bits k) → P s ≡ false) → count P ≡ 0
unfolding count
count_none {k = zero} P h = rw (h [])
count_none {k = suc k} P h = omega (arith, count_none (λ r. P (false ▹ r)) (λ s. h (false ▹ s)), count_none (λ r. P (true ▹ r)) (λ s. h (true ▹ s)))

pub count_found : {k : ℕ} (P : Bits k → Bool) → 0 < count P → (s : Bits k) × (P s ≡ true)
count_found P h = elim (find P) [ inl r ↦ r | inr g ↦ absurd (omega (arith, count_none P g)) ]

pub count-all : (k : ℕ) → count {k = k} (λ _. true) ≡ 2 ^ k
unfolding count
count-all zero = refl
count-all (suc k) = omega (arith, count-all k, two-pow-succ k)

-- those that pass P are those that pass P and g, and those that pass P and not g
pub count_split : {k : ℕ} (P g : Bits k → Bool) → count P ≡ count (λ s. P s && not (g s)) + count (λ s. P s && g s)
unfolding count
count_split {k = zero} P g = table (P []) (g [])
  where
    table : (x y : Bool) → ◌≡◌ {A = ℕ} (cond x 1 0) (cond (x && not y) 1 0 + cond (x && y) 1 0)
    table true true = refl
    table true false = refl
    table false y = refl
count_split {k = suc k} P g = omega (arith, count_split (λ s. P (false ▹ s)) (λ s. g (false ▹ s)), count_split (λ s. P (true ▹ s)) (λ s. g (true ▹ s)))

-- ---- states against functions

pub bit-⊞ : {k : ℕ} (s t : Bits k) (b : ℕ) → bit (s ⊞ t) b ≡ bit s b ⊕ bit t b
unfolding bit ◌⊞◌
bit-⊞ [] [] b = refl
bit-⊞ (x ▹ s) (y ▹ t) zero = refl
bit-⊞ (x ▹ s) (y ▹ t) (suc b) = bit-⊞ s t b

pub bit-tabulate : (k : ℕ) (f : ℕ → Bool) (b : ℕ) → b < k → bit (tabulate k f) b ≡ f b
unfolding bit tabulate
bit-tabulate zero f b h = absurd (omega arith)
bit-tabulate (suc k) f zero h = refl
bit-tabulate (suc k) f (suc b) h = bit-tabulate k (λ j. f (suc j)) b (omega arith)

pub bit_past : {k : ℕ} (s : Bits k) (b : ℕ) → k ≤ b → bit s b ≡ false
unfolding bit
bit_past [] b h = refl
bit_past (x ▹ s) zero h = absurd (omega arith)
bit_past (x ▹ s) (suc b) h = bit_past s b (omega arith)

-- ---- a test passed by every state

pub every_intro : {k : ℕ} (P : Bits k → Bool) → ((s : Bits k) → P s ≡ true) → every P ≡ true
unfolding every
every_intro {k = zero} P h = h []
every_intro {k = suc k} P h = ap₂ ◌&&◌ (every_intro (λ s. P (false ▹ s)) (λ s. h (false ▹ s))) (every_intro (λ s. P (true ▹ s)) (λ s. h (true ▹ s)))

pub every_elim : {k : ℕ} (P : Bits k → Bool) → every P ≡ true → (s : Bits k) → P s ≡ true
unfolding every
every_elim P e [] = e
every_elim P e (false ▹ s) = every_elim (λ s. P (false ▹ s)) (and_true_l _ (every (λ s. P (true ▹ s))) e) s
every_elim P e (true ▹ s) = every_elim (λ s. P (true ▹ s)) (and_true_r (every (λ s. P (false ▹ s))) _ e) s

-- Sums of bits, cut and joined; the sum that a row stands for.
use Rattle.std.specs.Prelude.{◌≡◌, refl, Bool, true, false, ◌&&◌, ℕ, zero, suc, ◌+◌, ◌-◌, ◌≤◌, ◌<◌}
use Rattle.std.proofs.Common.{sym, ap, ap₂, ◌∙◌, add-suc, add-zero, arith, eq-eqb, ne_eqb}
use Rattle.std.proofs.Math.Bool.{and-false, and-true, and_comm}
use Rattle.theory.specs.Def.{◌⊕◌, xorsum, unit, pair}
use Rattle.theory.specs.Laws.{⊕_assoc, ⊕_comm, ⊕_false, ⊕-and, and-⊕, put, put_below, put_at, xorsum-⊕, xorsum_cong, xorsum-none, xorsum_pick}

-- ---- sums

pub xorsum-append : (m n : ℕ) (f : ℕ → Bool) → xorsum (m + n) f ≡ xorsum m f ⊕ xorsum n (λ i. f (m + i))
unfolding xorsum
xorsum-append m zero f = rw add-zero (sym (⊕_false (xorsum m f)))
xorsum-append m (suc n) f = rw (add-suc, xorsum-append m n f) (⊕_assoc (xorsum m f) (xorsum n (λ i. f (m + i))) (f (m + n)))

-- the first term apart
pub xorsum_head : (n : ℕ) (f : ℕ → Bool) → xorsum (suc n) f ≡ f 0 ⊕ xorsum n (λ i. f (suc i))
unfolding xorsum
xorsum_head zero f = sym (⊕_false (f 0))
xorsum_head (suc n) f = rw (xorsum_head n f) (⊕_assoc (f 0) (xorsum n (λ i. f (suc i))) (f (suc n)))

-- a sum backwards
pub xorsum_rev : (n : ℕ) (f : ℕ → Bool) → xorsum n (λ i. f (n - suc i)) ≡ xorsum n f
unfolding xorsum
xorsum_rev zero f = refl
xorsum_rev (suc n) f =
    let e : suc n - suc n ≡ 0 = omega arith in
    rw e
    (⊕_comm (xorsum n (λ i. f (suc n - suc i))) (f 0)
    ∙ ap (λ x. f 0 ⊕ x)
    (xorsum_cong n (λ i. f (suc n - suc i)) (λ i. f (suc (n - suc i))) (λ i h. let g : suc n - suc i ≡ suc (n - suc i) = omega arith in ap f g)
    ∙ xorsum_rev n (λ i. f (suc i)))
    ∙ sym (xorsum_head n f))

-- a sum whose terms from m on are zero
pub xorsum_cut : (m n : ℕ) (f : ℕ → Bool) → m ≤ n → ((i : ℕ) → m ≤ i → i < n → f i ≡ false) → xorsum n f ≡ xorsum m f
xorsum_cut m n f l h =
    let e : n ≡ m + (n - m) = omega arith in
    ap (λ x. xorsum x f) e ∙ xorsum-append m (n - m) f
    ∙ ap (λ x. xorsum m f ⊕ x) (xorsum-none (n - m) (λ i. f (m + i)) (λ i k. h (m + i) (omega arith) (omega arith))) ∙ ⊕_false (xorsum m f)

-- a common factor
pub xorsum-times : (n : ℕ) (f : ℕ → Bool) (c : Bool) → xorsum n (λ i. f i && c) ≡ (xorsum n f && c)
xorsum-times n f true = xorsum_cong n _ f (λ i _. and-true (f i)) ∙ sym (and-true (xorsum n f))
xorsum-times n f false = xorsum-none n _ (λ i _. and-false (f i)) ∙ sym (and-false (xorsum n f))

pub xorsum_scale : (n : ℕ) (b : Bool) (c f : ℕ → Bool) → xorsum n (λ p. (b && c p) && f p) ≡ (b && xorsum n (λ p. c p && f p))
xorsum_scale n true c f = refl
xorsum_scale n false c f = xorsum-none n _ (λ p _. refl)

-- one more row, chosen or not
pub xorsum_put : (n : ℕ) (c : ℕ → Bool) (b : Bool) (f : ℕ → Bool) → xorsum (suc n) (λ p. put n c b p && f p) ≡ xorsum n (λ p. c p && f p) ⊕ b && f n
unfolding xorsum
xorsum_put n c b f = ap₂ ◌⊕◌ (xorsum_cong n _ _ (λ p h. rw (put_below n c b p h))) (rw (put_at n c b))

-- ---- the sum that a row stands for

pub unit_at : (i : ℕ) → unit i i ≡ true
unfolding unit
unit_at i = eq-eqb i i refl

pub unit_other : (i j : ℕ) → ¬ (j ≡ i) → unit i j ≡ false
unfolding unit
unit_other i j n = ne_eqb j i n

pub pair-sum : (k : ℕ) (ρ σ s : ℕ → Bool) → pair k (λ b. ρ b ⊕ σ b) s ≡ pair k ρ s ⊕ pair k σ s
unfolding pair
pair-sum k ρ σ s = xorsum_cong k _ _ (λ b _. ⊕-and (ρ b) (σ b) (s b)) ∙ xorsum-⊕ k (λ b. ρ b && s b) (λ b. σ b && s b)

pub pair-sum_r : (k : ℕ) (ρ s t : ℕ → Bool) → pair k ρ (λ b. s b ⊕ t b) ≡ pair k ρ s ⊕ pair k ρ t
unfolding pair
pair-sum_r k ρ s t = xorsum_cong k _ _ (λ b _. and-⊕ (ρ b) (s b) (t b)) ∙ xorsum-⊕ k (λ b. ρ b && s b) (λ b. ρ b && t b)

pub pair_comm : (k : ℕ) (ρ s : ℕ → Bool) → pair k ρ s ≡ pair k s ρ
unfolding pair
pair_comm k ρ s = xorsum_cong k _ _ (λ b _. and_comm (ρ b) (s b))

pub pair_same : (k : ℕ) (ρ σ s t : ℕ → Bool) → ((b : ℕ) → b < k → ρ b ≡ σ b) → ((b : ℕ) → b < k → s b ≡ t b) → pair k ρ s ≡ pair k σ t
unfolding pair
pair_same k ρ σ s t e f = xorsum_cong k _ _ (λ b h. ap₂ ◌&&◌ (e b h) (f b h))

pub pair-none : (k : ℕ) (ρ s : ℕ → Bool) → ((b : ℕ) → b < k → ρ b ≡ false) → pair k ρ s ≡ false
unfolding pair
pair-none k ρ s h = xorsum-none k _ (λ b l. rw (h b l))

pub pair-append : (m n : ℕ) (ρ s : ℕ → Bool) → pair (m + n) ρ s ≡ pair m ρ s ⊕ pair n (λ b. ρ (m + b)) (λ b. s (m + b))
unfolding pair
pair-append m n ρ s = xorsum-append m n (λ b. ρ b && s b)

pub pair_cut : (m n : ℕ) (ρ s : ℕ → Bool) → m ≤ n → ((b : ℕ) → m ≤ b → b < n → ρ b ≡ false) → pair n ρ s ≡ pair m ρ s
unfolding pair
pair_cut m n ρ s l c = xorsum_cut m n (λ b. ρ b && s b) l (λ b h k. rw (c b h k))

pub pair_scale : (k : ℕ) (b : Bool) (ρ s : ℕ → Bool) → pair k (λ i. b && ρ i) s ≡ (b && pair k ρ s)
pair_scale k true ρ s = refl
pair_scale k false ρ s = pair-none k _ s (λ _ _. refl)

-- the bit b of a row is its sum at the state that has the bit b alone
pub pair-unit : (k b : ℕ) (ρ : ℕ → Bool) → b < k → pair k ρ (unit b) ≡ ρ b
unfolding pair
pair-unit k b ρ h =
    xorsum_pick k _ b h (λ j l n. rw (unit_other b j n) (and-false (ρ j)))
    ∙ rw (unit_at b) (and-true (ρ b))

-- the sum at a sum of rows
pub pair-rows : (k m : ℕ) (S : ℕ → Bool) (R : ℕ → ℕ → Bool) (s : ℕ → Bool) → pair k (λ b. xorsum m (λ p. S p && R p b)) s ≡ xorsum m (λ p. S p && pair k (R p) s)
unfolding xorsum
pair-rows k zero S R s = pair-none k _ s (λ _ _. refl)
pair-rows k (suc m) S R s =
    pair-sum k (λ b. xorsum m (λ p. S p && R p b)) (λ b. S m && R m b) s ∙ ap₂ ◌⊕◌ (pair-rows k m S R s) (pair_scale k (S m) (R m) s)

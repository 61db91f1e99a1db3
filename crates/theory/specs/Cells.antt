-- The proofs of what is said of cells: dependent sets, and the counting theorem. (`proofs/Counting.antt` has the counts.)
use Rattle.std.specs.Prelude.{◌≡◌, ◌&&◌, ◌⊎◌, ◌↔◌}
use Rattle.std.proofs.Math.Path.{refl, sym, ap, ap₂, fun_ext}
use Rattle.std.proofs.Common.{◌∙◌, le_refl, arith}
use Rattle.std.proofs.Math.Bool.{Bool, true, false, true≢false, and-false}
use Rattle.std.proofs.Math.Logic.{inl, inr}
use Prim.Native.Nat.{ℕ, zero, suc, ◌<◌}
use Rattle.std.proofs.Math.Decide.{ℕ_discrete}
use Rattle.theory.specs.Def.{◌⊕◌, xorsum, Bits, zeros, ◌⊞◌, agree, Linear, hits, Equidistributed, Cancels, NonEmpty, Dependent, Independent}
use Rattle.theory.specs.Laws.{⊕_comm, ⊕_self, ⊕_false, ⊕_cancel, ⊕_same, ⊕-and, xor-ac, below_suc, put, put_below, put_from, put_at, xorsum-⊕, xorsum_cong, xorsum-none}
use Rattle.theory.specs.Laws.{agree_intro, agree_elim, agree_shift, linear_zeros, linear_⊕, find, count_cong, count_shift, count_pos, count_found}

module _ {k : ℕ} (out : ℕ → Bits k → Bool) where
  -- ---- dependent sets

  -- where no dependent set ends below m, a set that cancels is empty
  pub cancels_empty : (m : ℕ) → Independent out m → (S : ℕ → Bool) → Cancels out m S → (i : ℕ) → i < m → S i ≡ false
  unfolding xorsum
  cancels_empty zero I S c = λ i h. absurd (omega arith)
  cancels_empty (suc m) I S c = go (cancels_empty m (λ d h. I d (omega arith)) S) (S m) refl
    where
      go : (Cancels out m S → (i : ℕ) → i < m → S i ≡ false) → (b : Bool) → S m ≡ b → (i : ℕ) → i < suc m → S i ≡ false
      go f true e = absurd (I m (le_refl (suc m)) S (record { last = e; cancels = c }))
      go f false e = below_suc m (λ i. S i ≡ false) (f (λ s. simp (e, ⊕_false) at (c s))) e

  -- the last bit of a dependent set is the sum of the others
  pub last_is_sum : (d : ℕ) (S : ℕ → Bool) → Dependent out d S → (s : Bits k) → xorsum d (λ i. S i && out i s) ≡ out d s
  unfolding xorsum
  last_is_sum d S p s = ⊕_same (rw p.last at (p.cancels s))

  pub unique : (d : ℕ) → Independent out d → (S T : ℕ → Bool) → Dependent out d S → Dependent out d T → (i : ℕ) → i < suc d → S i ≡ T i
  unique d I S T p q = below_suc d (λ i. S i ≡ T i) (λ i h. ⊕_same (cancels_empty d I (λ i. S i ⊕ T i) both i h)) (p.last ∙ sym q.last)
    where
      both : Cancels out d (λ i. S i ⊕ T i)
      both s = simp (⊕-and, xorsum-⊕ d (λ i. S i && out i s) (λ i. T i && out i s), last_is_sum d S p s, last_is_sum d T q s, ⊕_self)

  -- a dependent set that ends below m, with nothing above its end, is a set below m that cancels
  cancels_put : (d : ℕ) (S : ℕ → Bool) → Cancels out (suc d) S → (m : ℕ) → d < m → Cancels out m (put (suc d) S false)
  unfolding xorsum
  cancels_put d S c zero h s = absurd (omega arith)
  cancels_put d S c (suc m) h s = elim (ℕ_discrete d m) [
    | yes e ↦ rw (← e) (xorsum_cong (suc d) (λ i. put (suc d) S false i && out i s) (λ i. S i && out i s) (λ i l. rw put_below) ∙ c s)
    | no n ↦ ap₂ ◌⊕◌ (cancels_put d S c m (omega arith) s) (ap (λ x. x && out m s) (put_from (suc d) S false m (omega arith)))
  ]

  pub independent_sets : (m : ℕ) → Independent out m ↔ ((S : ℕ → Bool) → NonEmpty m S → ¬ Cancels out m S)
  independent_sets m = (
    λ I S n c. true≢false (sym n.2 ∙ cancels_empty m I S c n.0 n.1),
    λ h d l S D. h (put (suc d) S false) (d, l, put_below (suc d) S false d (le_refl (suc d)) ∙ D.last) (cancels_put d S D.cancels m l),
  )

  -- ---- span or witness

  -- g is a sum of the first m output bits
  abbrev Summed : ℕ → (Bits k → Bool) → Type 0
  Summed m g = (c : ℕ → Bool) × ((s : Bits k) → g s ≡ xorsum m (λ i. c i && out i s))

  -- g is set in a state in which none of the first m output bits is
  abbrev Witnessed : ℕ → (Bits k → Bool) → Type 0
  Witnessed m g = (t : Bits k) × (g t ≡ true) × ((i : ℕ) → i < m → out i t ≡ false)

  summed_suc : (m : ℕ) (g : Bits k → Bool) (b : Bool) → Summed m (λ s. g s ⊕ b && out m s) → Summed (suc m) g
  unfolding xorsum
  summed_suc m g b (c, h) = (
    put m c b,
    λ s. sym (
        ap₂ (λ x y. x ⊕ y && out m s) (xorsum_cong m (λ i. put m c b i && out i s) (λ i. c i && out i s) (λ i l. rw put_below) ∙ sym (h s)) (put_at m c b)
        ∙ simp xor-ac
        ),
  )

  witnessed_suc : (m : ℕ) (g : Bits k → Bool) (t : Bits k) → g t ≡ true → ((i : ℕ) → i < m → out i t ≡ false) → out m t ≡ false → Witnessed (suc m) g
  witnessed_suc m g t e z o = (t, e, below_suc m (λ i. out i t ≡ false) z o)

  module _ (lin : (i : ℕ) → Linear (out i)) where
    -- the state t sets both g and the output m, and u sets one of them
    two : (m : ℕ) (g : Bits k → Bool) → Linear g → (t : Bits k) → g t ≡ true → ((i : ℕ) → i < m → out i t ≡ false) → out m t ≡ true
        → (u : Bits k) → g u ⊕ out m u ≡ true → ((i : ℕ) → i < m → out i u ≡ false) → (b : Bool) → out m u ≡ b → Witnessed (suc m) g
    two m g l t e z o u f y false q = witnessed_suc m g u (simp (q, ⊕_false) at f) y q
    two m g l t e z o u f y true q =
        witnessed_suc m g (t ⊞ u) (cc (l t u, ⊕_comm (g u) (out m u))) (λ i h. rw (lin i t u, z i h, y i h)) (rw (lin m t u, o, q))

    step : (m : ℕ) (g : Bits k → Bool) → Linear g → Summed m (λ s. g s ⊕ out m s) ⊎ Witnessed m (λ s. g s ⊕ out m s)
        → (t : Bits k) → g t ≡ true → ((i : ℕ) → i < m → out i t ≡ false) → (b : Bool) → out m t ≡ b → Summed (suc m) g ⊎ Witnessed (suc m) g
    step m g l r t e z false o = inr (witnessed_suc m g t e z o)
    step m g l (inl c) t e z true o = inl (summed_suc m g true c)
    step m g l (inr (u, f, y)) t e z true o = inr (two m g l t e z o u f y (out m u) refl)

    pub span_or_witness : (m : ℕ) (g : Bits k → Bool) → Linear g → Summed m g ⊎ Witnessed m g
    unfolding xorsum
    span_or_witness zero g l = elim (find g) [ inl (t, e) ↦ inr (t, e, λ i h. absurd (omega arith)) | inr h ↦ inl (λ _. false, h) ]
    span_or_witness (suc m) g l = elim (span_or_witness m g l) [
      | inl c ↦ inl (summed_suc m g false (c.0, λ s. simp ⊕_false (c.1 s)))
      | inr (t, e, z) ↦ step m g l (span_or_witness m (λ s. g s ⊕ out m s) (linear_⊕ g (out m) l (lin m))) t e z (out m t) refl
    ]

    summed_dependent : (m : ℕ) (c : Summed m (out m)) → Dependent out m (put m c.0 true)
    unfolding summed_suc
    summed_dependent m (c, h) = record { last = put_at m c true; cancels = λ s. sym ((summed_suc m (λ _. false) true (c, h)).1 s) }

    witnessed_independent : (m : ℕ) → Independent out m → Witnessed m (out m) → Independent out (suc m)
    witnessed_independent m I (t, o, z) = below_suc m (λ d. (S : ℕ → Bool) → ¬ Dependent out d S) I
        (λ S D. true≢false (sym o ∙ sym (last_is_sum m S D t) ∙ xorsum-none m (λ i. S i && out i t) (λ i l. rw (z i l, and-false))))

    -- the first m output bits are independent, or there is a first place where a dependent set ends
    pub first : (m : ℕ) → Independent out m ⊎ ((d : ℕ) × (d < m) × Independent out d × ((S : ℕ → Bool) × Dependent out d S))
    first zero = inl (λ d h. absurd (omega arith))
    first (suc m) = elim (first m) [
      | inl I ↦ elim (span_or_witness m (out m) (lin m)) [
        | inl c ↦ inr (m, le_refl (suc m), I, (put m c.0 true, summed_dependent m c))
        | inr w ↦ inl (witnessed_independent m I w)
      ]
      | inr (d, h, r, D) ↦ inr (d, omega arith, r, D)
    ]

    -- ---- equidistribution

    -- every pattern of the first m output bits has a state
    abbrev pub Solvable : ℕ → Type 0
    Solvable m = (p : ℕ → Bool) → (t : Bits k) × ((i : ℕ) → i < m → out i t ≡ p i)

    solvable_suc : (m : ℕ) → Solvable m → Witnessed m (out m) → Solvable (suc m)
    solvable_suc m f (t, o, z) p = go (f p) (out m (f p).0 ⊕ p m) refl
      where
        go : (r : (s : Bits k) × ((i : ℕ) → i < m → out i s ≡ p i)) (b : Bool) → out m r.0 ⊕ p m ≡ b → (s : Bits k) × ((i : ℕ) → i < suc m → out i s ≡ p i)
        go (s, h) false e = (s, below_suc m (λ i. out i s ≡ p i) h (⊕_same e))
        go (s, h) true e = (s ⊞ t, below_suc m (λ i. out i (s ⊞ t) ≡ p i) (λ i l. rw (lin i s t, h i l, z i l, ⊕_false)) (cc (lin m s t, ⊕_cancel (out m s) (p m))))

    pub independent_solvable : (m : ℕ) → Independent out m → Solvable m
    independent_solvable zero I = λ p. (zeros k, λ i h. absurd (omega arith))
    independent_solvable (suc m) I = elim (span_or_witness m (out m) (lin m)) [
      | inl c ↦ absurd (I m (le_refl (suc m)) (put m c.0 true) (summed_dependent m c))
      | inr w ↦ solvable_suc m (independent_solvable m (λ d h. I d (omega arith))) w
    ]

    pub solvable_equidistributed : (m : ℕ) → Solvable m → Equidistributed out m
    unfolding hits
    solvable_equidistributed m f p q =
        let (t, h) = f (λ i. p i ⊕ q i) in
        sym (count_shift (λ s. agree m (λ i. out i s) p) t)
        ∙ count_cong (λ s. agree m (λ i. out i (s ⊞ t)) p) (λ s. agree m (λ i. out i s) q)
        (λ s. ap (λ f. agree m f p) (fun_ext (λ i. lin i s t)) ∙ agree_shift m (λ i. out i s) (λ i. out i t) p q h)

    -- a pattern that is zero below d and one at d is reached, so no dependent set ends at d
    pub equidistributed_independent : (m : ℕ) → Equidistributed out m → Independent out m
    unfolding hits
    equidistributed_independent m E d h S D =
        let p : ℕ → Bool = put d (λ _. false) true in
        let none : 0 < hits out m (λ _. false) = count_pos (λ s. agree m (λ i. out i s) (λ _. false)) (zeros k) (agree_intro m _ _ (λ i l. linear_zeros (out i) (lin i))) in
        let (s, a) = count_found (λ s. agree m (λ i. out i s) p) (rw (E (λ _. false) p) at none) in
        let at : (i : ℕ) → i < m → out i s ≡ p i = agree_elim m (λ i. out i s) p a in
        true≢false (
        sym (at d h ∙ put_at d (λ _. false) true) ∙ sym (last_is_sum d S D s)
        ∙ xorsum-none d (λ i. S i && out i s) (λ i l. rw (at i (omega arith), put_below, and-false))
        )

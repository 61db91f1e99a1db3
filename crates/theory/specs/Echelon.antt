-- Spans, and the proof that a reduced row echelon form is unique.
use Rattle.std.specs.Prelude.{◌≡◌, refl, Bool, true, false, ◌&&◌, ◌⊎◌, ℕ, zero, suc, ◌≤◌, ◌<◌}
use Rattle.std.proofs.Common.{sym, ap₂, ◌∙◌, true≢false, inl, inr, le_refl, le_antisymm, arith}
use Rattle.std.proofs.Math.Bool.{and-false, and-true}
use Rattle.std.proofs.Math.Decide.{ℕ_discrete, dec_lt}
use Rattle.theory.specs.Def.{◌⊕◌, xorsum, Spanned, Reduced}
use Rattle.theory.specs.Laws.{⊕-and, below_suc, xorsum-⊕, xorsum_cong, xorsum-none, xorsum_pick}

-- ---- spans

spanned_none : (k m : ℕ) (Q : ℕ → ℕ → Bool) → Spanned k m Q (λ _. false)
spanned_none k m Q = record { chosen = λ _. false; sum = λ b _. sym (xorsum-none m _ (λ i _. refl)) }

pub spanned_add : (k m : ℕ) (Q : ℕ → ℕ → Bool) (u v : ℕ → Bool) → Spanned k m Q u → Spanned k m Q v → Spanned k m Q (λ b. u b ⊕ v b)
spanned_add k m Q u v x y =
    record {
      chosen = λ i. x.chosen i ⊕ y.chosen i;
      sum = λ b h.
          ap₂ ◌⊕◌ (x.sum b h) (y.sum b h)
          ∙ sym (xorsum_cong m _ _ (λ i _. ⊕-and (x.chosen i) (y.chosen i) (Q i b)) ∙ xorsum-⊕ m (λ i. x.chosen i && Q i b) (λ i. y.chosen i && Q i b));
    }

spanned_scale : (k m : ℕ) (Q : ℕ → ℕ → Bool) (c : Bool) (u : ℕ → Bool) → Spanned k m Q u → Spanned k m Q (λ b. c && u b)
spanned_scale k m Q true u x = x
spanned_scale k m Q false u x = spanned_none k m Q

pub spanned_sum : (k m n : ℕ) (Q R : ℕ → ℕ → Bool) (c : ℕ → Bool) → ((i : ℕ) → i < n → Spanned k m Q (R i)) → Spanned k m Q (λ b. xorsum n (λ i. c i && R i b))
unfolding xorsum
spanned_sum k m zero Q R c f = spanned_none k m Q
spanned_sum k m (suc n) Q R c f =
    spanned_add k m Q (λ b. xorsum n (λ i. c i && R i b)) (λ b. c n && R n b) (spanned_sum k m n Q R c (λ i h. f i (omega arith))) (spanned_scale k m Q (c n) (R n) (f n (omega arith)))

-- a sum of rows that are sums of the rows Q is a sum of the rows Q
pub spanned_trans : (k n m : ℕ) (R Q : ℕ → ℕ → Bool) (v : ℕ → Bool) → Spanned k n R v → ((i : ℕ) → i < n → Spanned k m Q (R i)) → Spanned k m Q v
spanned_trans k n m R Q v x f =
    let y = spanned_sum k m n Q R x.chosen f in
    record { chosen = y.chosen; sum = λ b h. x.sum b h ∙ y.sum b h }

-- ---- reduced rows

-- a number below n that f takes to x, or none
search_below : (n : ℕ) (f : ℕ → ℕ) (x : ℕ) → ((j : ℕ) × (j < n) × (f j ≡ x)) ⊎ ((j : ℕ) → j < n → ¬ (f j ≡ x))
search_below zero f x = inr (λ j h. absurd (omega arith))
search_below (suc n) f x = elim (ℕ_discrete (f n) x) [
  | yes e ↦ inl (n, le_refl (suc n), e)
  | no d ↦ elim (search_below n f x) [ inl (j, h, e) ↦ inl (j, omega arith, e) | inr g ↦ inr (below_suc n (λ j. ¬ (f j ≡ x)) g d) ]
]

module _ {k n n' : ℕ} {R R' : ℕ → ℕ → Bool} {lead lead' : ℕ → ℕ} (r : Reduced k n R lead) (r' : Reduced k n' R' lead')
    (sub : (i : ℕ) → i < n → Spanned k n' R' (R i)) where
  -- every R i is a sum of rows of R': which of them its bits at their leading places say
  chosen_is : (i : ℕ) (h : i < n) (j : ℕ) → j < n' → (sub i h).chosen j ≡ R i (lead' j)
  chosen_is i h j l =
      sym
      ((sub i h).sum (lead' j) (r'.inside j l)
      ∙ xorsum_pick n' (λ p. (sub i h).chosen p && R' p (lead' j)) j l (λ p q d. rw (r'.alone j p l q d) (and-false ((sub i h).chosen p)))
      ∙ rw (r'.set j l) (and-true ((sub i h).chosen j)))

  -- so its leading place is one of theirs
  lead_in : (i : ℕ) → i < n → (j : ℕ) × (j < n') × (lead' j ≡ lead i)
  lead_in i h = go (search_below n' lead' (lead i))
    where
      c : ℕ → Bool
      c = (sub i h).chosen

      none : ((j : ℕ) → j < n' → ¬ (lead' j ≡ lead i)) → (j : ℕ) → j < n' → c j && R' j (lead i) ≡ false
      none d j l = elim (dec_lt (lead' j) (lead i)) [
        | yes b ↦ rw (chosen_is i h j l, r.lowest i h (lead' j) b)
        | no b ↦ rw (r'.lowest j l (lead i) (omega (arith, d j l)), and-false)
      ]

      go : ((j : ℕ) × (j < n') × (lead' j ≡ lead i)) ⊎ ((j : ℕ) → j < n' → ¬ (lead' j ≡ lead i)) → (j : ℕ) × (j < n') × (lead' j ≡ lead i)
      go (inl a) = a
      go (inr d) = absurd (true≢false (sym (r.set i h) ∙ (sub i h).sum (lead i) (r.inside i h) ∙ xorsum-none n' (λ j. c j && R' j (lead i)) (none d)))

  rising_le : (i j : ℕ) → i ≤ j → j < n' → lead' i ≤ lead' j
  rising_le i j h l = elim (ℕ_discrete i j) [ yes e ↦ rw e (omega arith) | no d ↦ omega (arith, r'.rising i j (omega arith) l) ]

  -- and that one is no earlier than the row i of R'
  no_earlier : (i j : ℕ) → i < n → j < n' → lead' j ≡ lead i → i ≤ j
  no_earlier zero j h l e = omega arith
  no_earlier (suc i) j h l e =
      let (b, g, f) = lead_in i (omega arith) in
      let ih : i ≤ b = no_earlier i b (omega arith) g f in
      elim (dec_lt b j) [ yes q ↦ omega arith | no q ↦ absurd (omega (arith, rising_le j b (omega arith) g, r.rising i (suc i) (omega arith) h)) ]

  lead_le : (i : ℕ) → i < n → (i < n') × (lead' i ≤ lead i)
  lead_le i h =
      let (j, l, e) = lead_in i h in
      let a : i ≤ j = no_earlier i j h l e in
      (omega arith, omega (arith, rising_le i j a l))

  count_le : n ≤ n'
  count_le = elim (dec_lt n' n) [ yes l ↦ absurd (omega (arith, (lead_le n' l).0)) | no d ↦ omega arith ]

pub reduced_unique : {k n n' : ℕ} {R R' : ℕ → ℕ → Bool} {lead lead' : ℕ → ℕ} → Reduced k n R lead → Reduced k n' R' lead'
    → ((i : ℕ) → i < n → Spanned k n' R' (R i)) → ((i : ℕ) → i < n' → Spanned k n R (R' i)) → (n ≡ n') × ((i : ℕ) → i < n → (b : ℕ) → b < k → R i b ≡ R' i b)
reduced_unique {k = k} {n = n} {n' = n'} {R = R} {R' = R'} {lead = lead} {lead' = lead'} r r' sub sup = (le_antisymm le ge, same)
  where
    le : n ≤ n'
    le = count_le r r' sub

    ge : n' ≤ n
    ge = count_le r' r sup

    places : (i : ℕ) → i < n → lead' i ≡ lead i
    places i h = le_antisymm (lead_le r r' sub i h).1 (lead_le r' r sup i (omega (arith, le, ge))).1

    c_is : (i : ℕ) (h : i < n) (j : ℕ) → j < n' → (sub i h).chosen j ≡ R i (lead j)
    c_is i h j l = chosen_is r r' sub i h j l ∙ rw (places j (omega (arith, le, ge)))

    same : (i : ℕ) → i < n → (b : ℕ) → b < k → R i b ≡ R' i b
    same i h b g =
        let own : (sub i h).chosen i ≡ true = c_is i h i (omega (arith, le, ge)) ∙ r.set i h in
        (sub i h).sum b g
        ∙ xorsum_pick n' (λ j. (sub i h).chosen j && R' j b) i (omega (arith, le, ge))
        (λ j l d. rw (c_is i h j l, r.alone j i (omega (arith, le, ge)) h (λ e. d (sym e))))
        ∙ rw own

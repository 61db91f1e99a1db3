-- Rows that carry sets: elimination adds the sets as it adds the rows, so that a row is, all the way, the sum of the rows that its set names.
use Rattle.std.specs.Prelude.{◌≡◌, Bool, true, false, ◌&&◌}
use Rattle.std.proofs.Math.Path.{sym}
use Rattle.std.proofs.Common.{ap₂, ◌∙◌, arith}
use Rattle.std.proofs.Math.Logic.{by_cases}
use Rattle.std.proofs.Math.Decide.{dec_lt}
use Prim.Native.Nat.{ℕ, zero, suc, ◌+◌, ◌≤◌, ◌<◌}
use Rattle.theory.specs.Def.{◌⊕◌, xorsum, unit}
use Rattle.theory.specs.Laws.{⊕_assoc, ⊕_false, ⊕-and, xorsum-⊕, xorsum_cong, xorsum_pick}
use Rattle.theory.specs.Sums.{xorsum_cut, unit_at, unit_other}
use Rattle.digits.specs.Def.{Word}
use Rattle.span.specs.Def.{DependentRows, Zero, Made, Tagged}

-- the first L bits of ρ are the sum of the rows that its T bits from L on name; the last of these is r
record Carries (L T : ℕ) (row : ℕ → Word) (r : ℕ) (ρ : Word) : Type 0 where
  sum : (i : ℕ) → i < L → ρ i ≡ xorsum T (λ p. ρ (L + p) && row p i)
  own : ρ (L + r) ≡ true
  none : (p : ℕ) → r < p → p < T → ρ (L + p) ≡ false

module _ {L T : ℕ} {row : ℕ → Word} where
  carries_start : (r : ℕ) → r < T → ((p : ℕ) → p < T → row r (L + p) ≡ unit r p) → Carries L T row r (row r)
  carries_start r h t =
      let o : row r (L + r) ≡ true = t r h ∙ unit_at r in
      record {
        sum = λ i l. sym (xorsum_pick T (λ p. row r (L + p) && row p i) r h (λ p k d. rw (t p k, unit_other r p d)) ∙ rw o);
        own = o;
        none = λ p l k. t p k ∙ unit_other r p (omega arith);
      }

  carries_same : {r : ℕ} (ρ σ : Word) → r < T → ((i : ℕ) → i < L + T → σ i ≡ ρ i) → Carries L T row r ρ → Carries L T row r σ
  carries_same {r} ρ σ h e x =
      record {
        sum = λ i l. e i (omega arith) ∙ x.sum i l ∙ xorsum_cong T _ _ (λ p k. rw (e (L + p) (omega arith)));
        own = e (L + r) (omega arith) ∙ x.own;
        none = λ p l k. e (L + p) (omega arith) ∙ x.none p l k;
      }

  carries_pick : {q r : ℕ} (b : Bool) (ρ σ : Word) → q < r → r < T → Carries L T row r ρ → Carries L T row q σ → Carries L T row r (λ i. ρ i ⊕ b && σ i)
  carries_pick {q} {r} true ρ σ l h x y =
      record {
        sum = λ i k.
            ap₂ ◌⊕◌ (x.sum i k) (y.sum i k)
            ∙ sym
            (xorsum_cong T _ _ (λ p _. ⊕-and (ρ (L + p)) (σ (L + p)) (row p i))
            ∙ xorsum-⊕ T (λ p. ρ (L + p) && row p i) (λ p. σ (L + p) && row p i));
        own = ap₂ ◌⊕◌ x.own (y.none r l h);
        none = λ p k g. ap₂ ◌⊕◌ (x.none p k g) (y.none p (omega arith) g);
      }
  carries_pick false ρ σ l h x y = carries_same ρ _ h (λ i _. ⊕_false (ρ i)) x

  -- a row with rows before it added
  carries_sum : {r : ℕ} (n : ℕ) (c : ℕ → Bool) (cur : ℕ → Word) (ρ : Word) → n ≤ r → r < T → ((p : ℕ) → p < n → Carries L T row p (cur p))
      → Carries L T row r ρ → Carries L T row r (λ i. ρ i ⊕ xorsum n (λ p. c p && cur p i))
  unfolding xorsum
  carries_sum zero c cur ρ l h y x = carries_same ρ _ h (λ i _. ⊕_false (ρ i)) x
  carries_sum (suc n) c cur ρ l h y x =
      carries_same (λ i. ρ i ⊕ xorsum n (λ p. c p && cur p i) ⊕ c n && cur n i) _ h
      (λ i _. sym (⊕_assoc (ρ i) (xorsum n (λ p. c p && cur p i)) (c n && cur n i)))
      (carries_pick (c n) (λ i. ρ i ⊕ xorsum n (λ p. c p && cur p i)) (cur n) (omega arith) h
      (carries_sum n c cur ρ (omega arith) h (λ p k. y p (omega arith)) x) (y n (omega arith)))

-- every row that elimination made carries its set
module _ (L T : ℕ) {W m : ℕ} {old new : ℕ → Word} (made : (p : ℕ) → p < m → Made W old new p) (lw : L + T ≤ W) (few : m ≤ T) (tags : Tagged L T m old) where
  carries_next : (n : ℕ) → n < m → ((p : ℕ) → p < n → Carries L T old p (new p)) → Carries L T old n (new n)
  carries_next n h y =
      let x = made n h in
      carries_same (λ i. old n i ⊕ xorsum n (λ p. x.chosen p && new p i)) (new n) (omega arith) (λ i l. x.sum i (omega arith))
      (carries_sum n x.chosen new (old n) (omega arith) (omega arith) y (carries_start n (omega arith) (λ p l. tags n p h l)))

  carries_below : (n : ℕ) → n ≤ m → (p : ℕ) → p < n → Carries L T old p (new p)
  carries_below zero h p l = absurd (omega arith)
  carries_below (suc n) h p l =
      by_cases (dec_lt p n)
      (λ g. carries_below n (omega arith) p g)
      (λ g. let e : p ≡ n = omega arith in rw e (carries_next n (omega arith) (carries_below n (omega arith))))

  carries : (d : ℕ) → d < m → Carries L T old d (new d)
  carries d h = carries_below m (omega arith) d h

  -- the set of a row that became zero is dependent
  pub carried : (d : ℕ) → d < m → Zero L (new d) → DependentRows L old d (λ p. new d (L + p))
  carried d h z =
      let x = carries d h in
      record {
        last = x.own;
        cancels = λ i l.
            sym (xorsum_cut (suc d) T (λ p. new d (L + p) && old p i) (omega arith) (λ p k g. rw (x.none p (omega arith) g)))
            ∙ sym (x.sum i l) ∙ z i l;
      }

  -- and has no row after it
  pub carried_none : (d : ℕ) → d < m → (p : ℕ) → d < p → p < T → new d (L + p) ≡ false
  carried_none d h = (carries d h).none

-- Sums of rows: laws of `Spanned` and `Plus`.
use Rattle.std.specs.Prelude.{◌≡◌, refl, Bool, true, false, ◌&&◌}
use Rattle.std.proofs.Common.{sym, ap, ap₂, ◌∙◌, arith}
use Rattle.std.proofs.Math.Bool.{and-false}
use Prim.Native.Nat.{ℕ, zero, suc, ◌≤◌, ◌<◌}
use Rattle.theory.specs.Def.{◌⊕◌, xorsum, unit, Spanned}
use Rattle.theory.specs.Laws.{⊕_false, ⊕-and, ⊕_assoc, xorsum-⊕, xorsum_cong, xorsum-none, xorsum_pick}
use Rattle.theory.specs.Sums.{xorsum_cut, unit_at, unit_other}
use Rattle.digits.specs.Def.{Word}
use Rattle.span.specs.Def.{Plus}

module _ {k n : ℕ} {row : ℕ → Word} where
  pub spanned_row : (p : ℕ) → p < n → Spanned k n row (row p)
  spanned_row p h =
      record {
        chosen = unit p;
        sum = λ i l. sym (xorsum_pick n (λ q. unit p q && row q i) p h (λ q _ d. rw (unit_other p q d)) ∙ rw (unit_at p));
      }

  pub spanned_none : Spanned k n row (λ i. false)
  spanned_none = record { chosen = λ p. false; sum = λ i l. sym (xorsum-none n _ (λ p _. refl)) }

  pub spanned_same : (v w : Word) → ((i : ℕ) → i < k → w i ≡ v i) → Spanned k n row v → Spanned k n row w
  spanned_same v w e x = record { chosen = x.chosen; sum = λ i l. e i l ∙ x.sum i l }

  pub spanned_add : (v w : Word) → Spanned k n row v → Spanned k n row w → Spanned k n row (λ i. v i ⊕ w i)
  spanned_add v w x y =
      record {
        chosen = λ p. x.chosen p ⊕ y.chosen p;
        sum = λ i l.
            ap₂ ◌⊕◌ (x.sum i l) (y.sum i l)
            ∙ sym
            (xorsum_cong n _ _ (λ p _. ⊕-and (x.chosen p) (y.chosen p) (row p i))
            ∙ xorsum-⊕ n (λ p. x.chosen p && row p i) (λ p. y.chosen p && row p i));
      }

  pub spanned_pick : (b : Bool) (v w : Word) → Spanned k n row v → Spanned k n row w → Spanned k n row (λ i. v i ⊕ b && w i)
  spanned_pick true v w x y = spanned_add v w x y
  spanned_pick false v w x y = spanned_same v _ (λ i _. ⊕_false (v i)) x

  pub spanned_sum : (m : ℕ) (c : ℕ → Bool) (cur : ℕ → Word) → ((p : ℕ) → p < m → Spanned k n row (cur p))
      → Spanned k n row (λ i. xorsum m (λ p. c p && cur p i))
  unfolding xorsum
  spanned_sum zero c cur x = spanned_none
  spanned_sum (suc m) c cur x =
      spanned_pick (c m) (λ i. xorsum m (λ p. c p && cur p i)) (cur m) (spanned_sum m c cur (λ p h. x p (omega arith))) (x m (omega arith))

  -- a sum of sums
  pub spanned_through : (m : ℕ) (cur : ℕ → Word) (v : Word) → ((p : ℕ) → p < m → Spanned k n row (cur p)) → Spanned k m cur v → Spanned k n row v
  spanned_through m cur v x y =
      spanned_same (λ i. xorsum m (λ p. y.chosen p && cur p i)) v y.sum (spanned_sum m y.chosen cur x)

  -- where the rows are clear, so is a sum of them
  pub spanned_clear : (v : Word) → Spanned k n row v → (i : ℕ) → i < k → ((p : ℕ) → p < n → row p i ≡ false) → v i ≡ false
  spanned_clear v x i l z = x.sum i l ∙ xorsum-none n _ (λ p h. rw (z p h) (and-false (x.chosen p)))

pub spanned_more : {k m n : ℕ} {row : ℕ → Word} (v : Word) → m ≤ n → Spanned k m row v → Spanned k n row v
spanned_more {m = m} {row = row} v h x = spanned_through m row v (λ p l. spanned_row p (omega arith)) x

pub spanned_fewer : {W k n : ℕ} {row : ℕ → Word} {v : Word} → k ≤ W → Spanned W n row v → Spanned k n row v
spanned_fewer h x = record { chosen = x.chosen; sum = λ i l. x.sum i (omega arith) }

-- the rows from m on are zero
pub spanned_cut : {k m n : ℕ} {row : ℕ → Word} (v : Word) → m ≤ n → ((q : ℕ) → m ≤ q → q < n → (i : ℕ) → i < k → row q i ≡ false)
    → Spanned k n row v → Spanned k m row v
spanned_cut {m = m} {n = n} {row = row} v h z x =
    record {
      chosen = x.chosen;
      sum = λ i l. x.sum i l ∙ xorsum_cut m n (λ p. x.chosen p && row p i) h (λ p g q. rw (z p g q i l) (and-false (x.chosen p)));
    }

-- ---- a row with rows added

module _ {W n : ℕ} {row : ℕ → Word} where
  pub plus_none : (ρ : Word) → Plus W n row ρ ρ
  plus_none ρ =
      record { chosen = λ p. false; sum = λ i l. sym (ap (λ b. ρ i ⊕ b) (xorsum-none n _ (λ p _. refl)) ∙ ⊕_false (ρ i)) }

  -- one row more
  pub plus_row : (ρ σ : Word) (q : ℕ) → q < n → Plus W n row ρ σ → Plus W n row ρ (λ i. σ i ⊕ row q i)
  plus_row ρ σ q h x =
      record {
        chosen = λ p. x.chosen p ⊕ unit q p;
        sum = λ i l.
            let f : ℕ → Bool = λ p. x.chosen p && row p i in
            let g : ℕ → Bool = λ p. unit q p && row p i in
            let one : xorsum n g ≡ row q i = xorsum_pick n g q h (λ p _ d. rw (unit_other q p d)) ∙ rw (unit_at q) in
            ap₂ ◌⊕◌ (x.sum i l) (sym one) ∙ ⊕_assoc (ρ i) (xorsum n f) (xorsum n g)
            ∙ ap (λ b. ρ i ⊕ b) (sym (xorsum_cong n _ _ (λ p _. ⊕-and (x.chosen p) (unit q p) (row p i)) ∙ xorsum-⊕ n f g));
      }

  pub plus_same : (new : ℕ → Word) (ρ ρ' σ σ' : Word) → ((p : ℕ) → p < n → (i : ℕ) → i < W → new p i ≡ row p i) → ((i : ℕ) → i < W → ρ' i ≡ ρ i)
      → ((i : ℕ) → i < W → σ' i ≡ σ i) → Plus W n row ρ σ → Plus W n new ρ' σ'
  plus_same new ρ ρ' σ σ' e f g x =
      record {
        chosen = x.chosen;
        sum = λ i l. g i l ∙ x.sum i l ∙ ap₂ ◌⊕◌ (sym (f i l)) (xorsum_cong n _ _ (λ p h. rw (e p h i l)));
      }

pub plus_fewer : {L W n : ℕ} {row : ℕ → Word} {ρ σ : Word} → L ≤ W → Plus W n row ρ σ → Plus L n row ρ σ
plus_fewer l x = record { chosen = x.chosen; sum = λ i h. x.sum i (omega arith) }

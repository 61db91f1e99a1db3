-- One column of the elimination that leads to the reduced row echelon form.
use Rattle.std.specs.Prelude.{◌≡◌, Bool, true, false, ◌&&◌, ℕ, ◌+◌, ◌≤◌, ◌<◌}
use Rattle.std.proofs.Common.{sym, ap, ap₂, ◌∙◌, arith}
use Rattle.std.proofs.Math.Bool.{and-false, and-true}
use Rattle.std.proofs.Math.Logic.{by_cases}
use Rattle.std.proofs.Math.Decide.{dec_lt, ℕ_discrete}
use Rattle.theory.specs.Def.{◌⊕◌, Spanned, Reduced}
use Rattle.theory.specs.Laws.{⊕_false, ⊕_self, ⊕_assoc}
use Rattle.digits.specs.Def.{Word}
use Rattle.span.specs.Def.{Zero, Reducing, Swept}
use Rattle.span.specs.Spans.{spanned_row, spanned_same, spanned_pick, spanned_through, spanned_clear}
use Rattle.span.specs.Leads.{extend, extend_below, extend_at}

pub reducing_start : (W n : ℕ) (old : ℕ → Word) → Reducing W n old 0 0 old
reducing_start W n old =
    record {
      lead = λ p. 0;
      few = omega arith;
      inside = λ p h. absurd (omega arith);
      set = λ p h. absurd (omega arith);
      lowest = λ p h. absurd (omega arith);
      rising = λ p q h l. absurd (omega arith);
      alone = λ p q h. absurd (omega arith);
      rest = λ q h l i m. absurd (omega arith);
      from = λ p h. spanned_row p h;
      back = λ p h. spanned_row p h;
    }

-- no row from `rank` on has the bit c
pub reducing_pass : {W n : ℕ} {old : ℕ → Word} {c rank : ℕ} {row : ℕ → Word} → Reducing W n old c rank row
    → ((q : ℕ) → rank ≤ q → q < n → row q c ≡ false) → Reducing W n old (c + 1) rank row
reducing_pass {c = c} x z =
    record {
      lead = x.lead;
      few = x.few;
      inside = λ p h. omega (arith, x.inside p h);
      set = x.set;
      lowest = x.lowest;
      rising = x.rising;
      alone = x.alone;
      rest = λ q h l i m.
          by_cases (dec_lt i c) (λ a. x.rest q h l i a) (λ a. let e : i ≡ c = omega arith in rw e (z q h l));
      from = x.from;
      back = x.back;
    }

-- after the last column the rows are reduced
pub reducing_done : {W n : ℕ} {old : ℕ → Word} {k rank : ℕ} {row : ℕ → Word} → (x : Reducing W n old k rank row) → Reduced k rank row x.lead
reducing_done x =
    record {
      inside = x.inside;
      set = x.set;
      lowest = x.lowest;
      rising = x.rising;
      alone = λ p q h l d. x.alone p q h (omega (arith, x.few)) d;
    }

-- what no row had, no row gets
pub reducing_clear : {W n : ℕ} {old : ℕ → Word} {c rank : ℕ} {row : ℕ → Word} → Reducing W n old c rank row → (i : ℕ) → i < W → ((p : ℕ) → p < n → old p i ≡ false)
    → (p : ℕ) → p < n → row p i ≡ false
reducing_clear {row = row} x i l z p h = spanned_clear (row p) (x.from p h) i l z

module _ {W n : ℕ} {old : ℕ → Word} {c rank : ℕ} {row : ℕ → Word} (new : ℕ → Word) (ρ : Word) (x : Reducing W n old c rank row) (y : Swept W n rank c row ρ new)
    (hc : c < W) (hr : rank < n) (one : ρ c ≡ true) (low : Zero c ρ) (leads : (p : ℕ) → p < rank → ρ (x.lead p) ≡ false)
    (within : Spanned W n row ρ) (returns : Spanned W n new (row rank)) where
  lead' : ℕ → ℕ
  lead' = extend rank x.lead c

  lead_old : (p : ℕ) → p < rank → lead' p ≡ x.lead p
  unfolding lead'
  lead_old p h = extend_below rank x.lead c p h

  lead_new : lead' rank ≡ c
  unfolding lead'
  lead_new = extend_at rank x.lead c

  -- where ρ is clear, nothing changes
  kept : (q : ℕ) → q < n → ¬ (q ≡ rank) → (i : ℕ) → i < W → ρ i ≡ false → new q i ≡ row q i
  kept q h d i l e =
      y.others q h d i l ∙ ap (λ b. row q i ⊕ row q c && b) e ∙ ap (λ b. row q i ⊕ b) (and-false (row q c)) ∙ ⊕_false (row q i)

  column : (q : ℕ) → q < n → ¬ (q ≡ rank) → new q c ≡ false
  column q h d =
      y.others q h d c hc ∙ ap (λ b. row q c ⊕ row q c && b) one ∙ ap (λ b. row q c ⊕ b) (and-true (row q c)) ∙ ⊕_self (row q c)

  clear_at : (q : ℕ) → q < n → (i : ℕ) → i < W → ρ i ≡ false → (¬ (q ≡ rank) → row q i ≡ false) → new q i ≡ false
  clear_at q h i l e f = by_cases (ℕ_discrete q rank) (λ d. rw d (y.here i l ∙ e)) (λ d. kept q h d i l e ∙ f d)

  new_row : (q : ℕ) → q < n → Spanned W n new (row q)
  new_row q h =
      by_cases (ℕ_discrete q rank)
      (λ d. rw d returns)
      (λ d. spanned_same (λ i. new q i ⊕ row q c && new rank i) (row q)
      (λ i l. let a : Bool = row q i in
      let b : Bool = row q c && ρ i in
      sym (ap₂ (λ a b. a ⊕ row q c && b) (y.others q h d i l) (y.here i l) ∙ ⊕_assoc a b b ∙ ap (λ t. a ⊕ t) (⊕_self b) ∙ ⊕_false a))
      (spanned_pick (row q c) (new q) (new rank) (spanned_row q h) (spanned_row rank hr)))

  old_row : (q : ℕ) → q < n → Spanned W n row (new q)
  old_row q h =
      by_cases (ℕ_discrete q rank)
      (λ d. rw d (spanned_same ρ (new rank) y.here within))
      (λ d. spanned_same (λ i. row q i ⊕ row q c && ρ i) (new q) (y.others q h d) (spanned_pick (row q c) (row q) ρ (spanned_row q h) within))

  pub reducing_turn : Reducing W n old (c + 1) (rank + 1) new
  reducing_turn =
      record {
        lead = lead';
        few = omega arith;
        inside = λ p h.
            by_cases (dec_lt p rank)
            (λ l. rw (lead_old p l) (omega (arith, x.inside p l)))
            (λ g. let e : p ≡ rank = omega arith in rw (e, lead_new) (omega arith));
        set = λ p h.
            by_cases (dec_lt p rank)
            (λ l. rw (lead_old p l) (kept p (omega arith) (omega arith) (x.lead p) (omega (arith, x.inside p l)) (leads p l) ∙ x.set p l))
            (λ g. let e : p ≡ rank = omega arith in rw (e, lead_new) (y.here c hc ∙ one));
        lowest = λ p h i l.
            by_cases (dec_lt p rank)
            (λ a. let b : i < x.lead p = rw (lead_old p a) at l in
            kept p (omega arith) (omega arith) i (omega (arith, x.inside p a)) (low i (omega (arith, x.inside p a))) ∙ x.lowest p a i b)
            (λ g. let e : p ≡ rank = omega arith in
            let b : i < c = rw (e, lead_new) at l in rw e (y.here i (omega arith) ∙ low i b));
        rising = λ p q h l.
            by_cases (dec_lt q rank)
            (λ a. let b : p < rank = omega arith in rw (lead_old p b, lead_old q a) (x.rising p q h a))
            (λ g. let e : q ≡ rank = omega arith in
            let b : p < rank = omega arith in rw (e, lead_new, lead_old p b) (x.inside p b));
        alone = λ p q h l d.
            by_cases (dec_lt p rank)
            (λ a. rw (lead_old p a) (clear_at q l (x.lead p) (omega (arith, x.inside p a)) (leads p a) (λ _. x.alone p q a l d)))
            (λ g. let e : p ≡ rank = omega arith in rw (e, lead_new) (column q l (omega arith)));
        rest = λ q h l i m.
            by_cases (dec_lt i c)
            (λ a. clear_at q l i (omega arith) (low i a) (λ _. x.rest q (omega arith) l i a))
            (λ g. let e : i ≡ c = omega arith in rw e (column q l (omega arith)));
        from = λ p h. spanned_through n row (new p) x.from (old_row p h);
        back = λ p h. spanned_through n row (old p) new_row (x.back p h);
      }

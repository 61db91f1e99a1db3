-- Rows with leading bits of their own: none of them is in a sum that is zero, and so the rows that they were made from are independent.
use Rattle.std.specs.Prelude.{◌≡◌, Bool, true, false, ◌&&◌, cond, ltb}
use Rattle.std.proofs.Math.Path.{refl, sym, ap}
use Rattle.std.proofs.Common.{◌∙◌, lt-ltb, le-ltb}
use Rattle.std.proofs.lemmas.Bool.{false≢true}
use Rattle.std.proofs.Math.Bool.{and-false, and-true}
use Rattle.std.proofs.Math.Logic.{by_cases}
use Rattle.std.proofs.Math.Decide.{dec_lt, ℕ_discrete}
use Prim.Native.Nat.{ℕ, zero, suc, ◌+◌, ◌≤◌, ◌<◌}
use native.Mathlib.Omega.{arith}
use Rattle.theory.specs.Def.{◌⊕◌, xorsum, Spanned}
use Rattle.theory.specs.Laws.{⊕-and, xor-ac, put, put_at, xorsum-⊕, xorsum_cong, xorsum_pick}
use Rattle.theory.specs.Sums.{xorsum_scale, xorsum_put}
use Rattle.digits.specs.Def.{Word}
use Rattle.span.specs.Def.{DependentRows, IndependentRows, Zero, Plus, Made, Leading, Slotted, Eliminated}
use Rattle.span.specs.Spans.{spanned_row, spanned_same, spanned_add, spanned_more, spanned_sum, plus_same, plus_fewer}

-- ---- a sum of old rows is a sum of new rows, with the same last coefficient

record Recombined (L m : ℕ) (old new : ℕ → Word) (S : ℕ → Bool) : Type 0 where
  coef : ℕ → Bool
  same : (i : ℕ) → i < L → xorsum m (λ p. S p && old p i) ≡ xorsum m (λ p. coef p && new p i)
  top : (q : ℕ) → m ≡ suc q → coef q ≡ S q

-- s times o, where n = o + z
solve : (a b s o n z : Bool) → a ≡ b → n ≡ o ⊕ z → a ⊕ s && o ≡ b ⊕ s && z ⊕ s && n
solve a b true o n z e f = rw (e, f) (simp xor-ac)
solve a b false o n z e f = rw e (simp xor-ac)

module _ (L : ℕ) (old new : ℕ → Word) (S : ℕ → Bool) where
  recombine_next : (m : ℕ) → Made L old new m → Recombined L m old new S → Recombined L (suc m) old new S
  unfolding xorsum
  recombine_next m y x =
      record {
        coef = put m (λ p. x.coef p ⊕ S m && y.chosen p) (S m);
        same = λ i l.
            solve _ _ (S m) (old m i) (new m i) (xorsum m (λ q. y.chosen q && new q i)) (x.same i l) (y.sum i l)
            ∙ sym
            (xorsum_put m (λ p. x.coef p ⊕ S m && y.chosen p) (S m) (λ p. new p i)
            ∙ ap (λ b. b ⊕ S m && new m i)
            (xorsum_cong m _ _ (λ p _. ⊕-and (x.coef p) (S m && y.chosen p) (new p i))
            ∙ xorsum-⊕ m (λ p. x.coef p && new p i) (λ p. (S m && y.chosen p) && new p i)
            ∙ ap (λ b. xorsum m (λ p. x.coef p && new p i) ⊕ b) (xorsum_scale m (S m) y.chosen (λ p. new p i))));
        top = λ q e. let g : q ≡ m = omega arith in rw g (put_at m _ (S m));
      }

  recombine : (m : ℕ) → ((p : ℕ) → p < m → Made L old new p) → Recombined L m old new S
  unfolding xorsum
  recombine zero y = record { coef = S; same = λ i l. refl; top = λ q e. refl }
  recombine (suc m) y = recombine_next m (y m (omega arith)) (recombine m (λ p h. y p (omega arith)))

-- ---- leading bits

module _ (L n : ℕ) (row : ℕ → Word) (slot : ℕ → ℕ) (x : Slotted L n row slot) where
  -- two rows have two leading bits
  pub leads_differ : (p q : ℕ) → p < n → q < n → x.lead p ≡ x.lead q → p ≡ q
  leads_differ p q h l e = omega (arith, x.own p h, x.own q l, ap slot e)

  module _ (m : ℕ) (few : m ≤ n) (c : ℕ → Bool) (z : (i : ℕ) → i < L → xorsum m (λ p. c p && row p i) ≡ false) where
    -- the row that b leads is not in the sum, if none that a lower bit leads is
    led_at : (b : ℕ) → ((q : ℕ) → q < m → x.lead q < b → c q ≡ false) → (p : ℕ) → p < m → x.lead p ≡ b → c p ≡ false
    led_at b f p h e =
        sym
        (xorsum_pick m (λ q. c q && row q (x.lead p)) p h
        (λ q l d. by_cases (dec_lt (x.lead q) b)
        (λ g. rw (f q l g))
        (λ g. let s : x.lead q ≡ x.lead p → ⊥ = λ s. d (leads_differ q p (omega arith) (omega arith) s) in
        rw ((x.leading q (omega arith)).lower (x.lead p) (omega arith)) (and-false (c q))))
        ∙ rw ((x.leading p (omega arith)).set (x.place p (omega arith))) (and-true (c p)))
        ∙ z (x.lead p) (x.place p (omega arith))

    led_below : (b p : ℕ) → p < m → x.lead p < b → c p ≡ false
    led_below zero p h l = absurd (omega arith)
    led_below (suc b) p h l =
        by_cases (dec_lt (x.lead p) b) (λ g. led_below b p h g) (λ g. led_at b (led_below b) p h (omega arith))

    -- a sum of rows with leading bits of their own is zero only if no row is in it
    pub led_none : (p : ℕ) → p < m → c p ≡ false
    led_none p h = led_below L p h (x.place p (omega arith))

module _ {L W n m : ℕ} {old new : ℕ → Word} {slot : ℕ → ℕ} (x : Eliminated L W n m old new slot) (lw : L ≤ W) where
  pub eliminated_independent : n ≤ m → IndependentRows L old n
  eliminated_independent few d h S y =
      let r = recombine L old new S (suc d) (λ p k. plus_fewer lw (x.made p (omega arith))) in
      let z : r.coef d ≡ false =
      led_none L n new slot x.slotted (suc d) (omega arith) r.coef (λ i l. sym (r.same i l) ∙ y.cancels i l) d (omega arith) in
      false≢true (sym z ∙ r.top d refl ∙ y.last)

  -- a new row is a sum of the old rows up to it
  new_spanned : (q p : ℕ) → p < q → q ≤ m → Spanned L q old (new p)
  new_spanned zero p h l = absurd (omega arith)
  new_spanned (suc q) p h l =
      by_cases (dec_lt p q)
      (λ g. spanned_more (new p) (omega arith) (new_spanned q p g (omega arith)))
      (λ g. let e : p ≡ q = omega arith in
      let y = plus_fewer lw (x.made q (omega arith)) in
      rw e
      (spanned_same (λ i. old q i ⊕ xorsum q (λ r. y.chosen r && new r i)) (new q) y.sum
      (spanned_add (old q) (λ i. xorsum q (λ r. y.chosen r && new r i)) (spanned_row q (omega arith))
      (spanned_sum q y.chosen new (λ r k. spanned_more (new r) (omega arith) (new_spanned q r k (omega arith)))))))

  -- a row that became zero ends a dependent set
  pub eliminated_dependent : (d : ℕ) → d < m → Zero L (new d) → (S : ℕ → Bool) × DependentRows L old d S
  eliminated_dependent d h z =
      let y = plus_fewer lw (x.made d h) in
      let v : Word = λ i. xorsum d (λ r. y.chosen r && new r i) in
      let s : Spanned L d old v = spanned_sum d y.chosen new (λ r k. new_spanned d r k (omega arith)) in
      (put d s.chosen true, ends d (old d) v s (λ i l. sym (y.sum i l) ∙ z i l))
    where
      swap : (a b : Bool) → a ⊕ b ≡ b ⊕ a
      swap a b = simp xor-ac

      ends : (d : ℕ) (ρ v : Word) (s : Spanned L d old v) → ((i : ℕ) → i < L → old d i ⊕ v i ≡ false) → DependentRows L old d (put d s.chosen true)
      ends d ρ v s e =
          record {
            last = put_at d s.chosen true;
            cancels = λ i l.
                xorsum_put d s.chosen true (λ p. old p i) ∙ swap (xorsum d (λ p. s.chosen p && old p i)) (old d i)
                ∙ ap (λ b. old d i ⊕ b) (sym (s.sum i l)) ∙ e i l;
          }

-- ---- the start, and one row more

pub eliminated_start : {L W : ℕ} (old new : ℕ → Word) (slot : ℕ → ℕ) → ((b : ℕ) → b < L → slot b ≡ 0) → Eliminated L W 0 0 old new slot
eliminated_start old new slot z =
    record {
      made = λ p h. absurd (omega arith);
      slotted =
          record {
            lead = λ p. 0;
            place = λ p h. absurd (omega arith);
            leading = λ p h. absurd (omega arith);
            own = λ p h. absurd (omega arith);
            taken = λ b p h e. absurd (omega (arith, z b h));
          };
    }

pub slotted_same : {L n : ℕ} {row : ℕ → Word} {slot : ℕ → ℕ} (new : ℕ → Word) → ((p : ℕ) → p < n → (i : ℕ) → i < L → new p i ≡ row p i)
    → Slotted L n row slot → Slotted L n new slot
slotted_same new e x =
    record {
      lead = x.lead;
      place = x.place;
      leading = λ p h.
          let y = x.leading p h in
          record {
            within = y.within;
            set = λ l. e p h (x.lead p) l ∙ y.set l;
            lower = λ i l. e p h i (omega (arith, y.within)) ∙ y.lower i l;
          };
      own = x.own;
      taken = x.taken;
    }

pub eliminated_same : {L W n : ℕ} {old row : ℕ → Word} {slot : ℕ → ℕ} (new : ℕ → Word) → L ≤ W → ((p : ℕ) → p < n → (i : ℕ) → i < W → new p i ≡ row p i)
    → Eliminated L W n n old row slot → Eliminated L W n n old new slot
eliminated_same {old = old} {row = row} new lw e x =
    record {
      made = λ p h. plus_same new (old p) (old p) (row p) (new p) (λ q k. e q (omega arith)) (λ _ _. refl) (e p h) (x.made p h);
      slotted = slotted_same new (λ p h i l. e p h i (omega arith)) x.slotted;
    }

-- row n is made, and the rows before it are as they were
pub eliminated_row : {L W n : ℕ} {old row : ℕ → Word} {slot : ℕ → ℕ} (new : ℕ → Word) → L ≤ W → ((p : ℕ) → p < n → (i : ℕ) → i < W → new p i ≡ row p i)
    → Eliminated L W n n old row slot → Plus W n row (old n) (new n) → Eliminated L W n (n + 1) old new slot
eliminated_row {n = n} {old = old} {row = row} new lw e x y =
    let z = eliminated_same new lw e x in
    record {
      made = λ p h.
          by_cases (dec_lt p n)
          (λ l. z.made p l)
          (λ g. let q : p ≡ n = omega arith in rw q (plus_same new (old n) (old n) (new n) (new n) e (λ _ _. refl) (λ _ _. refl) y));
      slotted = z.slotted;
    }

-- f below n, and b from n on
pub extend : ℕ → (ℕ → ℕ) → ℕ → ℕ → ℕ
extend n f b p = cond (ltb p n) (f p) b

pub extend_below : (n : ℕ) (f : ℕ → ℕ) (b p : ℕ) → p < n → extend n f b p ≡ f p
unfolding extend
extend_below n f b p h = rw (lt-ltb p n h)

pub extend_at : (n : ℕ) (f : ℕ → ℕ) (b : ℕ) → extend n f b n ≡ b
unfolding extend
extend_at n f b = let h : n ≤ n = omega arith in rw (le-ltb n n h)

-- row n gets the leading bit b
pub slotted_more : {L n : ℕ} {row : ℕ → Word} {slot : ℕ → ℕ} (new : ℕ → ℕ) (b : ℕ) → b < L → Leading L (row n) b → slot b ≡ 0 → new b ≡ suc n
    → ((j : ℕ) → ¬ (j ≡ b) → new j ≡ slot j) → Slotted L n row slot → Slotted L (n + 1) row new
slotted_more {L = L} {n = n} {row = row} {slot = slot} new b h y free here others x =
    record {
      lead = lead';
      place = λ p l. by_cases (dec_lt p n) (λ g. rw (old p g) (x.place p g)) (λ g. let e : p ≡ n = omega arith in rw (e, last) h);
      leading = λ p l. by_cases (dec_lt p n) (λ g. rw (old p g) (x.leading p g)) (λ g. let e : p ≡ n = omega arith in rw (e, last) y);
      own = λ p l.
          by_cases (dec_lt p n)
          (λ g. rw (old p g) (others (x.lead p) (apart p g) ∙ x.own p g))
          (λ g. let e : p ≡ n = omega arith in rw (e, last) here);
      taken = λ j p l e. by_cases (ℕ_discrete j b)
          (λ q. let f : suc n ≡ suc p = sym here ∙ ap new (sym q) ∙ e in
          let g : p ≡ n = omega arith in (omega arith, rw (g, last) (sym q)))
          (λ d. let t = x.taken j p l (sym (others j d) ∙ e) in (omega (arith, t.0), rw (old p t.0) t.1));
    }
  where
    lead' : ℕ → ℕ
    lead' = extend n x.lead b

    old : (p : ℕ) → p < n → lead' p ≡ x.lead p
    old p g = extend_below n x.lead b p g

    last : lead' n ≡ b
    last = extend_at n x.lead b

    apart : (p : ℕ) → p < n → ¬ (x.lead p ≡ b)
    apart p g e = omega (arith, x.own p g, ap slot e, free)

-- ---- rows that agree in their first L bits

pub dependent_same : {L d : ℕ} {row : ℕ → Word} {S : ℕ → Bool} (new : ℕ → Word) → ((p : ℕ) → p ≤ d → (i : ℕ) → i < L → new p i ≡ row p i) → DependentRows L row d S
    → DependentRows L new d S
dependent_same {d = d} new e x =
    record { last = x.last; cancels = λ i l. xorsum_cong (suc d) _ _ (λ p h. rw (e p (omega arith) i l)) ∙ x.cancels i l }

pub independent_same : (L m : ℕ) (row new : ℕ → Word) → ((p : ℕ) → p < m → (i : ℕ) → i < L → new p i ≡ row p i) → IndependentRows L row m
    → IndependentRows L new m
independent_same L m row new e x d h S y = x d h S (dependent_same row (λ p l i k. sym (e p (omega arith) i k)) y)

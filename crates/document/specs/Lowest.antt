-- The proof that a refusal is given exactly in its case, and the lowest of several.
use Rattle.std.specs.Prelude.{◌≡◌, refl, Bool, true, false, cond, List, [], ◌∷◌, ◌++◌, ◌⊎◌, ◌↔◌, ℕ, ◌≤◌, ◌<◌}
use Rattle.std.proofs.Common.{sym, ap, ◌∙◌, true≢false, inl, inr, ⊎_elim, le_antisymm, arith}
use Rattle.document.specs.declared.Fields.{Fields}
use Rattle.document.specs.Refusals.{Case, ◌if◌, lowest, field_cases, read_cases, write_cases, outputs_cases, question_cases, basis_cases, report_cases, value_cases, field_refusal}

-- a case of the number n is given
abbrev pub Applies : ℕ → List Case → Type 0
Applies n [] = ⊥
Applies n (c ∷ cs) = ((c.number ≡ n) × (c.given ≡ true)) ⊎ Applies n cs

-- the numbers are above m, and rise
abbrev pub Rising : ℕ → List Case → Type 0
Rising m [] = Unit {0}
Rising m (c ∷ cs) = (m < c.number) × Rising c.number cs

above : (m : ℕ) (cs : List Case) → Rising m cs → (n : ℕ) → Applies n cs → m < n
above m [] r n a = absurd a
above m (c ∷ cs) (l, r) n (inl (e, g)) = omega arith
above m (c ∷ cs) (l, r) n (inr a) = omega (arith, above c.number cs r n a)

-- the least number that applies, or 0 where none does
abbrev Least : ℕ → List Case → Type 0
Least n cs = ((n ≡ 0) × ((m : ℕ) → ¬ Applies m cs)) ⊎ (Applies n cs × ((m : ℕ) → Applies m cs → n ≤ m))

least : (m : ℕ) (cs : List Case) → Rising m cs → Least (lowest cs) cs
unfolding lowest
least m [] r = inl (refl, λ n a. a)
least m (c ∷ cs) (l, r) = go c.given refl (least c.number cs r)
  where
    go : (b : Bool) → c.given ≡ b → Least (lowest cs) cs → Least (cond b c.number (lowest cs)) (c ∷ cs)
    go true e x = inr (inl (refl, e), λ n a. ⊎_elim (λ p. omega (arith, p.0)) (λ p. omega (arith, above c.number cs r n p)) a)
    go false e (inl (z, f)) = inl (z, λ n a. ⊎_elim (λ p. true≢false (sym p.1 ∙ e)) (f n) a)
    go false e (inr (a, f)) = inr (inr a, λ n b. ⊎_elim (λ p. absurd (true≢false (sym p.1 ∙ e))) (f n) b)

pub accepted : (cs : List Case) → Rising 0 cs → (lowest cs ≡ 0) ↔ ((m : ℕ) → ¬ Applies m cs)
accepted cs r = ⊎_elim
    (λ x. (λ _. x.1, λ _. x.0))
    (λ x. (λ e. absurd (omega (arith, above 0 cs r (lowest cs) x.0)), λ f. absurd (f (lowest cs) x.0)))
    (least 0 cs r)

pub refused : (cs : List Case) → Rising 0 cs → (n : ℕ) → 0 < n → (lowest cs ≡ n) ↔ (Applies n cs × ((m : ℕ) → Applies m cs → n ≤ m))
refused cs r n p = ⊎_elim
    (λ x. (λ e. absurd (omega (arith, x.0)), λ y. absurd (x.1 n y.0)))
    (λ x. (λ e. (rw (← e) x.0, λ m a. rw (← e) (x.1 m a)), λ y. le_antisymm (x.1 n y.0) (y.1 (lowest cs) x.0)))
    (least 0 cs r)

-- ---- the cases of each call are listed by rising numbers

pub field_rises : (g : Fields) → Rising 0 (field_cases g)
field_rises g = omega arith

pub read_rises : (bs : List ℕ) → Rising 0 (read_cases bs)
read_rises bs = omega arith

pub write_rises : (g : Fields) (room : ℕ) → Rising 0 (write_cases g room)
write_rises g room = omega arith

pub outputs_rises : (g : Fields) (t : ℕ) (state : List ℕ) (room : ℕ) → Rising 0 (outputs_cases g t state room)
outputs_rises g t state room = omega arith

pub question_rises : (g : Fields) (t l room : ℕ) → Rising 0 (question_cases g t l room)
question_rises g t l room = omega arith

pub basis_rises : (g : Fields) (t l room : ℕ) → Rising 0 (basis_cases g t l room)
basis_rises g t l room = omega arith

pub report_rises : (g : Fields) (room : ℕ) → Rising 0 (report_cases g room)
report_rises g room = omega arith

pub value_rises : (y L : ℕ) → Rising 0 (value_cases y L)
value_rises y L = omega arith

-- ---- a chain of tests, each a call's answer

pub gives : (n : ℕ) (b r : Bool) (cs : List Case) → r ≡ b → r ≡ true → n ≡ lowest ((n if b) ∷ cs)
unfolding lowest
gives n b r cs e f = sym (ap (λ x. cond x n (lowest cs)) (sym e ∙ f))

pub skips : (x n : ℕ) (b r : Bool) (cs : List Case) → r ≡ b → r ≡ false → x ≡ lowest cs → x ≡ lowest ((n if b) ∷ cs)
unfolding lowest
skips x n b r cs e f g = g ∙ sym (ap (λ y. cond y n (lowest cs)) (sym e ∙ f))

-- one chain after another
pub first_of : (cs ds : List Case) (n : ℕ) → lowest cs ≡ n → (n ≡ 0 → ⊥) → n ≡ lowest (cs ++ ds)
unfolding lowest
first_of [] ds n e z = absurd (z (sym e))
first_of (c ∷ cs) ds n e z = go c.given e (λ h. first_of cs ds n h z)
  where
    go : (b : Bool) → cond b c.number (lowest cs) ≡ n → (lowest cs ≡ n → n ≡ lowest (cs ++ ds)) → n ≡ cond b c.number (lowest (cs ++ ds))
    go true h rest = sym h
    go false h rest = rest h

pub then_of : (m : ℕ) (cs ds : List Case) (x : ℕ) → Rising m cs → lowest cs ≡ 0 → x ≡ lowest ds → x ≡ lowest (cs ++ ds)
unfolding lowest
then_of m [] ds x r e f = f
then_of m (c ∷ cs) ds x (l, r) e f = go c.given e (λ h. then_of c.number cs ds x r h f)
  where
    go : (b : Bool) → cond b c.number (lowest cs) ≡ 0 → (lowest cs ≡ 0 → x ≡ lowest (cs ++ ds)) → x ≡ cond b c.number (lowest (cs ++ ds))
    go true h rest = absurd (omega (arith, h))
    go false h rest = rest h

pub none_left : 0 ≡ lowest []
unfolding lowest
none_left = refl

-- where no case of two chains is given, none of either is
pub after : (m : ℕ) (cs ds : List Case) → Rising m cs → lowest (cs ++ ds) ≡ 0 → (lowest cs ≡ 0) × (lowest ds ≡ 0)
unfolding lowest
after m [] ds r e = (refl, e)
after m (c ∷ cs) ds (l, r) e = go c.given e (after c.number cs ds r)
  where
    go : (b : Bool) → cond b c.number (lowest (cs ++ ds)) ≡ 0 → (lowest (cs ++ ds) ≡ 0 → (lowest cs ≡ 0) × (lowest ds ≡ 0))
        → (cond b c.number (lowest cs) ≡ 0) × (lowest ds ≡ 0)
    go true h rest = absurd (omega (arith, h))
    go false h rest = rest h

-- ---- the fields come first

pub fields_first : (g : Fields) (ds : List Case) (r : ℕ) → r ≡ field_refusal g → (r ≡ 0 → ⊥) → r ≡ lowest (field_cases g ++ ds)
unfolding field_refusal
fields_first g ds r e n = first_of (field_cases g) ds r (sym e) n

pub fields_then : (g : Fields) (ds : List Case) (r x : ℕ) → r ≡ field_refusal g → r ≡ 0 → x ≡ lowest ds → x ≡ lowest (field_cases g ++ ds)
unfolding field_refusal
fields_then g ds r x e z f = let rises : Rising 0 (field_cases g) = omega arith in then_of 0 (field_cases g) ds x rises (sym e ∙ z) f

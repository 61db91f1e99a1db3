-- The first output bit is set from some state, so that its row is not zero.
use Rattle.std.specs.Prelude.{◌≡◌, refl, Bool, true, false, ◌&&◌, cond, ℕ, ◌+◌, ◌-◌, ◌*◌, ◌%◌, ◌≤◌, ◌<◌, eqb, ltb}
use Rattle.std.proofs.Common.{sym, ap, ap₂, subst, ◌∙◌, mod-eq_of_lt, arith, lt-ltb, le-ltb, eq-eqb, ne_eqb}
use Rattle.std.proofs.Math.Bool.{and-false}
use Rattle.std.proofs.Math.Logic.{by_cases}
use Rattle.std.proofs.Math.Decide.{dec_lt}
use Rattle.std.proofs.Math.Nat.{mod-eq-sub-mod, zero-mod}
use Rattle.theory.specs.Def.{◌⊕◌, unit}
use Rattle.theory.specs.Laws.{⊕_false, ⊕_self}
use Rattle.theory.specs.Sums.{unit_at, unit_other}
use Rattle.digits.specs.Def.{Word}
use Rattle.kinds.specs.Generator.{times, ◌⊻◌, masked, right, left, add_left, add_right, temper3, temper4, word, tausworthe, gfsr, twisted, mersenne, Machine}
use Rattle.document.specs.declared.Fields.{Fields}
use Rattle.document.specs.Generator.{machine}
use Rattle.document.specs.Ranges.{Accepted, is_one, is_two, is_three, is_four, cases}

-- the word whose first bit alone is set
pub record Only (x : Word) : Type 0 where
  pub first : x 0 ≡ true
  pub others : (j : ℕ) → 0 < j → x j ≡ false

-- nothing is shifted left into it, or out of it
left-none : (w u : ℕ) (x : Word) → 1 ≤ u → Only x → (j : ℕ) → left w u x j ≡ false
unfolding left
left-none w u x h o j = go (ltb (j + u) w)
  where
    go : (b : Bool) → cond b (x (j + u)) false ≡ false
    go true = o.others (j + u) (omega arith)
    go false = refl

add_left_alone : (w u : ℕ) (b x : Word) → 1 ≤ u → Only x → (j : ℕ) → add_left w u b x j ≡ x j
unfolding add_left ◌⊻◌ masked
add_left_alone w u b x h o j = ap (λ c. x j ⊕ b j && c) (left-none w u x h o j) ∙ ap (λ c. x j ⊕ c) (and-false (b j)) ∙ ⊕_false (x j)

only_left : (w u : ℕ) (b x : Word) → 1 ≤ u → Only x → Only (add_left w u b x)
only_left w u b x h o = record { first = add_left_alone w u b x h o 0 ∙ o.first; others = λ j l. add_left_alone w u b x h o j ∙ o.others j l }

only_temper : (w S : ℕ) (b : Word) (T : ℕ) (c x : Word) → 1 ≤ S → 1 ≤ T → Only x → Only (temper3 w S b T c x)
unfolding temper3
only_temper w S b T c x hs ht o = only_left w T c (add_left w S b x) ht (only_left w S b x hs o)

-- a right shift leaves the first bit
first-right : (u : ℕ) (x : Word) → 1 ≤ u → add_right u x 0 ≡ x 0
unfolding add_right ◌⊻◌ right
first-right u x h = let l : 0 < u = omega arith in rw (lt-ltb 0 u l) (⊕_false (x 0))

-- the word that a right shift by u turns into the first bit alone: every bit whose number u divides
every_state : ℕ → Word
every_state u i = eqb (i % u) 0

every-word : (w u j : ℕ) → word w 0 (every_state u) j ≡ eqb (j % u) 0
unfolding every_state word
every-word w u j = let e : 0 * w + j ≡ j = omega arith in rw e

every_rest : (u : ℕ) (x : Word) → 1 ≤ u → ((j : ℕ) → x j ≡ eqb (j % u) 0) → (j : ℕ) → 0 < j → add_right u x j ≡ false
unfolding add_right ◌⊻◌ right
every_rest u x h e j l = by_cases (dec_lt j u)
    (λ k. rw (lt-ltb j u k) (⊕_false (x j) ∙ e j ∙ ne_eqb (j % u) 0 (λ z. omega (arith, mod-eq_of_lt k))))
    (λ k. let g : u ≤ j = omega arith in
    rw (le-ltb j u g) (ap₂ ◌⊕◌ (e j ∙ ap (λ n. eqb n 0) (mod-eq-sub-mod g)) (e (j - u)) ∙ ⊕_self (eqb ((j - u) % u) 0)))

every_only : (w u : ℕ) → 1 ≤ u → Only (add_right u (word w 0 (every_state u)))
every_only w u h = record {
  first = first-right u (word w 0 (every_state u)) h ∙ every-word w u 0 ∙ eq-eqb (0 % u) 0 (zero-mod u);
  others = every_rest u (word w 0 (every_state u)) h (every-word w u);
}

unit_only : (w : ℕ) → Only (word w 0 (unit 0))
unfolding word
unit_only w = record {
  first = let e : 0 * w + 0 ≡ 0 = omega arith in rw e (unit_at 0);
  others = λ j h. unit_other 0 (0 * w + j) (omega arith);
}

-- a machine sets its first output bit from some state
abbrev pub Sets : Machine → Type 0
Sets M = (s : Word) × (M.out s 0 ≡ true)

sets1 : (k L ν : ℕ) (a : Word) → Sets (tausworthe k L ν a)
unfolding tausworthe times
sets1 k L ν a = (λ _. true, refl)

sets2 : (r w L : ℕ) (a : Word) → Sets (gfsr r w L a)
unfolding gfsr word
sets2 r w L a = (λ _. true, refl)

sets3 : (r m w L : ℕ) (a : Word) (S : ℕ) (b : Word) (T : ℕ) (c : Word) → 1 ≤ S → 1 ≤ T → Sets (twisted r m w L a S b T c)
unfolding twisted
sets3 r m w L a S b T c hs ht = (unit 0, (only_temper w S b T c (word w 0 (unit 0)) hs ht (unit_only w)).first)

sets4 : (r m w p L : ℕ) (a : Word) (U S : ℕ) (b : Word) (T : ℕ) (c : Word) (Z : ℕ) → 1 ≤ U → 1 ≤ S → 1 ≤ T → 1 ≤ Z → Sets (mersenne r m w p L a U S b T c Z)
unfolding mersenne temper4
sets4 r m w p L a U S b T c Z hu hs ht hz = (
  every_state U,
  first-right Z (temper3 w S b T c (add_right U (word w 0 (every_state U)))) hz
      ∙ (only_temper w S b T c (add_right U (word w 0 (every_state U))) hs ht (every_only w U hu)).first,
)

pub machine_sets : (g : Fields) → Accepted g → Sets (machine g)
unfolding machine
machine_sets g x = cases g x
    (λ e. subst Sets (sym (is_one g.kind _ _ _ _ e)) (sets1 _ _ _ _))
    (λ e. subst Sets (sym (is_two g.kind _ _ _ _ e)) (sets2 _ _ _ _))
    (λ e. subst Sets (sym (is_three g.kind _ _ _ _ e)) (sets3 _ _ _ _ _ _ _ _ _ (x.three e).s_least (x.three e).t_least))
    (λ e. let r = x.four e in subst Sets (sym (is_four g.kind _ _ _ _ e)) (sets4 _ _ _ _ _ _ _ _ _ _ _ _ r.u_least r.twist.s_least r.twist.t_least r.v_least))

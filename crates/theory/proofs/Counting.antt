-- How many states have a pattern: halving it bit by bit shows that there are no more even bits than state bits, and counting out decides.
use Rattle.std.specs.Prelude.{◌≡◌, ◌&&◌}
use Rattle.std.proofs.Math.Path.{sym, ap, ap₂}
use Rattle.std.proofs.Common.{◌∙◌, pow_pos, pow-add, mul-div_cancel, add-mul, zero-mul, suc-mul, arith}
use Rattle.std.proofs.Math.Bool.{Bool, true, false, not}
use Prim.Native.Nat.{ℕ, zero, suc, ◌+◌, ◌-◌, ◌*◌, ◌/◌, ◌^◌, ◌≤◌, ◌<◌}
use Rattle.std.proofs.Math.Nat.{mul-add, mul-one, two-pow-succ, one-le-pow, pow-le-pow_right}
use Rattle.std.proofs.Math.Decide.{dec_lt}
use borrow.Author.Tests.{eq-eqb, eqb-true}
use Rattle.theory.specs.Def.{◌⊕◌, Bits, bit, tabulate, count, agree, hits, Equidistributed, evenly}
use Rattle.theory.specs.Laws.{⊕_false, not-⊕_true, put, put_below, put_at}
use Rattle.theory.specs.Laws.{agree_cong, count_cong, count-all, count_split, bit-tabulate, every_intro, every_elim}

too_few : (x m k : ℕ) → x * 2 ^ m ≡ 2 ^ k → ¬ (k < m)
too_few zero m k e h = omega (arith, zero-mul (2 ^ m), one-le-pow k 2 (omega arith))
too_few (suc x) m k e h =
    omega (arith, suc-mul x (2 ^ m), two-pow-succ k, one-le-pow k 2 (omega arith), pow-le-pow_right {n = 2} (omega arith) {i = suc k} {j = m} h)

module _ {k : ℕ} (out : ℕ → Bits k → Bool) where
  -- ---- the number of states

  hits_put : (m : ℕ) (p : ℕ → Bool) (b : Bool) → hits out (suc m) (put m p b) ≡ count (λ s. agree m (λ i. out i s) p && not (out m s ⊕ b))
  unfolding hits agree
  hits_put m p b = count_cong _ _ (λ s. ap₂ (λ x y. x && not (out m s ⊕ y)) (agree_cong m (λ i. out i s) (put m p b) p (put_below m p b)) (put_at m p b))

  hits_split : (m : ℕ) (p : ℕ → Bool) → hits out m p ≡ hits out (suc m) (put m p false) + hits out (suc m) (put m p true)
  unfolding hits
  hits_split m p = count_split (λ s. agree m (λ i. out i s) p) (out m) ∙ ap₂ ◌+◌ (simp ⊕_false at (sym (hits_put m p false))) (simp not-⊕_true at (sym (hits_put m p true)))

  equidistributed_down : (m : ℕ) → Equidistributed out (suc m) → Equidistributed out m
  equidistributed_down m E p q = hits_split m p ∙ ap₂ ◌+◌ (E _ _) (E _ _) ∙ sym (hits_split m q)

  pub hits_exact : (m : ℕ) → Equidistributed out m → (p : ℕ → Bool) → hits out m p * 2 ^ m ≡ 2 ^ k
  unfolding hits agree
  hits_exact zero E p = mul-one (hits out zero p) ∙ count-all k
  hits_exact (suc m) E p =
      rw (two-pow-succ m, mul-add, ← add-mul) (ap (λ x. x * 2 ^ m) (sym (hits_split m p ∙ ap₂ ◌+◌ (E _ p) (E _ p))) ∙ hits_exact m (equidistributed_down m E) p)

  -- so there are no more of them than bits of the state
  pub equidistributed_bound : (m : ℕ) → Equidistributed out m → m ≤ k
  equidistributed_bound m E = elim (dec_lt k m) [
    | yes h ↦ absurd (too_few (hits out m (λ _. false)) m k (hits_exact m E (λ _. false)) h)
    | no h ↦ omega arith
  ]

  -- each pattern then comes from 2 ^ (k - m) states
  pub hits_power : (m : ℕ) → Equidistributed out m → (p : ℕ → Bool) → hits out m p ≡ 2 ^ (k - m)
  hits_power m E p =
      let l : m ≤ k = equidistributed_bound m E in
      let e : k ≡ (k - m) + m = omega arith in
      sym (mul-div_cancel (hits out m p) (pow_pos m)) ∙ ap (λ n. n / 2 ^ m) (hits_exact m E p ∙ ap (λ n. 2 ^ n) e ∙ pow-add 2 (k - m) m) ∙ mul-div_cancel (2 ^ (k - m)) (pow_pos m)

  -- ---- counting out

  hits_cong : (m : ℕ) (p q : ℕ → Bool) → ((i : ℕ) → i < m → p i ≡ q i) → hits out m p ≡ hits out m q
  unfolding hits
  hits_cong m p q h = count_cong _ _ (λ s. agree_cong m (λ i. out i s) p q h)

  pub evenly_equidistributed : (m : ℕ) → evenly out m ≡ true → Equidistributed out m
  unfolding evenly
  evenly_equidistributed m e p q = as_none p ∙ sym (as_none q)
    where
      as_none : (p : ℕ → Bool) → hits out m p ≡ hits out m (λ _. false)
      as_none p = hits_cong m p (bit (tabulate m p)) (λ i h. sym (bit-tabulate m p i h)) ∙ eqb-true _ _ (every_elim _ e (tabulate m p))

  pub equidistributed_evenly : (m : ℕ) → Equidistributed out m → evenly out m ≡ true
  unfolding evenly
  equidistributed_evenly m E = every_intro _ (λ p. eq-eqb _ _ (E (bit p) (λ _. false)))

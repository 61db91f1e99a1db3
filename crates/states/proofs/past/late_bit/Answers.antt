use mathlib.Core.Path.{◌≡◌, sym, ap, ◌∙◌}
use mathlib.Core.Bool.{Bool, true, false, not, ◌&&◌}
use mathlib.Core.List.{List}
use mathlib.Core.Logic.{by_cases}
use Prim.Native.Nat.{ℕ, ◌+◌, ◌-◌, ◌*◌, ◌≤◌, ◌<◌}
use native.Mathlib.Decide.{dec_lt}
use native.Mathlib.Omega.{arith}
use lib.Dec.{ltb}
use lib.ListN.{length, get_or}
use borrow.Author.Tests.{lt-ltb, le-ltb, tests}
use borrow.Author.Rules.{rules}
use Rattle.std.specs.Bool.{MatchBool}
use Rattle.std.specs.List.{range_with_len, HoldsAt, AllWithin}
use Rattle.std.proofs.lemmas.Iterator.{cases_from_any, YieldsList-from_range}
use Rattle.std.proofs.lemmas.List.FromFn.{length-range_with_len, get_or-range_with_len}
use Rattle.digits.specs.Def.{bits_of}
use Rattle.document.specs.Limits.{row_words}
use Rattle.document.specs.Refusals.{late_bit}
use Rattle.document.specs.Ranges.{any_found, none_any}
use Rattle.states.proofs.past.late_bit.Goals as goal

module _ (k : ℕ) (state : List ℕ) where
  is-late : (i : ℕ) → k ≤ i → (not (ltb i k) && bits_of state i) ≡ bits_of state i
  is-late i h = ap (λ b. not b && bits_of state i) (le-ltb i k h)

  abbrev rest : List ℕ
  rest = range_with_len k (64 * row_words - k)

  at : (j : ℕ) → j < length rest → get_or rest j 0 ≡ k + j
  at j h = get_or-range_with_len k (64 * row_words - k) j 0 (rw (length-range_with_len k (64 * row_words - k)) at h)

  is_late_bit : (r : Bool) → MatchBool r ((j : ℕ) × (j < length rest) × HoldsAt (λ i. bits_of state i ≡ true) rest j) (AllWithin (λ i. bits_of state i ≡ false) rest 0 (length rest)) → r ≡ late_bit k state
  unfolding late_bit
  is_late_bit true (j, l, h) =
      let l' : j < 64 * row_words - k = rw (length-range_with_len k (64 * row_words - k)) at l in
      sym (any_found (64 * row_words) _ (k + j) (omega arith) (is-late (k + j) (omega arith) ∙ (rw (at j l) at (h 0))))
  is_late_bit false h = sym (none_any (64 * row_words) _
      (λ i l. by_cases (dec_lt i k)
      (λ g. ap (λ b. not b && bits_of state i) (lt-ltb i k g))
      (λ g. is-late i (omega arith) ∙ late i (omega arith) l)))
    where
      late : (i : ℕ) → k ≤ i → i < 64 * row_words → bits_of state i ≡ false
      late i g l =
          let e : k + (i - k) ≡ i = omega arith in
          let m : i - k < length rest = rw (length-range_with_len k (64 * row_words - k)) (omega arith) in
          ap (bits_of state) (sym (at (i - k) m ∙ e)) ∙ h (i - k) 0 (omega arith) m

pub returns : goal.returns
returns c =
    is_late_bit _ _ _ (cases_from_any _ _ _ (λ i. bits_of c.args.state i ≡ true) (λ i. bits_of c.args.state i ≡ false) c.any.ensures.ran
    (YieldsList-from_range c.args.k (64 * row_words) _ (search rules) (search rules)) (λ x q k. search (rules, tests)) (λ x q k. search (rules, tests)))

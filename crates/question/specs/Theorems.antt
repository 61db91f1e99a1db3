-- Two replies, with their memory, that the promise of a question allows are one.
use Rattle.std.specs.Prelude.{◌≡◌, Bool, List, ℕ, ◌+◌, ◌*◌, ◌/◌, ◌%◌, ◌^◌, ◌<◌, length, get_or}
use Rattle.std.proofs.Common.{sym, ◌∙◌, arith, ext_get_or}
use Rattle.std.proofs.Math.Logic.{by_cases}
use Rattle.std.proofs.Math.Decide.{ℕ_discrete}
use Rattle.digits.specs.Def.{bits_of}
use Rattle.digits.specs.Equal.{digits_equal}
use Rattle.document.specs.declared.Fields.{Fields}
use Rattle.document.specs.declared.Dimension.{Dimension}
use Rattle.document.specs.declared.Resolution.{Resolution}
use Rattle.document.specs.Limits.{row_words, work_words}
use Rattle.document.specs.Generator.{machine}
use Rattle.document.specs.Theorems.{answers_agree, front_unique}
use Rattle.question.specs.declared.Reply.{Reply}
use Rattle.question.specs.Promises.{Asked}

-- words of 64 bits are told by their bits
same_words : (a b : List ℕ) → length a ≡ row_words → length b ≡ row_words → ((k : ℕ) → k < row_words → get_or a k 0 < 2 ^ 64) → ((k : ℕ) → k < row_words → get_or b k 0 < 2 ^ 64)
    → ((i : ℕ) → bits_of a i ≡ bits_of b i) → a ≡ b
unfolding bits_of
same_words a b la lb sa sb e =
    ext_get_or 0 a b (la ∙ sym lb)
    (λ k h. let f : k < row_words = omega arith in
    digits_equal 64 (get_or a k 0) (get_or b k 0) (sa k f) (sb k f)
    (λ i l. let q : (64 * k + i) / 64 ≡ k = omega arith in
    let m : (64 * k + i) % 64 ≡ i = omega arith in
    rw (q, m) at (e (64 * k + i))))

same_reply : (r s : Reply) → r.refusal ≡ s.refusal → r.yes ≡ s.yes → r.d ≡ s.d → r.set ≡ s.set → r ≡ s
same_reply r s e f g h = four e f g h
  where
    four : {a a' : ℕ} {b b' : Bool} {c c' : ℕ} {d d' : List ℕ} → a ≡ a' → b ≡ b' → c ≡ c' → d ≡ d'
        → ◌≡◌ {A = Reply} (record { refusal = a; yes = b; d = c; set = d }) (record { refusal = a'; yes = b'; d = c'; set = d' })
    four e f g h = rw (e, f, g, h)

module _ (g : Fields) (t : Dimension) (l : Resolution) (was : List ℕ) (r s : Reply) (now then : List ℕ) (x : Asked g t l was r now) (y : Asked g t l was s then) where
  number : r.refusal ≡ s.refusal
  number = x.refusal ∙ sym y.refusal

  answered : r.refusal ≡ 0 → (r ≡ s) × (now ≡ then)
  answered e =
      let f : s.refusal ≡ 0 = sym number ∙ e in
      let (a, b, c) = answers_agree (machine g) t.0 l.0 r.yes s.yes r.d s.d (bits_of r.set) (bits_of s.set) (x.answer e) (y.answer f) in
      (same_reply r s number a b (same_words r.set s.set x.long y.long x.small y.small c), front_unique work_words (λ _. 0) was now then (x.memory e) (y.memory f))

  refused : (r.refusal ≡ 0 → ⊥) → (r ≡ s) × (now ≡ then)
  refused n =
      let (a, b, c, d) = x.refused n in
      let (a', b', c', d') = y.refused (λ e. n (number ∙ e)) in
      (same_reply r s number (a ∙ sym a') (b ∙ sym b') (ext_get_or 0 r.set s.set (x.long ∙ sym y.long) (λ i _. c i ∙ sym (c' i))), d ∙ sym d')

  pub asked_agree : (r ≡ s) × (now ≡ then)
  asked_agree = by_cases (ℕ_discrete r.refusal 0) answered refused

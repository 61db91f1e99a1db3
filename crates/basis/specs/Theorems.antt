-- The promises of the basis calls leave no choice.
use Rattle.std.specs.Prelude.{◌≡◌, List, ℕ, ◌+◌, ◌*◌, ◌/◌, ◌%◌, ◌^◌, ◌<◌, length, get_or, take, drop}
use Rattle.std.proofs.Common.{sym, ◌∙◌, arith, ext_get_or, get_or-take, get_or-drop, length-take-le}
use Rattle.std.proofs.Math.Logic.{by_cases}
use Rattle.std.proofs.Math.Decide.{dec_lt, ℕ_discrete}
use Rattle.digits.specs.Def.{bits_of}
use Rattle.digits.specs.Equal.{digits_equal}
use Rattle.document.specs.declared.Fields.{Fields}
use Rattle.document.specs.declared.Dimension.{Dimension}
use Rattle.document.specs.declared.Resolution.{Resolution}
use Rattle.document.specs.Limits.{row_words, work_words}
use Rattle.document.specs.Generator.{machine}
use Rattle.document.specs.Refusals.{basis_refusal}
use Rattle.document.specs.Theorems.{bases_agree}
use Rattle.basis.specs.declared.BasisReply.{BasisReply}
use Rattle.basis.specs.Promises.{basis_row, Handed, BasisRows, BasisPart}

-- ---- words and rows

-- word k of row i
pub row_word : (ws : List ℕ) (i k : ℕ) → k < row_words → get_or (take row_words (drop (i * row_words) ws)) k 0 ≡ get_or ws (i * row_words + k) 0
row_word ws i k h = get_or-take row_words (drop (i * row_words) ws) k 0 h ∙ get_or-drop (i * row_words) ws k 0

-- the words of a row are told by its bits
same_row : (a b : List ℕ) (i k : ℕ) → k < row_words → ((n : ℕ) → basis_row a i n ≡ basis_row b i n) → get_or a (i * row_words + k) 0 < 2 ^ 64 → get_or b (i * row_words + k) 0 < 2 ^ 64
    → get_or a (i * row_words + k) 0 ≡ get_or b (i * row_words + k) 0
unfolding basis_row bits_of
same_row a b i k h e sa sb =
    digits_equal 64 (get_or a (i * row_words + k) 0) (get_or b (i * row_words + k) 0) sa sb
    (λ n l. let q : (64 * k + n) / 64 ≡ k = omega arith in
    let m : (64 * k + n) % 64 ≡ n = omega arith in
    rw (q, m, row_word a i k h, row_word b i k h) at (e (64 * k + n)))

module _ (g : Fields) (t : Dimension) (l : Resolution) (m n : ℕ) (a b : List ℕ) (x : Handed g t l m a) (y : Handed g t l n b) where
  agreed : (x.rank ≡ y.rank) × ((i : ℕ) → i < x.rank → (c : ℕ) → basis_row a i c ≡ basis_row b i c)
  agreed = bases_agree (machine g) t.0 l.0 x.rank y.rank (basis_row a) (basis_row b) x.rows y.rows

  -- two bases are as long, and the same word for word
  pub handed_long : m ≡ n
  handed_long = omega (arith, x.count, y.count, agreed.0)

  pub handed_words : (j : ℕ) → j < m → get_or a j 0 ≡ get_or b j 0
  handed_words j h =
      let e : j ≡ j / row_words * row_words + j % row_words = omega arith in
      rw e
      (same_row a b (j / row_words) (j % row_words) (omega arith) (agreed.1 (j / row_words) (omega (arith, x.count)))
      (rw e at (x.small j h)) (rw e at (y.small j (omega (arith, handed_long)))))

-- ---- two replies, with their memory, that the promise of `basis_rows` allows are one

same_reply : (r s : BasisReply) → r.refusal ≡ s.refusal → r.words ≡ s.words → r ≡ s
same_reply r s e f = two e f
  where
    two : {a b c d : ℕ} → a ≡ b → c ≡ d → ◌≡◌ {A = BasisReply} (record { refusal = a; words = c }) (record { refusal = b; words = d })
    two e f = rw (e, f)

module _ (g : Fields) (t : Dimension) (l : Resolution) (was : List ℕ) (r s : BasisReply) (now then : List ℕ) (x : BasisRows g t l was r now) (y : BasisRows g t l was s then) where
  number : r.refusal ≡ s.refusal
  number = x.refusal ∙ sym y.refusal

  based : r.refusal ≡ 0 → (r ≡ s) × (now ≡ then)
  based e =
      let f : s.refusal ≡ 0 = sym number ∙ e in
      let q : r.words ≡ s.words = handed_long g t l r.words s.words now then (x.rows e) (y.rows f) in (
        same_reply r s number q,
        ext_get_or 0 now then (x.long ∙ sym y.long)
            (λ j _. by_cases (dec_lt j r.words)
            (handed_words g t l r.words s.words now then (x.rows e) (y.rows f) j)
            (λ h. by_cases (dec_lt j work_words)
            (λ k. x.zeros e j (omega arith) k ∙ sym (y.zeros f j (omega arith) k))
            (λ k. x.rest e j (omega arith) ∙ sym (y.rest f j (omega arith))))),
      )

  refused : (r.refusal ≡ 0 → ⊥) → (r ≡ s) × (now ≡ then)
  refused n =
      let (a, b) = x.refused n in
      let (c, d) = y.refused (λ e. n (number ∙ e)) in
      (same_reply r s number (a ∙ sym c), b ∙ sym d)

  pub replies_agree : (r ≡ s) × (now ≡ then)
  replies_agree = by_cases (ℕ_discrete r.refusal 0) based refused

-- two parts that the promise of `basis` allows are one
pub parts_agree : (g : Fields) (t : Dimension) (l : Resolution) (room : ℕ) (a b : List ℕ) → BasisPart g t l room a → BasisPart g t l room b → a ≡ b
parts_agree g t l room a b x y =
    by_cases (ℕ_discrete (basis_refusal g t.0 l.0 room) 0)
    (λ e. ext_get_or 0 a b (handed_long g t l (length a) (length b) a b (x.accepted e) (y.accepted e))
    (handed_words g t l (length a) (length b) a b (x.accepted e) (y.accepted e)))
    (λ n. ext_get_or 0 a b (x.refused n ∙ sym (y.refused n)) (λ i h. absurd (omega (arith, x.refused n))))

-- the part is the front of what `basis_rows` leaves for the same arguments
pub part_is_front : (g : Fields) (t : Dimension) (l : Resolution) (was part : List ℕ) (r : BasisReply) (after : List ℕ) → BasisPart g t l (length was) part
    → BasisRows g t l was r after → part ≡ take r.words after
part_is_front g t l was part r after x y =
    let long : length (take r.words after) ≡ r.words = length-take-le r.words after (omega (arith, y.within, y.long)) in
    by_cases (ℕ_discrete r.refusal 0)
    (λ e. let p = x.accepted (sym y.refusal ∙ e) in
    let n = handed_long g t l (length part) r.words part after p (y.rows e) in
    ext_get_or 0 part (take r.words after) (n ∙ sym long)
    (λ i h. handed_words g t l (length part) r.words part after p (y.rows e) i h ∙ sym (get_or-take r.words after i 0 (omega (arith, n)))))
    (λ n. let none = x.refused (λ e. n (y.refusal ∙ e)) in
    ext_get_or 0 part (take r.words after) (none ∙ sym (long ∙ (y.refused n).0)) (λ i h. absurd (omega (arith, none))))

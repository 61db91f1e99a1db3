-- From the rows in a buffer to the basis.
use Rattle.std.specs.Prelude.{◌≡◌, refl, false, ◌&&◌, List, ℕ, ◌+◌, ◌*◌, ◌/◌, ◌%◌, ◌^◌, ◌≤◌, ◌<◌, ltb, ◌∷◌, length, get_or, take, drop, Ok, Err}
use Rattle.std.proofs.Common.{sym, ap, subst, ◌∙◌, true≢false, mul-le-mul, arith, lt-ltb, le-ltb, get_or-take, length-take-le}
use Rattle.std.proofs.Math.Logic.{by_cases}
use Rattle.std.proofs.Math.Decide.{dec_lt}
use Rattle.std.proofs.Math.ListN.{length-take, get_or-eq_default}
use Rattle.theory.specs.Def.{xorsum, unit, Spanned, Reduced}
use Rattle.theory.specs.Laws.{xorsum_cong}
use Rattle.theory.specs.Sums.{pair-unit, pair-none}
use Rattle.digits.specs.Def.{Word, bits_of, bits_from}
use Rattle.digits.specs.Laws.{digit-zero}
use Rattle.kinds.specs.Generator.{Machine}
use Rattle.kinds.specs.Rows.{bit-first}
use Rattle.document.specs.Cells.{bit_of}
use Rattle.document.specs.declared.Fields.{Fields}
use Rattle.document.specs.declared.Dimension.{Dimension}
use Rattle.document.specs.declared.Resolution.{Resolution}
use Rattle.document.specs.declared.refusals.Refusal.{Refusal}
use Rattle.document.proofs.Refused.{refused}
use Rattle.document.specs.Answer.{refusal_number}
use Rattle.document.specs.Limits.{row_words, most_bits, most_output, work_words}
use Rattle.document.specs.Generator.{machine, size}
use Rattle.document.specs.Lowest.{gives, skips}
use Rattle.document.specs.Refusals.{◌if◌, lowest, asked_cases, room_cases, basis_refusal}
use Rattle.document.specs.Ranges.{Accepted}
use Rattle.document.specs.Basis.{row, BasisOf}
use Rattle.arguments.specs.Passed.{asked_first, asked_then}
use Rattle.running.specs.declared.ready.Prepared.{Prepared}
use Rattle.running.specs.Prepared.{PreparedFor, machine_of}
use Rattle.running.specs.Theorems.{prepared_size, prepared_width}
use Rattle.rows.specs.Theorems.{row_prepared}
use Rattle.elimination.specs.Rows.{rows_of}
use Rattle.elimination.proofs.RowBits.{bits_same}
use Rattle.reduction.specs.Columns.{ReducedForm}
use Rattle.reduction.specs.Packs.{Packed}
use Rattle.reduction.specs.Theorems as Reduction
use Rattle.reduction.proofs.Packs.{packed_bit}
use Rattle.filling.specs.declared.bits.OutputBits.{OutputBits}
use Rattle.filling.specs.Asked.{AskedFor}
use Rattle.filling.specs.Rows.{stride, state_row, Filled}
use Rattle.filling.specs.Theorems.{size_most, ready_bits, product_small}
use Rattle.basis.specs.Promises.{basis_row, Based, Handed, BasisRows, reply_of}
use Rattle.basis.specs.First.{machine_sets}
use Rattle.basis.specs.Theorems.{row_word}

-- ---- what is asked

module _ (g : Fields) (t l : ℕ) (bits : OutputBits) (x : AskedFor g t l bits) where
  pub sized : (machine_of bits.generator).size ≡ size g
  sized = prepared_size g bits.generator x.passed.accepted x.prepared

  -- t·l is computed with room to spare
  pub product_fits : t * l ≤ most_bits * most_output
  product_fits = product_small (size g) t l (size_most g bits.generator x.passed.accepted x.prepared) x.passed.t_most (omega (arith, x.same, bits.within, ready_bits bits.generator))

  -- what refuses a basis behind t and l: the product, and then the room
  module _ (room : ℕ) (none : 0 ≡ lowest (asked_cases g t l)) (k : ℕ) (same : k ≡ (machine_of bits.generator).size) where
    behind : (r : ℕ) → r ≡ lowest ((10 if ltb (size g) (t * l)) ∷ room_cases work_words room) → r ≡ basis_refusal g t l room
    unfolding basis_refusal
    behind r e = asked_then g t l ((10 if ltb (size g) (t * l)) ∷ room_cases work_words room) 0 r none refl e

    tested : ltb k (t * l) ≡ ltb (size g) (t * l)
    tested = ap (λ n. ltb n (t * l)) (same ∙ sized)

    pub product_refused : k < t * l → 10 ≡ basis_refusal g t l room
    product_refused h = behind 10 (gives _ _ _ _ tested (lt-ltb _ _ h))

    pub product_passed : t * l ≤ k → (r : ℕ) → r ≡ lowest (room_cases work_words room) → r ≡ basis_refusal g t l room
    product_passed h r e = behind r (skips _ _ _ _ _ tested (le-ltb _ _ h) e)

-- t or l itself, or the fields
pub asked_refused : (g : Fields) (t l room r : ℕ) → r ≡ lowest (asked_cases g t l) → (r ≡ 0 → ⊥) → r ≡ basis_refusal g t l room
unfolding basis_refusal
asked_refused g t l room r e n = asked_first g t l ((10 if ltb (size g) (t * l)) ∷ room_cases work_words room) r e n

pub product_some : (t l : ℕ) → 1 ≤ t → 1 ≤ l → 0 < t * l
product_some t l h k = let e : 1 * 1 ≤ t * l = mul-le-mul h k in omega arith

-- ---- rows that agree in the bits that count

spanned_like : {k n : ℕ} {R Q : ℕ → Word} {v u : Word} → ((i : ℕ) → i < n → (b : ℕ) → b < k → R i b ≡ Q i b) → ((b : ℕ) → b < k → u b ≡ v b) → Spanned k n R v → Spanned k n Q u
spanned_like {n = n} e f x = record {
  chosen = x.chosen;
  sum = λ b h. f b h ∙ x.sum b h ∙ xorsum_cong n _ _ (λ i l. ap (λ c. x.chosen i && c) (e i l b h));
}

reduced_like : {k n : ℕ} {R Q : ℕ → Word} {lead : ℕ → ℕ} → ((i : ℕ) → i < n → (b : ℕ) → b < k → Q i b ≡ R i b) → Reduced k n R lead → Reduced k n Q lead
reduced_like {lead = lead} e x = record {
  inside = x.inside;
  set = λ i h. e i h (lead i) (x.inside i h) ∙ x.set i h;
  lowest = λ i h b l. e i h b (omega (arith, x.inside i h)) ∙ x.lowest i h b l;
  rising = x.rising;
  alone = λ i j h l d. e j l (lead i) (x.inside i h) ∙ x.alone i j h l d;
}

-- ---- rows at the front

-- the bits of a row, and none behind its words
row_bits : (ws : List ℕ) (i b : ℕ) → b < 64 * row_words → basis_row ws i b ≡ bits_from ws (i * row_words) b
unfolding basis_row bits_of bits_from
row_bits ws i b h = rw (row_word ws i (b / 64) (omega arith))

row_past : (ws : List ℕ) (i b : ℕ) → 64 * row_words ≤ b → basis_row ws i b ≡ false
unfolding basis_row bits_of
row_past ws i b h =
    rw (get_or-eq_default (take row_words (drop (i * row_words) ws)) 0 {n = b / 64} (simp length-take (omega arith))) (digit-zero (b % 64))

-- ---- `reduced_rows`

module _ (M : Machine) (l n rank : ℕ) (fits : M.size ≤ 64 * row_words) (few : n ≤ most_bits) (was filled mid now : List ℕ) (x : Filled M l n was filled)
    (y : ReducedForm filled n stride row_words M.size rank mid) (z : Packed mid rank stride row_words work_words now) where
  came : (i : ℕ) → i < n → (b : ℕ) → b < 64 * row_words → rows_of filled stride i b ≡ state_row M l i b
  came i h b f = let e : i * stride + 0 ≡ i * stride = omega arith in rw e at ((x.rows i h).bits b f)

  packed_bits : (i : ℕ) → i < rank → (b : ℕ) → b < 64 * row_words → basis_row now i b ≡ rows_of mid stride i b
  packed_bits i h b f = row_bits now i b f ∙ words
    where
      words : bits_from now (i * row_words) b ≡ bits_from mid (i * stride) b
      words = packed_bit z i h b f

  based : Based M l n was rank now
  based = record {
    rows = λ i h. (x.rows i h).is;
    few = y.rows.few;
    lead = y.rows.lead;
    reduced = reduced_like (λ i h b f. packed_bits i h b (omega arith)) (Reduction.reduced y);
    past = λ i h b f.
        by_cases (dec_lt b (64 * row_words))
        (λ k. packed_bits i h b k ∙ Reduction.clear y b k (λ q m. came q m b k ∙ (x.rows q m).is.clear b f) i (omega (arith, y.rows.few)))
        (λ k. row_past now i b (omega arith));
    sums = λ i h. spanned_like (λ q m b f. came q m b (omega arith)) (λ b f. packed_bits i h b (omega arith)) (Reduction.from_rows y fits i h);
    all = λ i h. spanned_like (λ q m b f. sym (packed_bits q m b (omega arith))) (λ b f. sym (came i h b (omega arith))) (Reduction.to_rows y fits i h);
    long = z.long ∙ y.kept.long ∙ x.long;
    zeros = λ j h k. z.zeros j (omega arith) k;
    rest = λ j h. z.behind j h ∙ y.kept.behind j (omega arith) ∙ x.behind j (omega arith);
  }

-- the same where the columns are counted by a number k that the generator gives as its size
pub based_by_size : (M : Machine) (l n rank k : ℕ) → k ≡ M.size → M.size ≤ 64 * row_words → n ≤ most_bits → (was filled mid now : List ℕ) → Filled M l n was filled
    → ReducedForm filled n stride row_words k rank mid → Packed mid rank stride row_words work_words now → Based M l n was rank now
based_by_size M l n rank k e fits few was filled mid now x y z = based M l n rank fits few was filled mid now x (rw e at y) z

-- ---- the basis of the description's machine

module _ (g : Fields) (p : Prepared) (a : Accepted g) (y : PreparedFor g p) (t l : ℕ) (lo : 0 < l) (hi : l ≤ (machine g).width) (was : List ℕ) (rank : ℕ) (now : List ℕ)
    (x : Based (machine_of p) l (t * l) was rank now) where
  -- the rows are those of document 01
  named : (i : ℕ) → i < t * l → (b : ℕ) → b < size g → state_row (machine_of p) l i b ≡ row (machine g) l i b
  unfolding row
  named i h b f =
      sym (pair-unit (size g) b (state_row (machine_of p) l i) f) ∙ (row_prepared g p a y l i (state_row (machine_of p) l i) lo hi (x.rows i h)).sum (unit b)

  pub basis_of : BasisOf (machine g) t l rank (basis_row now)
  basis_of =
      let e : (machine_of p).size ≡ size g = prepared_size g p a y in
      record {
        lead = x.lead;
        reduced = subst (λ k. Reduced k rank (basis_row now) x.lead) e x.reduced;
        past = λ i h b f. x.past i h b (omega (arith, e));
        sums = λ i h. spanned_like named (λ _ _. refl) (subst (λ k. Spanned k (t * l) (state_row (machine_of p) l) (basis_row now i)) e (x.sums i h));
        all = λ i h. spanned_like (λ _ _ _ _. refl) (λ b f. sym (named i h b f)) (subst (λ k. Spanned k rank (basis_row now) (state_row (machine_of p) l i)) e (x.all i h));
      }

  -- the row of output bit 0 is not zero
  pub rank_some : 0 < t * l → 0 < rank
  unfolding bit_of xorsum
  rank_some h =
      by_cases (dec_lt 0 rank) (λ k. k)
      (λ k. let e : rank ≡ 0 = omega arith in
      let q = row_prepared g p a y l 0 (state_row (machine_of p) l 0) lo hi (x.rows 0 h) in
      let (s, o) = machine_sets g a in
      absurd
      (true≢false
      (sym o ∙ sym (bit-first (machine g) l 0 s lo) ∙ sym (q.sum s)
      ∙ pair-none (size g) (state_row (machine_of p) l 0) s (λ b f. rw e at ((x.all 0 h).sum b (omega (arith, prepared_size g p a y)))))))

-- ---- the promise, of an answer and of a refusal

module _ (g : Fields) (t : Dimension) (l : Resolution) (was : List ℕ) where
  pub refused_as : (r : Refusal) → refusal_number r ≡ basis_refusal g t.0 l.0 (length was) → BasisRows g t l was (reply_of (Err r)) was
  refused_as r e = record {
    refusal = e;
    rows = λ z. absurd (refused r z);
    zeros = λ z. absurd (refused r z);
    rest = λ z. absurd (refused r z);
    long = refl;
    within = omega arith;
    refused = λ _. (refl, refl);
  }

  module _ (bits : OutputBits) (x : AskedFor g t.0 l.0 bits) (few : t.0 * l.0 ≤ size g) (room : work_words ≤ length was)
      (e : 0 ≡ basis_refusal g t.0 l.0 (length was)) (rank : ℕ) (now : List ℕ) (small : (i : ℕ) → get_or now i 0 < 2 ^ 64) where
    wide : bits.l ≤ (machine g).width
    wide = omega (arith, bits.within, prepared_width g bits.generator x.passed.accepted x.prepared)

    pub handed : Based (machine_of bits.generator) bits.l (t.0 * bits.l) was rank now → BasisRows g t l was (reply_of (Ok (row_words * rank))) now
    handed d = record {
      refusal = e;
      rows = λ _. record {
        rank = rank;
        some = rank_some g bits.generator x.passed.accepted x.prepared t.0 bits.l bits.some wide was rank now d (product_some t.0 bits.l x.passed.t_least bits.some);
        count = refl;
        rows = rw x.same at (basis_of g bits.generator x.passed.accepted x.prepared t.0 bits.l bits.some wide was rank now d);
        small = λ i _. small i;
      };
      zeros = λ _. d.zeros;
      rest = λ _. d.rest;
      long = d.long;
      within = omega (arith, (rw x.same at d.few), few, size_most g bits.generator x.passed.accepted x.prepared, room);
      refused = λ z. absurd (z refl);
    }

-- ---- the part that is handed back

basis_like : (M : Machine) (t l n : ℕ) (R Q : ℕ → Word) → ((i : ℕ) → i < n → (b : ℕ) → Q i b ≡ R i b) → BasisOf M t l n R → BasisOf M t l n Q
basis_like M t l n R Q e x = record {
  lead = x.lead;
  reduced = reduced_like (λ i h b _. e i h b) x.reduced;
  past = λ i h b f. e i h b ∙ x.past i h b f;
  sums = λ i h. spanned_like (λ _ _ _ _. refl) (λ b _. e i h b) (x.sums i h);
  all = λ i h. spanned_like (λ q m b _. sym (e q m b)) (λ _ _. refl) (x.all i h);
}

module _ (g : Fields) (t : Dimension) (l : Resolution) (words : ℕ) (now : List ℕ) (fits : words ≤ length now) (x : Handed g t l words now) where
  part_bits : (i : ℕ) → i < x.rank → (b : ℕ) → basis_row (take words now) i b ≡ basis_row now i b
  part_bits i h b =
      by_cases (dec_lt b (64 * row_words))
      (λ k. row_bits (take words now) i b k ∙ cut b (omega (arith, x.count)) ∙ sym (row_bits now i b k))
      (λ k. row_past (take words now) i b (omega arith) ∙ sym (row_past now i b (omega arith)))
    where
      cut : (b : ℕ) → i * row_words + b / 64 < words → bits_from (take words now) (i * row_words) b ≡ bits_from now (i * row_words) b
      cut b f = bits_same now (take words now) (i * row_words) b (get_or-take words now (i * row_words + b / 64) 0 f)

  pub part_handed : Handed g t l (length (take words now)) (take words now)
  part_handed =
      let e : length (take words now) ≡ words = length-take-le words now fits in
      record {
        rank = x.rank;
        some = x.some;
        count = e ∙ x.count;
        rows = basis_like (machine g) t.0 l.0 x.rank (basis_row now) (basis_row (take words now)) part_bits x.rows;
        small = λ i h. rw (get_or-take words now i 0 (omega arith)) (x.small i (omega arith));
      }

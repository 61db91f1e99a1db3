-- From rows in a buffer to the answer: the first dependent set of rows is that of the output bits, and more rows than the state has bits are never all independent.
use Rattle.std.specs.Prelude.{◌≡◌, refl, Bool, true, false, ◌&&◌, List, ℕ, zero, suc, ◌+◌, ◌*◌, ◌/◌, ◌%◌, ◌^◌, ◌≤◌, ◌<◌, length, get_or, replicate, Option, Some, None, Ok, Err}
use Rattle.std.proofs.Common.{sym, ap, ◌∙◌, true≢false, arith, zero-add, lit<}
use Rattle.std.proofs.Math.ListN.{get_or-eq_default}
use Rattle.std.proofs.Math.Logic.{by_cases}
use Rattle.std.proofs.Math.Decide.{dec_lt}
use Rattle.std.proofs.lemmas.Option.{none-some}
use Rattle.theory.specs.Def.{Linear}
use Rattle.theory.specs.Laws.{xorsum_cong}
use Rattle.digits.specs.Def.{bits_of, bits_from}
use Rattle.digits.specs.Laws.{digit-zero}
use Rattle.kinds.specs.Generator.{Machine}
use Rattle.document.specs.declared.Fields.{Fields}
use Rattle.document.specs.declared.Dimension.{Dimension}
use Rattle.document.specs.declared.Resolution.{Resolution}
use Rattle.document.specs.declared.refusals.Refusal.{Refusal}
use Rattle.document.proofs.Refused.{refused}
use Rattle.document.specs.Answer.{refusal_number}
use Rattle.document.specs.Limits.{row_words, most_bits, work_words}
use Rattle.document.specs.Generator.{machine, size}
use Rattle.document.specs.Refusals.{question_refusal}
use Rattle.document.specs.Ranges.{Accepted}
use Rattle.document.specs.Cells.{cell_bit, Answer}
use Rattle.document.specs.Memory.{Front}
use Rattle.document.specs.Theorems.{machine_linear, cell_linear, yes_is_even}
use Rattle.running.specs.declared.ready.Prepared.{Prepared}
use Rattle.running.specs.Prepared.{PreparedFor, machine_of}
use Rattle.running.specs.Theorems.{prepared_size, prepared_width}
use Rattle.rows.specs.Theorems.{RowOf}
use Rattle.span.specs.Def.{RowsOf, DependentRows, IndependentRows}
use Rattle.span.specs.Leads.{dependent_same, independent_same}
use Rattle.span.specs.Outputs.{independent_outputs}
use Rattle.span.specs.Theorems as Span
use Rattle.elimination.specs.Words.{Cleared}
use Rattle.elimination.specs.Rows.{rows_of, set_of, Tagging, Outcome}
use Rattle.elimination.specs.Theorems.{finished_independent, stopped_independent, stopped_set, stopped_set_ends}
use Rattle.elimination.proofs.RowBits.{bits_same}
use Rattle.filling.specs.declared.bits.OutputBits.{OutputBits}
use Rattle.filling.specs.Asked.{AskedFor}
use Rattle.filling.specs.Rows.{stride, state_row, Filled}
use Rattle.filling.specs.Theorems.{rows_cells, not_yes}
use Rattle.question.specs.declared.Dependent.{Dependent}
use Rattle.question.specs.Promises.{Asked, reply_of}
use Rattle.question.specs.Searches.{Enough, FirstOf, Searched, SetOf, Gives, Finds, Decided}

pub zeros : (n i : ℕ) → ◌≡◌ {A = ℕ} (get_or (replicate n 0) i 0) 0
zeros zero i = refl
zeros (suc n) zero = refl
zeros (suc n) (suc i) = zeros n i

pub zeros_small : (n i : ℕ) → ◌<◌ (get_or (replicate n 0) i 0) (2 ^ 64)
zeros_small n i = rw (zeros n i) (lit< tt)

-- ---- `search`

module _ (M : Machine) (l n : ℕ) (few : n ≤ 64 * row_words) (ws filled tagged : List ℕ) (x : Filled M l n ws filled) (y : Tagging filled n stride stride row_words tagged) where
  -- the tags leave the rows alone
  came : (i : ℕ) → i < n → (b : ℕ) → b < 64 * row_words → state_row M l i b ≡ rows_of tagged stride i b
  came i h b f =
      let e : i * stride + 0 ≡ i * stride = omega arith in
      sym (bits_same filled tagged (i * stride) b (y.before i (b / 64) h (omega arith)) ∙ rw e at ((x.rows i h).bits b f))

  pub searched : (slots out slots' : List ℕ) (found : Option ℕ) → Outcome tagged n stride stride row_words slots out slots' found → Searched M l n ws found out
  searched slots out slots' (Some d) z = record {
    rows = λ i h. (x.rows i h).is;
    cases = record {
      place = z.place;
      set = dependent_same (state_row M l) (λ i h. came i (omega (arith, z.place))) (stopped_set (omega arith) z (omega arith) y.tags);
      before = independent_same (64 * row_words) d (rows_of tagged stride) (state_row M l) (λ i h. came i (omega (arith, z.place))) (stopped_independent (omega arith) z);
      ends = stopped_set_ends (omega arith) z (omega arith) y.tags;
    };
    long = z.state.long ∙ y.long ∙ x.long;
    behind = λ j h. z.state.behind j (omega (arith, z.place)) ∙ y.behind j h ∙ x.behind j h;
  }
  searched slots out slots' None z = record {
    rows = λ i h. (x.rows i h).is;
    cases = independent_same (64 * row_words) n (rows_of tagged stride) (state_row M l) came (finished_independent (omega arith) z);
    long = z.state.long ∙ y.long ∙ x.long;
    behind = λ j h. z.state.behind j h ∙ y.behind j h ∙ x.behind j h;
  }

-- ---- `decide`

-- words that are copied have the same bits
copied_bits : (ws r : List ℕ) (at : ℕ) → ((k : ℕ) → k < row_words → get_or r k 0 ≡ get_or ws (at + k) 0) → (i : ℕ) → i < 64 * row_words → bits_of r i ≡ bits_from ws at i
unfolding bits_of bits_from
copied_bits ws r at e i h = rw (e (i / 64) (omega arith))

-- the second half of a row is its set
half_bits : (ws : List ℕ) (at i : ℕ) → bits_from ws (at + row_words) i ≡ bits_from ws at (64 * row_words + i)
unfolding bits_from
half_bits ws at i =
    let e : (64 * row_words + i) / 64 ≡ row_words + i / 64 = omega arith in
    let f : (64 * row_words + i) % 64 ≡ i % 64 = omega arith in
    let q : at + row_words + i / 64 ≡ at + (row_words + i / 64) = omega arith in
    rw (e, f, q)

pub zero_bits : (r : List ℕ) → ((k : ℕ) → ◌≡◌ {A = ℕ} (get_or r k 0) 0) → (i : ℕ) → bits_of r i ≡ false
unfolding bits_of
zero_bits r e i = rw (e (i / 64)) (digit-zero (i % 64))

-- no bit is set behind the words
pub past_bits : (r : List ℕ) → length r ≡ row_words → (i : ℕ) → 64 * row_words ≤ i → bits_of r i ≡ false
unfolding bits_of
past_bits r e i h = rw (get_or-eq_default r 0 {n = i / 64} (omega arith)) (digit-zero (i % 64))

first_same : (M : Machine) (l n d : ℕ) (S T : ℕ → Bool) → n ≤ 64 * row_words → ((i : ℕ) → i < 64 * row_words → T i ≡ S i) → FirstOf M l n d S → FirstOf M l n d T
first_same M l n d S T f e x = record {
  place = x.place;
  set = dependent_set d x.place x.set;
  before = x.before;
  ends = λ i h g. e i g ∙ x.ends i h g;
}
  where
    dependent_set : (d : ℕ) → d < n → DependentRows (64 * row_words) (state_row M l) d S → DependentRows (64 * row_words) (state_row M l) d T
    dependent_set d h y = record {
      last = e d (omega arith) ∙ y.last;
      cancels = λ i g. xorsum_cong (suc d) _ _ (λ p q. ap (λ b. b && state_row M l p i) (e p (omega arith))) ∙ y.cancels i g;
    }

module _ (M : Machine) (l n : ℕ) (few : n ≤ most_bits + 1) (was mid : List ℕ) where
  -- the set that a row carries, copied
  carried : (d : ℕ) (first : Dependent) → FirstOf M l n d (set_of mid stride row_words d) → SetOf mid d first → Finds M l n first
  carried d first f y = record {
    first_of = rw y.place (first_same M l n d (set_of mid stride row_words d) (bits_of first.set) (omega arith) same f);
    long = y.long;
    small = y.small;
  }
    where
      same : (i : ℕ) → i < 64 * row_words → bits_of first.set i ≡ set_of mid stride row_words d i
      same i h = copied_bits mid first.set (d * stride + row_words) y.words i h ∙ half_bits mid (d * stride) i

  module _ (now : List ℕ) (z : Cleared mid 0 work_words now) where
    memory : (found : Option ℕ) → Searched M l n was found mid → Front work_words (λ _. 0) was now
    memory found x = record {
      long = z.kept.long ∙ x.long;
      front = λ i h. rw zero-add at (z.here i h);
      rest = λ i h. z.kept.above i (omega arith) ∙ x.behind i (omega arith);
    }

    pub decided : (found : Option ℕ) (first : Option Dependent) → Searched M l n was found mid → Gives mid found first → Decided M l n was first now
    decided None None x y = record { rows = x.rows; cases = x.cases; memory = memory None x }
    decided None (Some first) x y = absurd (none-some first (sym y))
    decided (Some d) None x y = absurd y
    decided (Some d) (Some first) x y = record { rows = x.rows; cases = carried d first x.cases y; memory = memory (Some d) x }

-- ---- the answer

module _ (g : Fields) (p : Prepared) (a : Accepted g) (y : PreparedFor g p) (t l : ℕ) (lo : 0 < l) (hi : l ≤ (machine g).width) (n : ℕ) (e : Enough (size g) (t * l) n)
    (rows : (i : ℕ) → i < n → RowOf (machine_of p) l i (state_row (machine_of p) l i)) where
  linear : (i : ℕ) → Linear (cell_bit (machine g) l i)
  linear = cell_linear (machine g) (machine_linear g) l

  cells : RowsOf (64 * row_words) n (state_row (machine_of p) l) (cell_bit (machine g) l)
  cells = rows_cells g p a y l lo hi n (state_row (machine_of p) l) rows (λ _ _ _ _. refl)

  -- no more than k rows are independent, so that all t·l were looked at
  all : IndependentRows (64 * row_words) (state_row (machine_of p) l) n → n ≡ t * l
  all i = by_cases (dec_lt (size g) (t * l))
      (λ h. absurd (omega (arith, e.past h, Span.bound cells linear n (omega arith) i)))
      (λ h. e.all (omega arith))

  pub yes_answer : IndependentRows (64 * row_words) (state_row (machine_of p) l) n → Answer (machine g) t l true 0 (bits_of (replicate row_words 0))
  yes_answer i =
      let q : n ≡ t * l = all i in
      record {
        verdict = sym ((yes_is_even (machine g) (machine_linear g) t l).1 (rw q at (Span.even cells linear n (omega arith) i)));
        even = λ _. (refl, zero_bits (replicate row_words 0) (zeros row_words));
        uneven = λ f. absurd (true≢false f);
      }

  pub no_answer : (first : Dependent) → Finds (machine_of p) l n first → Answer (machine g) t l false first.d (bits_of first.set)
  no_answer first x =
      let f = x.first_of in
      record {
        verdict = sym (not_yes _ (λ b. Span.uneven cells linear first.d (bits_of first.set) f.place f.set (t * l) (omega (arith, f.place, e.under)) ((yes_is_even (machine g) (machine_linear g) t l).0 b)));
        even = λ b. absurd (true≢false (sym b));
        uneven = λ _. record {
          place = omega (arith, f.place, e.under);
          set = Span.dependent_outputs cells first.d f.place (bits_of first.set) f.set;
          past = λ i b. by_cases (dec_lt i (64 * row_words)) (f.ends i b) (λ c. past_bits first.set x.long i (omega arith));
          earliest = independent_outputs cells first.d (omega (arith, f.place)) f.before;
        };
      }

-- ---- the promise, of an answer and of a refusal

module _ (g : Fields) (t : Dimension) (l : Resolution) (was : List ℕ) where
  pub refused_as : (r : Refusal) → refusal_number r ≡ question_refusal g t.0 l.0 (length was) → Asked g t l was (reply_of (Err r)) was
  refused_as r e = record {
    refusal = e;
    long = refl;
    small = λ k _. zeros_small row_words k;
    answer = λ z. absurd (refused r z);
    memory = λ z. absurd (refused r z);
    refused = λ _. (refl, refl, zeros row_words, refl);
  }

  module _ (bits : OutputBits) (x : AskedFor g t.0 l.0 bits) (e : 0 ≡ question_refusal g t.0 l.0 (length was)) (n : ℕ) (m : Enough (machine_of bits.generator).size (t.0 * bits.l) n) where
    wide : bits.l ≤ (machine g).width
    wide = omega (arith, bits.within, prepared_width g bits.generator x.passed.accepted x.prepared)

    counted : Enough (size g) (t.0 * bits.l) n
    counted = rw (prepared_size g bits.generator x.passed.accepted x.prepared) at m

    pub answered_as : (now : List ℕ) (first : Option Dependent) → Decided (machine_of bits.generator) bits.l n was first now → Asked g t l was (reply_of (Ok first)) now
    answered_as now None d = record {
      refusal = e;
      long = refl;
      small = λ k _. zeros_small row_words k;
      answer = λ _. rw x.same at (yes_answer g bits.generator x.passed.accepted x.prepared t.0 bits.l bits.some wide n counted d.rows d.cases);
      memory = λ _. d.memory;
      refused = λ z. absurd (z refl);
    }
    answered_as now (Some first) d = record {
      refusal = e;
      long = d.cases.long;
      small = d.cases.small;
      answer = λ _. rw x.same at (no_answer g bits.generator x.passed.accepted x.prepared t.0 bits.l bits.some wide n counted d.rows first d.cases);
      memory = λ _. d.memory;
      refused = λ z. absurd (z refl);
    }

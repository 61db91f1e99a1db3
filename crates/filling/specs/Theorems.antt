-- What callers conclude from the contracts of `fill` and `first_dependent`, for a generator that is prepared of a description's fields.
use Rattle.std.specs.Prelude.{◌≡◌, refl, Bool, true, false, List, ℕ, ◌+◌, ◌*◌, ◌≤◌, ◌<◌, leb}
use Rattle.std.proofs.Common.{sym, ◌∙◌, mul-le-mul, arith, le-leb}
use Rattle.std.proofs.Math.Logic.{by_cases}
use Rattle.std.proofs.Math.Decide.{dec_lt}
use Rattle.std.proofs.lemmas.Bool.{lt-leb}
use Rattle.theory.specs.Def.{bit, Linear, Equidistributed}
use Rattle.theory.specs.Sums.{pair_same}
use Rattle.digits.specs.Def.{Word}
use Rattle.document.specs.declared.Fields.{Fields}
use Rattle.document.specs.Limits.{most_bits, most_output, row_words}
use Rattle.document.specs.Generator.{machine, size}
use Rattle.document.specs.Ranges.{Accepted}
use Rattle.document.specs.Cells.{cell_bit, is_yes}
use Rattle.document.specs.Theorems.{machine_linear, machine_width, cell_linear, yes_is_even}
use Rattle.running.specs.declared.ready.Prepared.{Prepared}
use Rattle.running.specs.Prepared.{PreparedFor, machine_of}
use Rattle.running.specs.Theorems.{prepared_size, prepared_width, ready_most, ready_width}
use Rattle.rows.specs.Theorems.{RowOf, row_prepared, row_cell}
use Rattle.span.specs.Def.{RowsOf}
use Rattle.span.specs.Theorems as Span
use Rattle.filling.specs.Rows.{state_row, FirstDependent}

-- a state has no more bits than a row
pub ready-size : (p : Prepared) → (machine_of p).size ≤ most_bits
ready-size = ready_most

-- and an output no more bits than a word
pub ready_bits : (p : Prepared) → (machine_of p).width ≤ most_output
ready_bits = ready_width

-- so that t·l is computed with room to spare
pub product_small : (k t l : ℕ) → k ≤ most_bits → t ≤ k → l ≤ most_output → t * l ≤ most_bits * most_output
product_small k t l h a b = let c : t ≤ most_bits = omega arith in mul-le-mul c b

pub not_yes : (b : Bool) → ¬ (b ≡ true) → b ≡ false
not_yes true n = absurd (n refl)
not_yes false n = refl

module _ (g : Fields) (p : Prepared) (a : Accepted g) (y : PreparedFor g p) where
  pub size_most : size g ≤ most_bits
  size_most = omega (arith, prepared_size g p a y, ready-size p)

  -- L is the field
  pub bits_width : (machine g).width ≡ g.bits
  bits_width = machine_width g

  pub prepared_bits : (machine_of p).width ≡ g.bits
  prepared_bits = prepared_width g p a y ∙ bits_width

  module _ (l : ℕ) (lo : 0 < l) (hi : l ≤ (machine g).width) where
    linear : (i : ℕ) → Linear (cell_bit (machine g) l i)
    linear = cell_linear (machine g) (machine_linear g) l

    -- rows that have the bits of the output bits' rows stand for the output bits
    pub rows_cells : (n : ℕ) (row : ℕ → Word) → ((i : ℕ) → i < n → RowOf (machine_of p) l i (state_row (machine_of p) l i))
        → ((i : ℕ) → i < n → (b : ℕ) → b < 64 * row_words → row i b ≡ state_row (machine_of p) l i b) → RowsOf (64 * row_words) n row (cell_bit (machine g) l)
    rows_cells n row x e = record {
      fits = omega (arith, size_most);
      clear = λ i h b f f'. e i h b f' ∙ (row_prepared g p a y l i (state_row (machine_of p) l i) lo hi (x i h)).clear b f;
      is = λ i h s.
          pair_same (size g) (row i) (state_row (machine_of p) l i) (bit s) (bit s) (λ b f. e i h b (omega (arith, size_most))) (λ _ _. refl)
          ∙ row_cell (machine g) l i (state_row (machine_of p) l i) (row_prepared g p a y l i (state_row (machine_of p) l i) lo hi (x i h)) s;
    }

    -- ---- `first_dependent`, where there are more rows than state bits

    module _ (n : ℕ) (ws : List ℕ) (d : ℕ) (out : List ℕ) (many : size g < n) (x : FirstDependent (machine_of p) l n ws d out) where
      found : d < n
      found = by_cases (dec_lt d n) (λ h. h)
          (λ h. let e : d ≡ n = omega (arith, x.most) in
          absurd (omega (arith, Span.bound (rows_cells n (state_row (machine_of p) l) (λ i b. x.rows i b (omega arith)) (λ _ _ _ _. refl)) linear n (omega arith) (rw e at x.before))))

      cells : RowsOf (64 * row_words) (d + 1) (state_row (machine_of p) l) (cell_bit (machine g) l)
      cells = rows_cells (d + 1) (state_row (machine_of p) l) (λ i h. x.rows i (omega (arith, found)) (omega arith)) (λ _ _ _ _. refl)

      -- m output bits fill their cells evenly just where m ≤ d
      pub even_below : (m : ℕ) → m ≤ d → Equidistributed (cell_bit (machine g) l) m
      even_below m h = Span.even cells linear m (omega arith) (λ e f. x.before e (omega arith))

      pub uneven_above : (m : ℕ) → d < m → ¬ Equidistributed (cell_bit (machine g) l) m
      uneven_above m h = let (S, z) = x.at found in Span.uneven cells linear d S (omega arith) z m h

      -- and so d answers every question of the resolution l
      pub answers_all : (t : ℕ) → is_yes (machine g) t l ≡ leb (t * l) d
      answers_all t = by_cases (dec_lt d (t * l))
          (λ h. not_yes _ (λ e. uneven_above (t * l) h ((yes_is_even (machine g) (machine_linear g) t l).0 e)) ∙ sym (lt-leb (t * l) d h))
          (λ h. let f : t * l ≤ d = omega arith in (yes_is_even (machine g) (machine_linear g) t l).1 (even_below (t * l) f) ∙ sym (le-leb (t * l) d f))

      -- there are no more independent output bits than state bits
      pub few : d ≤ size g
      few = Span.bound cells linear d (omega arith) x.before

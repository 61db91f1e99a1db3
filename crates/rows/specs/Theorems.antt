-- What callers conclude from the contracts of `first_row` and `backed`: rows built one from another are the output bits of the description's machine.
use Rattle.std.specs.Prelude.{◌≡◌, refl, List, ℕ, ◌-◌, ◌/◌, ◌%◌, ◌≤◌, ◌<◌}
use Rattle.std.proofs.Common.{sym, ap, subst, ◌∙◌, mod-lt, lt_of_lt_of_le}
use Rattle.theory.specs.Def.{pair, Bits, bit}
use Rattle.theory.specs.Sums.{pair_same}
use Rattle.digits.specs.Def.{Word, Clear, bits_of}
use Rattle.kinds.specs.Generator.{Machine}
use Rattle.kinds.specs.Rows.{bit-first, bit-next}
use Rattle.kinds.specs.Alike.{alike_output}
use Rattle.document.specs.declared.Fields.{Fields}
use Rattle.document.specs.Generator.{machine}
use Rattle.document.specs.Ranges.{Accepted}
use Rattle.document.specs.Cells.{bit_of, successive, cell_bit}
use Rattle.running.specs.declared.ready.Prepared.{Prepared}
use Rattle.running.specs.Prepared.{PreparedFor, machine_of}
use Rattle.running.specs.Theorems.{prepared_alike}
use Rattle.rows.specs.Post.{FirstRow, BackRow}

-- ρ is the row of output bit i of the resolution l, bit i mod l of output i div l
pub record RowOf (M : Machine) (l i : ℕ) (ρ : Word) : Type 0 where
  pub clear : Clear M.size ρ
  pub sum : (s : Word) → pair M.size ρ s ≡ bit_of M successive l i s

-- the bits of output 0
pub row_first : (M : Machine) (l i : ℕ) (row : List ℕ) → i < l → FirstRow M i row → RowOf M l i (bits_of row)
unfolding bit_of
row_first M l i row h x = record { clear = x.clear; sum = λ s. x.sum s ∙ sym (bit-first M l i s h) }

-- the row i from the row i - l
pub row_next : (M : Machine) (l i : ℕ) (row r : List ℕ) → 0 < l → l ≤ i → RowOf M l (i - l) (bits_of row) → BackRow M row r → RowOf M l i (bits_of r)
unfolding bit_of
row_next M l i row r p h x y = record { clear = y.clear; sum = λ s. y.sum s ∙ x.sum (M.move s) ∙ sym (bit-next M l i s p h) }

-- the same bits, laid elsewhere
pub row_same : (M : Machine) (l i : ℕ) (ρ σ : Word) → ((b : ℕ) → ρ b ≡ σ b) → RowOf M l i ρ → RowOf M l i σ
row_same M l i ρ σ e x = record {
  clear = λ b h. sym (e b) ∙ x.clear b h;
  sum = λ s. pair_same M.size σ ρ s s (λ b _. sym (e b)) (λ _ _. refl) ∙ x.sum s;
}

-- a prepared generator's rows are those of its description
pub row_prepared : (g : Fields) (p : Prepared) → Accepted g → PreparedFor g p → (l i : ℕ) (ρ : Word) → 0 < l → l ≤ (machine g).width → RowOf (machine_of p) l i ρ → RowOf (machine g) l i ρ
unfolding bit_of
row_prepared g p x y l i ρ z h q =
    let a = prepared_alike g p x y in
    record {
      clear = subst (λ n. Clear n ρ) a.size q.clear;
      sum = λ s. ap (λ n. pair n ρ s) (sym a.size) ∙ q.sum s
          ∙ alike_output (machine_of p) (machine g) a (i / l) (i % l) (lt_of_lt_of_le (mod-lt i z) h) s s (λ _ _. refl);
    }

-- over the 2 ^ k start states: the row's sum is the cell's bit
pub row_cell : (M : Machine) (l i : ℕ) (ρ : Word) → RowOf M l i ρ → (s : Bits M.size) → pair M.size ρ (bit s) ≡ cell_bit M l i s
unfolding cell_bit
row_cell M l i ρ x s = x.sum (bit s)

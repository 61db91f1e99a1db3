-- Rows in a buffer: got, put and kept.
use Rattle.std.specs.Prelude.{◌≡◌, List, ℕ, ◌+◌, ◌*◌, ◌-◌, ◌/◌, ◌%◌, ◌≤◌, ◌<◌, length, get_or}
use Rattle.std.proofs.Common.{sym, ap, ◌∙◌, arith, lt-ltb, le-ltb}
use Rattle.std.proofs.Math.Logic.{by_cases}
use Rattle.std.proofs.Math.Decide.{dec_lt}
use Rattle.std.proofs.Math.ListN.{get_or-eq_default}
use Rattle.theory.specs.Def.{unit}
use Rattle.theory.specs.Sums.{pair-unit}
use Rattle.digits.specs.Def.{Word, digit, bits_of, bits_from}
use Rattle.digits.specs.Laws.{digit-zero}
use Rattle.kinds.specs.Generator.{Machine}
use Rattle.document.specs.Limits.{row_words}
use Rattle.document.specs.Basis.{row}
use Rattle.rows.specs.Theorems.{RowOf, row_same}
use Rattle.elimination.specs.Words.{Written}
use Rattle.elimination.proofs.RowBits.{bits_same}
use Rattle.running.specs.Prepared.{machine_of}
use Rattle.filling.specs.declared.bits.OutputBits.{OutputBits}
use Rattle.filling.specs.Rows.{stride, state_row, Stands, StandsAll, Filled}
use Rattle.filling.specs.Theorems.{ready-size}

-- ---- rows

module _ (M : Machine) (l i : ℕ) where
  -- a row is told by its output bit
  pub row_state : (ρ : Word) → RowOf M l i ρ → (b : ℕ) → ρ b ≡ state_row M l i b
  unfolding state_row row
  row_state ρ x b = by_cases (dec_lt b M.size)
      (λ h. rw (lt-ltb b M.size h) (sym (pair-unit M.size b ρ h) ∙ x.sum (unit b)))
      (λ h. let g : M.size ≤ b = omega arith in rw (le-ltb b M.size g) (x.clear b g))

  pub stands_put : (ws out s : List ℕ) (at : ℕ) → RowOf M l i (bits_of s) → Written ws at row_words (λ k. get_or s k 0) out → Stands M l i out at
  unfolding bits_from bits_of
  stands_put ws out s at x y = record {
    is = row_same M l i (bits_of s) (state_row M l i) (row_state (bits_of s) x) x;
    bits = λ b h. rw (y.here (b / 64) (omega arith)) (row_state (bits_of s) x b);
  }

  pub stands_kept : (ws out : List ℕ) (at : ℕ) → ((k : ℕ) → k < row_words → get_or out (at + k) 0 ≡ get_or ws (at + k) 0) → Stands M l i ws at → Stands M l i out at
  stands_kept ws out at e x = record { is = x.is; bits = λ b h. bits_same ws out at b (e (b / 64) (omega arith)) ∙ x.bits b h }

  pub stands_got : (ws r : List ℕ) (at : ℕ) → M.size ≤ 64 * row_words → length r ≡ row_words → ((k : ℕ) → k < row_words → get_or r k 0 ≡ get_or ws (at + k) 0)
      → Stands M l i ws at → RowOf M l i (bits_of r)
  unfolding bits_of bits_from
  stands_got ws r at f e w x = row_same M l i (state_row M l i) (bits_of r)
      (λ b. by_cases (dec_lt b (64 * row_words))
      (λ h. sym (x.bits b h) ∙ sym (ap (λ n. digit n (b % 64)) (w (b / 64) (omega arith))))
      (λ h. x.is.clear b (omega arith) ∙ sym (rw (get_or-eq_default r 0 {n = b / 64} (omega arith)) (digit-zero (b % 64)))))
      x.is

-- the row of one output before, as it was got
pub before_got : (o : OutputBits) (i off : ℕ) (ws r : List ℕ) → o.l ≤ i → length r ≡ row_words
    → ((k : ℕ) → k < row_words → get_or r k 0 ≡ get_or ws ((i - o.l) * stride + off + k) 0)
    → StandsAll (machine_of o.generator) o.l i off ws → RowOf (machine_of o.generator) o.l (i - o.l) (bits_of r)
before_got o i off ws r h e w x =
    stands_got (machine_of o.generator) o.l (i - o.l) ws r _ (omega (arith, ready-size o.generator)) e w (x (i - o.l) (omega (arith, o.some)))

-- ---- filling

module _ (M : Machine) (l i : ℕ) (ws mid out s : List ℕ) (x : Filled M l i ws mid) (y : Written mid (i * stride) row_words (λ k. get_or s k 0) out) (z : RowOf M l i (bits_of s)) where
  pub filled_more : Filled M l (i + 1) ws out
  filled_more = record {
    long = y.kept.long ∙ x.long;
    rows = λ q h. by_cases (dec_lt q i)
        (λ g. stands_kept M l q mid out (q * stride + 0) (λ k f. y.kept.below _ (omega arith)) (x.rows q g))
        (λ g. let e : q ≡ i = omega arith in let a : i * stride ≡ i * stride + 0 = omega arith in rw e (rw a at (stands_put M l i mid out s (i * stride) z y)));
    between = λ q k h f g. by_cases (dec_lt q i)
        (λ b. y.kept.below _ (omega arith) ∙ x.between q k b f g)
        (λ b. let e : q ≡ i = omega arith in rw e (y.kept.above _ (omega arith) ∙ x.behind _ (omega arith)));
    behind = λ j h. y.kept.above j (omega arith) ∙ x.behind j (omega arith);
  }

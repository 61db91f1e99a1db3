-- From a row's bits to what it stands for.
use mathlib.Core.Path.{◌≡◌, refl, sym, ap, ◌∙◌}
use mathlib.Core.Bool.{not}
use mathlib.Core.List.{List}
use mathlib.Core.Logic.{by_cases}
use native.Mathlib.Decide.{ℕ_discrete}
use Prim.Native.Nat.{ℕ, ◌<◌}
use lib.ListN.{replicate}
use Rattle.theory.specs.Def.{unit}
use Rattle.theory.specs.Sums.{pair_same, unit_at, unit_other}
use Rattle.digits.specs.Def.{Word, Clear, bits_of}
use Rattle.kinds.specs.Generator.{Machine}
use Rattle.kinds.specs.Transpose.{Transposed}
use Rattle.states.specs.Post.{Flipped}
use Rattle.running.proofs.Masks.{none_set}
use Rattle.rows.specs.Post.{FirstRow, BackRow}

module _ (M : Machine) (back : Word → Word) (first : ℕ → Word) (t : Transposed M back first) where
  pub from_first : (j : ℕ) (r : List ℕ) → j < M.width → ((i : ℕ) → bits_of r i ≡ first j i) → FirstRow M j r
  from_first j r l e = record {
    clear = λ i h. e i ∙ t.first_clear j l i h;
    sum = λ s. pair_same M.size _ _ s s (λ i _. e i) (λ _ _. refl) ∙ t.first_sum j s l;
  }

  pub from_back : (row r : List ℕ) → Clear M.size (bits_of row) → ((i : ℕ) → bits_of r i ≡ back (bits_of row) i) → BackRow M row r
  from_back row r c e = record {
    clear = λ i h. e i ∙ t.back_clear (bits_of row) c i h;
    sum = λ s. pair_same M.size _ _ s s (λ i _. e i) (λ _ _. refl) ∙ t.back_sum (bits_of row) s c;
  }

-- one bit alone
pub unit_bits : (n j : ℕ) (r : List ℕ) → Flipped (replicate n 0) j r → (i : ℕ) → bits_of r i ≡ unit j i
unit_bits n j r f i =
    by_cases (ℕ_discrete i j)
    (λ e. rw e (f.here ∙ ap not (none_set n j) ∙ sym (unit_at j)))
    (λ d. f.other i d ∙ none_set n i ∙ sym (unit_other j i d))

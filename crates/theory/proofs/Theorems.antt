-- The counting theorem, and what follows from it (`specs/Def.antt` has the definitions). `out` are the output bits of a machine whose state has k bits.
use Rattle.std.specs.Prelude.{◌≡◌, Bool, true, ◌↔◌, ℕ, ◌-◌, ◌^◌, ◌≤◌}
use Rattle.theory.specs.Def.{Bits, Linear, hits, Equidistributed, evenly, Independent}
use Rattle.theory.specs.Cells
use Rattle.theory.proofs.Counting

module _ {k : ℕ} (out : ℕ → Bits k → Bool) (linear : (i : ℕ) → Linear (out i)) where
  -- The counting theorem. Every pattern of the first m output bits comes from equally many states just where no dependent set of them ends below m.
  pub equidistribution : (m : ℕ) → Equidistributed out m ↔ Independent out m
  equidistribution m = (Cells.equidistributed_independent out linear m, λ I. Cells.solvable_equidistributed out linear m (Cells.independent_solvable out linear m I))

  -- Counting out the patterns decides it.
  pub counted : (m : ℕ) → (evenly out m ≡ true) ↔ Equidistributed out m
  counted m = (Counting.evenly_equidistributed out m, Counting.equidistributed_evenly out m)

  -- Each pattern then comes from exactly 2 ^ (k - m) states,
  pub exact : (m : ℕ) → Equidistributed out m → (p : ℕ → Bool) → hits out m p ≡ 2 ^ (k - m)
  exact = Counting.hits_power out

  -- and there are no more output bits than state bits.
  pub bound : (m : ℕ) → Equidistributed out m → m ≤ k
  bound = Counting.equidistributed_bound out

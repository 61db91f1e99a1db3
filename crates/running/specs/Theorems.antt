-- What callers conclude from the contracts of `prepare`, `moved` and `output`.
use Rattle.std.specs.Prelude.{◌≡◌, refl, List, ℕ, ◌+◌, ◌≤◌}
use Rattle.std.proofs.Common.{ap, ◌∙◌}
use Rattle.std.proofs.Math.Numerals.{add-one}
use Rattle.digits.specs.Def.{Word, Same, bits_of, number_of}
use Rattle.kinds.specs.Generator.{Machine, times, output_bit}
use Rattle.kinds.specs.Alike.{Alike, alike_output}
use Rattle.kinds.specs.Reads.{LocalMachine}
use Rattle.document.specs.declared.Fields.{Fields}
use Rattle.document.specs.Limits.{most_bits, most_output}
use Rattle.document.specs.Generator.{machine, size}
use Rattle.document.specs.Ranges.{Accepted}
use Rattle.document.specs.Outputs.{output}
use Rattle.running.specs.declared.ready.Prepared.{Prepared}
use Rattle.running.specs.Prepared.{Ready, PreparedFor, machine_of}
use Rattle.running.specs.Ready as R

-- ---- a prepared generator

-- it keeps its ranges
pub prepared_ready : (p : Prepared) → Ready p
prepared_ready = R.ready

-- it is the description's machine: k and L, and move and output on the bits that count
pub prepared_alike : (g : Fields) (p : Prepared) → Accepted g → PreparedFor g p → Alike (machine_of p) (machine g)
prepared_alike = R.prepared_alike

pub prepared_size : (g : Fields) (p : Prepared) → Accepted g → PreparedFor g p → (machine_of p).size ≡ size g
prepared_size g p x y = (R.prepared_alike g p x y).size

pub prepared_width : (g : Fields) (p : Prepared) → Accepted g → PreparedFor g p → (machine_of p).width ≡ (machine g).width
prepared_width g p x y = (R.prepared_alike g p x y).width

-- a run may be told of in terms of the prepared generator alone: its outputs are the document's
pub prepared_output : (g : Fields) (p : Prepared) → Accepted g → PreparedFor g p → (n : ℕ) (s : Word) → output (machine_of p) n s ≡ output (machine g) n s
unfolding output
prepared_output g p x y n s =
    let a = R.prepared_alike g p x y in
    ap (λ k. number_of k (λ j. output_bit (machine_of p) n j s)) a.width
    ∙ R.same_bits (machine g).width _ _ (λ j h. alike_output (machine_of p) (machine g) a n j h s s (λ _ _. refl))

-- bits of the state from k on play no part
pub ready_local : (p : Prepared) → LocalMachine (machine_of p)
ready_local = R.ready_local

-- a state of eight words holds its k bits
pub ready_most : (p : Prepared) → (machine_of p).size ≤ most_bits
ready_most = R.ready_most

-- a word of 32 holds an output's bits
pub ready_width : (p : Prepared) → (machine_of p).width ≤ most_output
ready_width = R.ready_width

-- ---- a run of a machine: t is the state n moves after s

pub record After (M : Machine) (n : ℕ) (s t : List ℕ) : Type 0 where
  pub bits : Same M.size (bits_of t) (times n M.move (bits_of s))

-- the start state itself: output 0 is made from it
pub after_none : (M : Machine) (s : List ℕ) → After M 0 s s
unfolding times
after_none M s = record { bits = λ _ _. refl }

module _ (M : Machine) (l : LocalMachine M) (n : ℕ) (s t : List ℕ) (a : After M n s t) where
  -- one more `moved`
  pub after_more : (u : List ℕ) → Same M.size (bits_of u) (M.move (bits_of t)) → After M (n + 1) s u
  unfolding times
  after_more u h = rw add-one (record { bits = λ i o. h i o ∙ l.move _ _ a.bits i o })

  -- `output` then gives output n
  pub after_output : (r : ℕ) → r ≡ number_of M.width (M.out (bits_of t)) → r ≡ output M n (bits_of s)
  unfolding output output_bit
  after_output r e = e ∙ R.same_bits M.width _ _ (l.out _ _ a.bits)

-- The proofs that a machine's cells are linear, and that two replies that a definition allows are one reply.
use Rattle.std.specs.Prelude.{◌≡◌, refl, Bool, true, false, cond, List, ℕ, suc, ◌*◌, ◌≤◌, ◌<◌, eqb}
use Rattle.std.proofs.Common.{sym, ◌∙◌, le_antisymm, arith, ext_get_or}
use Rattle.std.proofs.Math.Logic.{by_cases}
use Rattle.std.proofs.Math.Decide.{dec_lt}
use Rattle.theory.specs.Def.{Linear}
use Rattle.theory.specs.Theorems as T
use Rattle.theory.specs.Cells as U
use Rattle.theory.specs.Echelon.{spanned_trans}
use Rattle.digits.specs.Def.{Word}
use Rattle.kinds.specs.Generator.{Machine}
use Rattle.kinds.specs.Linear.{LinearMachine}
use Rattle.kinds.specs.Theorems.{tausworthe_linear, gfsr_linear, twisted_linear, mersenne_linear}
use Rattle.kinds.proofs.Outputs.{output_linear}
use Rattle.document.specs.declared.Fields.{Fields}
use Rattle.document.specs.Generator.{by_kind, machine}
use Rattle.document.specs.Memory.{Front}
use Rattle.document.specs.Cells.{bit_of, cell_bit, FirstSet, Answer}
use Rattle.document.specs.Basis.{row, BasisOf}

pub cell_linear : (M : Machine) → LinearMachine M → (l i : ℕ) → Linear (cell_bit M l i)
unfolding cell_bit bit_of
cell_linear M x l i = output_linear M x _ _

pub machine_linear : (g : Fields) → LinearMachine (machine g)
unfolding machine by_kind
machine_linear g = pick (eqb g.kind 1) (eqb g.kind 2) (eqb g.kind 3)
    (tausworthe_linear _ _ _ _) (gfsr_linear _ _ _ _) (twisted_linear _ _ _ _ _ _ _ _ _) (mersenne_linear _ _ _ _ _ _ _ _ _ _ _ _)
  where
    pick : (x y z : Bool) {A B C D : Machine} → LinearMachine A → LinearMachine B → LinearMachine C → LinearMachine D → LinearMachine (cond x A (cond y B (cond z C D)))
    pick true y z a b c d = a
    pick false true z a b c d = b
    pick false false true a b c d = c
    pick false false false a b c d = d

pub front_unique : (n : ℕ) (f : ℕ → ℕ) (was x y : List ℕ) → Front n f was x → Front n f was y → x ≡ y
front_unique n f was x y p q =
    ext_get_or 0 x y (p.long ∙ sym q.long)
    (λ i _. by_cases (dec_lt i n) (λ h. p.front i h ∙ sym (q.front i h)) (λ h. p.rest i (omega arith) ∙ sym (q.rest i (omega arith))))

module _ (M : Machine) (t l : ℕ) where
  -- no first set ends before another
  no_earlier : (d e : ℕ) (S T : ℕ → Bool) → FirstSet M t l d S → FirstSet M t l e T → d ≤ e
  no_earlier d e S T p q = by_cases (dec_lt e d) (λ h. absurd (p.earliest e h T q.set)) (λ h. omega arith)

  sets_agree : (d e : ℕ) (S T : ℕ → Bool) → FirstSet M t l d S → FirstSet M t l e T → (d ≡ e) × ((i : ℕ) → S i ≡ T i)
  sets_agree d e S T p q = (same, bits)
    where
      same : d ≡ e
      same = le_antisymm (no_earlier d e S T p q) (no_earlier e d T S q p)

      bits : (i : ℕ) → S i ≡ T i
      bits i = by_cases (dec_lt i (suc d))
          (λ h. U.unique (cell_bit M l) d p.earliest S T p.set (rw same q.set) i h)
          (λ h. p.past i (omega arith) ∙ sym (q.past i (omega (arith, same))))

  pub answers_agree : (says says' : Bool) (d e : ℕ) (S T : ℕ → Bool) → Answer M t l says d S → Answer M t l says' e T
      → (says ≡ says') × (d ≡ e) × ((i : ℕ) → S i ≡ T i)
  answers_agree says says' d e S T p q = go says refl
    where
      one : says ≡ says'
      one = p.verdict ∙ sym q.verdict

      go : (b : Bool) → says ≡ b → (says ≡ says') × (d ≡ e) × ((i : ℕ) → S i ≡ T i)
      go true h =
          let (x, f) = p.even h in
          let (y, g) = q.even (sym one ∙ h) in
          (one, x ∙ sym y, λ i. f i ∙ sym (g i))
      go false h =
          let (x, f) = sets_agree d e S T (p.uneven h) (q.uneven (sym one ∙ h)) in
          (one, x, f)

  pub bases_agree : (n m : ℕ) (R Q : ℕ → Word) → BasisOf M t l n R → BasisOf M t l m Q → (n ≡ m) × ((i : ℕ) → i < n → (b : ℕ) → R i b ≡ Q i b)
  bases_agree n m R Q p q =
      let (e, f) = T.reduced_unique p.reduced q.reduced
      (λ i h. spanned_trans M.size (t * l) m (row M l) Q (R i) (p.sums i h) q.all)
      (λ i h. spanned_trans M.size (t * l) n (row M l) R (Q i) (q.sums i h) p.all) in
      (e, λ i h b. by_cases (dec_lt b M.size) (f i h b) (λ g. p.past i h b (omega arith) ∙ sym (q.past i (omega (arith, e)) b (omega arith))))

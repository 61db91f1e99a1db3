-- What was read has the kind of its first byte, and that kind's length: the fields of every kind carry the byte, and another length is refused.
use Rattle.std.specs.Prelude.{◌≡◌, refl, Bool, true, false, not, ◌||◌, cond, List, ℕ, eqb, length, get_or}
use Rattle.std.proofs.Common.{sym, ap, ◌∙◌, eqb-true}
use Rattle.std.proofs.lemmas.Bool.{not-false}
use Rattle.document.specs.declared.Fields.{Fields}
use Rattle.document.specs.Generator.{by_kind}
use Rattle.document.specs.Description.{length_of, fields_of}
use Rattle.document.specs.Refusals.{outside, read_refusal}
use Rattle.document.specs.Ranges.{passed}

kind_of : (k : ℕ) (a b c d : Fields) → a.kind ≡ k → b.kind ≡ k → c.kind ≡ k → d.kind ≡ k → (by_kind k a b c d).kind ≡ k
unfolding by_kind
kind_of k a b c d p q r s = go (eqb k 1) (eqb k 2) (eqb k 3)
  where
    go : (x y z : Bool) → (cond x a (cond y b (cond z c d))).kind ≡ k
    go true y z = p
    go false true z = q
    go false false true = r
    go false false false = s

pub kind_read : (bs : List ℕ) → (fields_of bs).kind ≡ get_or bs 0 0
unfolding fields_of
kind_read bs = kind_of (get_or bs 0 0) _ _ _ _ refl refl refl refl

pub read_length : (bs : List ℕ) → read_refusal bs ≡ 0 → length bs ≡ length_of (fields_of bs).kind
unfolding read_refusal
read_length bs e =
    let (_, f) = passed 0 (eqb (length bs) 0 || outside 1 4 (get_or bs 0 0)) _ e in
    let (a, _) = passed 1 (not (eqb (length bs) (length_of (get_or bs 0 0)))) _ f in
    eqb-true _ _ (not-false _ a) ∙ ap length_of (sym (kind_read bs))

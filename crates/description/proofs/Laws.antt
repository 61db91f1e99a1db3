-- Numbers in bytes, and the bytes of each kind.
use mathlib.Core.Path.{◌≡◌, refl, sym, ap, ap₂, ◌∙◌}
use mathlib.Core.Bool.{Bool, true, false, cond, not, ◌||◌}
use mathlib.Core.List.{List, [], ◌++◌}
use Prim.Native.Nat.{ℕ, ◌≤◌, ◌<◌}
use native.Mathlib.Omega.{arith}
use lib.ListN.{length, get_or, drop}
use Rattle.document.specs.declared.Fields.{Fields}
use Rattle.document.specs.Generator.{by_kind}
use Rattle.document.specs.Description.{bytes, length_of, fields_of}
use Rattle.std.specs.Int.{w16, w32, to_be_bytes}
use Rattle.std.specs.Prelude.{◌∷◌, ◌/◌, ◌%◌, ◌^◌}
use Rattle.std.proofs.Common.{mod-eq_of_lt, rules}
use Rattle.std.specs.Prelude.{Some, None, slice_get}
use native.Mathlib.Nat.{div-one}
use Rattle.document.specs.Refusals.{field_cases, write_refusal, outside, read_refusal, range_refusal}
use Rattle.document.specs.Lowest.{after, field_rises, gives, skips}
use Rattle.document.specs.Ranges.{passed}
use borrow.Author.Tests.{ltb-false, eq-eqb, ne_eqb}
use lib.Dec.{eqb}

-- the library's bytes of a number are the document's
pub one_byte : (n : ℕ) → n < 256 → n ≡ n / 256 ^ 0 % 256
one_byte n h = sym (ap (λ x. x % 256) (div-one n) ∙ mod-eq_of_lt h)

pub two_bytes : (n : ℕ) → to_be_bytes w16 n ≡ bytes 2 n
unfolding bytes
two_bytes n = ap (λ x. n / 256 ^ 1 % 256 ∷ x % 256 ∷ []) (sym (div-one n))

pub four_bytes : (n : ℕ) → to_be_bytes w32 n ≡ bytes 4 n
unfolding bytes
four_bytes n = ap (λ x. n / 256 ^ 3 % 256 ∷ n / 256 ^ 2 % 256 ∷ n / 256 ^ 1 % 256 ∷ x % 256 ∷ []) (sym (div-one n))

-- a description of any kind has bytes
pub length_some : (kind : ℕ) → 21 ≤ length_of kind
unfolding by_kind
length_some kind = go (eqb kind 1) (eqb kind 2) (eqb kind 3)
  where
    go : (x y z : Bool) → 21 ≤ cond x 65 (cond y 65 (cond z 21 24))
    go true y z = omega arith
    go false true z = omega arith
    go false false true = omega arith
    go false false false = omega arith

-- all of a description, and the buffer behind it
pub put_is : (d e was now : List ℕ) (n : ℕ) → d ≡ e → length d ≡ n → now ≡ d ++ drop (length d) was → now ≡ e ++ drop n was
put_is d e was now n p q h = h ∙ ap₂ ◌++◌ p (ap (λ k. drop k was) q)

-- what is known where nothing refuses to write
pub write_room : (g : Fields) (room : ℕ) → write_refusal g room ≡ 0 → length_of g.kind ≤ room
unfolding write_refusal
write_room g room e =
    let (_, r) = after 0 (field_cases g) _ (field_rises g) e in
    ltb-false room (length_of g.kind) (passed 10 _ [] r).0

-- ---- the first byte

pub first_none : (bs : List ℕ) → None ≡ slice_get bs 0 → length bs ≡ 0
first_none [] e = refl
first_none (x ∷ xs) e = search (rules, e)

pub first_some : (bs : List ℕ) (k : ℕ) → Some k ≡ slice_get bs 0 → (length bs ≡ 0 → ⊥) × (k ≡ get_or bs 0 0)
first_some [] k e = search (rules, e)
first_some (x ∷ xs) k e = ((λ h. omega (arith, h)), search (rules, e))

-- ---- what reading answers

module _ (bs : List ℕ) where
  pub read_empty : length bs ≡ 0 → 1 ≡ read_refusal bs
  unfolding read_refusal
  read_empty e = gives 1 _ _ _ refl (ap (λ b. b || outside 1 4 (get_or bs 0 0)) (eq-eqb (length bs) 0 e))

  pub read_kind : outside 1 4 (get_or bs 0 0) ≡ true → 1 ≡ read_refusal bs
  unfolding read_refusal
  read_kind e = gives 1 _ _ _ refl (either (eqb (length bs) 0) (outside 1 4 (get_or bs 0 0)) e)
    where
      either : (a b : Bool) → b ≡ true → (a || b) ≡ true
      either true b e = refl
      either false b e = e

  module _ (some : length bs ≡ 0 → ⊥) (kind : outside 1 4 (get_or bs 0 0) ≡ false) where
    known : (eqb (length bs) 0 || outside 1 4 (get_or bs 0 0)) ≡ false
    known = ap₂ ◌||◌ (ne_eqb (length bs) 0 some) kind

    pub read_length : (length bs ≡ length_of (get_or bs 0 0) → ⊥) → 2 ≡ read_refusal bs
    unfolding read_refusal
    read_length n = skips 2 1 _ _ _ refl known (gives 2 _ _ _ refl (ap not (ne_eqb (length bs) (length_of (get_or bs 0 0)) n)))

    pub read_range : (n : ℕ) → length bs ≡ length_of (get_or bs 0 0) → n ≡ range_refusal (fields_of bs) → n ≡ read_refusal bs
    unfolding read_refusal range_refusal
    read_range n e f = skips n 1 _ _ _ refl known (skips n 2 _ _ _ refl (ap not (eq-eqb (length bs) (length_of (get_or bs 0 0)) e)) f)

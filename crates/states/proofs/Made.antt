-- What `array::from_fn` made, where the closure changes nothing that it holds: each word is the closure's answer at its index.
use mathlib.Core.Path.{◌≡◌, subst, ◌∙◌}
use mathlib.Core.List.{List}
use Prim.Native.Nat.{ℕ, zero, suc, ◌+◌, ◌<◌}
use native.Mathlib.Omega.{arith}
use lib.ListN.{get_or}
use denote.Param.Members.{Mut, Called}
use Rattle.std.specs.Array.{IsFromFnResult, IsFromFnResultFrom}

module _ {F : Type 0} (g : Mut F (ℕ × Unit {0}) ℕ) (f : F) (h : ℕ → ℕ) (same : (i r : ℕ) (q : F) → Called g f (i, tt) r q → (q ≡ f) × (r ≡ h i)) where
  made_from : (ys : List ℕ) (i n : ℕ) → IsFromFnResultFrom g f ys i n → (k : ℕ) → k < n → get_or ys (i + k) 0 ≡ h (i + k)
  made_from ys i zero x k l = absurd (omega arith)
  made_from ys i (suc n) (q, y, e, a, x) zero l = let z : i + 0 ≡ i = omega arith in rw z (e.1 0 ∙ (same i y q a).1)
  made_from ys i (suc n) (q, y, e, a, x) (suc k) l =
      let z : i + suc k ≡ i + 1 + k = omega arith in
      rw z (made_from ys (i + 1) n (subst (λ p. IsFromFnResultFrom g p ys (i + 1) n) (same i y q a).0 x) k (omega arith))

  pub made : (ys : List ℕ) (n : ℕ) → IsFromFnResult g f ys n → (k : ℕ) → k < n → get_or ys k 0 ≡ h k
  made ys n x k l = let z : 0 + k ≡ k = omega arith in rw z at (made_from ys 0 n x.each k l)

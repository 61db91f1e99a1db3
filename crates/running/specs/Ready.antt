-- The proofs that a prepared generator keeps its ranges, and stands for the machine of the description.
use Rattle.std.specs.Prelude.{refl, cond, zero, ◌*◌, ◌+◌, ◌≡◌, ℕ, suc, ◌-◌, ◌≤◌}
use Rattle.std.proofs.Math.Logic.{inl, inr}
use Rattle.std.proofs.Common.{ap₂, sym, ap, subst, ◌∙◌, arith}
use Rattle.digits.specs.Def.{Word, Same, digit, number_of}
use Rattle.kinds.specs.Generator.{Machine, tausworthe, gfsr, mersenne}
use Rattle.kinds.specs.Reads.{LocalMachine}
use Rattle.kinds.specs.Theorems.{tausworthe_local, gfsr_local, mersenne_local}
use Rattle.kinds.specs.Transpose.{taps}
use Rattle.kinds.specs.Adjoint.{taps_below}
use Rattle.kinds.specs.Alike.{Alike, tausworthe_alike, gfsr_alike, mersenne_alike, twisted_alike}
use Rattle.document.specs.declared.Fields.{Fields}
use Rattle.document.specs.Limits.{most_bits, most_output}
use Rattle.document.specs.Generator.{machine}
use Rattle.document.specs.Ranges.{Accepted, is_one, is_two, is_three, is_four}
use Rattle.running.specs.declared.ready.Twister.{Twister}
use Rattle.running.specs.declared.ready.Prepared.{Prepared}
use Rattle.running.specs.declared.ready.Prepared.TheVariants.{Tausworthe as OfTausworthe, Gfsr as OfGfsr, Twister as OfTwister}
use Rattle.running.specs.Prepared.{tapped, machine4, machine_of, Ready, PreparedFor, Prepared4}

-- the same bits are the same number
pub same_bits : (m : ℕ) (x y : Word) → Same m x y → number_of m x ≡ number_of m y
unfolding number_of
same_bits zero x y h = refl
same_bits (suc m) x y h = ap₂ (λ a b. 2 * a + cond b 1 0) (same_bits m x y (λ j l. h j (omega arith))) (h m (omega arith))

-- ---- the ranges

pub ready : (p : Prepared) → Ready p
ready (OfTausworthe p) = record { mask = p.taps; bits = p.narrow }
ready (OfGfsr p) = record { words = p.words }
ready (OfTwister p) = record {
  words = p.words;
  back = p.middle.0;
  few = p.middle.1;
  part = p.part;
  a = p.twist;
  u = p.shifts.0;
  s = p.shifts.1;
  t = p.shifts.2;
  v = p.shifts.3;
}

pub ready_most : (p : Prepared) → (machine_of p).size ≤ most_bits
unfolding tausworthe gfsr mersenne
ready_most (OfTausworthe p) = p.taps.most
ready_most (OfGfsr p) = p.words.fit
ready_most (OfTwister p) = omega (arith, p.words.fit)

pub ready_width : (p : Prepared) → (machine_of p).width ≤ most_output
unfolding tausworthe gfsr mersenne
ready_width (OfTausworthe p) = p.narrow
ready_width (OfGfsr p) = omega (arith, p.words.bits, p.words.narrow)
ready_width (OfTwister p) = omega (arith, p.words.bits, p.words.narrow)

-- ---- bits from k on play no part

pub ready_local : (p : Prepared) → LocalMachine (machine_of p)
ready_local (OfTausworthe p) = tausworthe_local _ _ _ _ p.taps.least
ready_local (OfGfsr p) = gfsr_local _ _ _ _ p.words.some p.words.bits
ready_local (OfTwister p) = mersenne_local _ _ _ _ _ _ _ _ _ _ _ _ p.middle.0 p.middle.1 p.part p.words.bits

-- ---- the machine

-- the coefficients are read back from their taps
tapped_back : (k : ℕ) (mask a : Word) → ((i : ℕ) → mask i ≡ taps k a i) → Same k (tapped k mask) a
unfolding tapped
tapped_back k mask a m i h = let e : k - suc (k - suc i) ≡ i = omega arith in m (k - suc i) ∙ taps_below k a (k - suc i) (omega arith) ∙ ap a e

alike1 : (k n L M ν μ : ℕ) (mask a : Word) → n ≡ k → M ≡ L → μ ≡ ν → 1 ≤ k → ((i : ℕ) → mask i ≡ taps k a i) → Alike (tausworthe n M μ (tapped n mask)) (tausworthe k L ν a)
alike1 k n L M ν μ mask a e f h l m = rw (e, f, h) (tausworthe_alike k L ν (tapped k mask) a l (tapped_back k mask a m))

alike2 : (r q w v L M : ℕ) (mask a : Word) → q ≡ r → v ≡ w → M ≡ L → 1 ≤ r → L ≤ w → ((i : ℕ) → mask i ≡ a i) → Alike (gfsr q v M mask) (gfsr r w L a)
alike2 r q w v L M mask a e f h l o m = rw (e, f, h) (gfsr_alike r w L mask a l o (λ i _. m i))

-- the numbers of a twister that are widened, all at once
same_twister : {r q m n w v z y L M u t S R T P Z X : ℕ} (a b c : Word) → q ≡ r → n ≡ m → v ≡ w → y ≡ z → M ≡ L → t ≡ u → R ≡ S → P ≡ T → X ≡ Z
    → mersenne q n v y M a t R b P c X ≡ mersenne r m w z L a u S b T c Z
same_twister a b c e₁ e₂ e₃ e₄ e₅ e₆ e₇ e₈ e₉ = rw (e₁, e₂, e₃, e₄, e₅, e₆, e₇, e₈, e₉)

-- kinds 3 and 4: the numbers are the description's, the words are mirrored
twister : (g : Fields) (p : Twister) (z u v : ℕ) → Prepared4 g p z u v → (N : Machine) → Alike (mersenne g.r g.m g.w z g.bits (digit p.a) u g.s (digit p.b) g.t (digit p.c) v) N → Alike (machine4 p) N
twister g p z u v q N = subst (λ M. Alike M N) (sym (same_twister (digit p.a) (digit p.b) (digit p.c) q.r q.m q.w q.p q.bits q.u q.s q.t q.v))

pub prepared_alike : (g : Fields) (p : Prepared) → Accepted g → PreparedFor g p → Alike (machine_of p) (machine g)
unfolding machine
prepared_alike g (OfTausworthe p) x (e, z) = subst (Alike _) (sym (is_one g.kind _ _ _ _ e)) (alike1 _ _ _ _ _ _ _ _ z.k z.bits z.nu (x.one e).k_least z.mask)
prepared_alike g (OfGfsr p) x (e, z) =
    let r = (x.two e).words in
    subst (Alike _) (sym (is_two g.kind _ _ _ _ e)) (alike2 _ _ _ _ _ _ _ _ z.r z.w z.bits r.r_least r.bits_most z.mask)
prepared_alike g (OfTwister p) x (inl (e, q)) =
    let r = x.three e in
    twister g p 0 g.w g.w q (machine g)
    (subst (Alike _) (sym (is_three g.kind _ _ _ _ e))
    (twisted_alike g.r g.m g.w g.bits (digit p.a) _ g.s (digit p.b) _ g.t (digit p.c) _ r.m_least r.m_most r.words.bits_most
    q.a.bits q.b.bits q.c.bits r.words.w_least))
prepared_alike g (OfTwister p) x (inr (e, q)) =
    let r = (x.four e).twist in
    twister g p g.p g.u g.v q (machine g)
    (subst (Alike _) (sym (is_four g.kind _ _ _ _ e))
    (mersenne_alike g.r g.m g.w g.bits (digit p.a) _ g.s (digit p.b) _ g.t (digit p.c) _ r.m_least r.m_most r.words.bits_most
    q.a.bits q.b.bits q.c.bits g.p g.u g.v (x.four e).p_most))

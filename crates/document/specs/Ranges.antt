-- "Ranges": what holds of the fields of an accepted generator, and what each test of the fields leaves, kind by kind.
-- (`proofs/Accepted.antt` puts it together.)
use Rattle.std.specs.Prelude.{◌≡◌, refl, Bool, true, ◌&&◌, ◌||◌, List, ◌∷◌, ℕ, zero, suc, ◌+◌, ◌-◌, ◌*◌, ◌^◌, ◌≤◌, ◌<◌, ltb}
use Rattle.std.proofs.Math.Path.{sym}
use Rattle.std.proofs.Common.{ap, ap₂, subst, ◌∙◌, true≢false, add-one, arith}
use Rattle.std.proofs.Math.Bool.{false, not}
use Rattle.std.proofs.Math.Logic.{by_cases}
use Rattle.std.proofs.Math.Decide.{dec_lt, ℕ_discrete}
use borrow.Author.Tests.{ltb-true, ltb-false, ne_eqb, le-ltb, not-false}
use Rattle.theory.specs.Laws.{below_suc}
use Rattle.kinds.specs.Reads.{LocalMachine}
use Rattle.kinds.specs.Theorems.{tausworthe_local, gfsr_local, twisted_local, mersenne_local}
use Rattle.document.specs.declared.Fields.{Fields}
use Rattle.document.specs.Limits.{most_bits, most_output, coefficient_bytes}
use Rattle.document.specs.Generator.{by_kind, coefficient, machine}
use Rattle.document.specs.Refusals.{Case, ◌if◌, lowest, outside, any, bad_kind, bad_words, bad_twist, bad_size, bad_bits, bad_pair, bad_shift, wide_word, coefficient_past, bad_own, stray_field, bad_value, field_cases}

-- the words of kinds 2 to 4
pub record WordRanges (g : Fields) : Type 0 where
  pub w_least : 1 ≤ g.w
  pub w_most : g.w ≤ most_output
  pub r_least : 1 ≤ g.r
  pub product : g.r * g.w ≤ most_bits
  pub bits_least : 1 ≤ g.bits
  pub bits_most : g.bits ≤ g.w

pub record Ranges1 (g : Fields) : Type 0 where
  pub k_least : 1 ≤ g.k
  pub k_most : g.k ≤ most_bits
  pub bits_least : 1 ≤ g.bits
  pub bits_most : g.bits ≤ most_output
  pub nu_least : 1 ≤ g.nu
  pub nu_most : g.nu ≤ 255
  pub past : (i : ℕ) → g.k ≤ i → i < 8 * coefficient_bytes → coefficient g i ≡ false

pub record Ranges2 (g : Fields) : Type 0 where
  pub words : WordRanges g
  pub past : (i : ℕ) → g.r ≤ i → i < 8 * coefficient_bytes → coefficient g i ≡ false

-- what kinds 3 and 4 share
pub record TwistRanges (g : Fields) : Type 0 where
  pub words : WordRanges g
  pub m_least : 1 ≤ g.m
  pub m_most : g.m < g.r
  pub s_least : 1 ≤ g.s
  pub s_most : g.s ≤ g.w
  pub t_least : 1 ≤ g.t
  pub t_most : g.t ≤ g.w
  pub a_below : g.a < 2 ^ g.w
  pub b_below : g.b < 2 ^ g.w
  pub c_below : g.c < 2 ^ g.w

pub record Ranges4 (g : Fields) : Type 0 where
  pub twist : TwistRanges g
  pub p_most : g.p < g.w
  pub u_least : 1 ≤ g.u
  pub u_most : g.u ≤ g.w
  pub v_least : 1 ≤ g.v
  pub v_most : g.v ≤ g.w

pub record Accepted (g : Fields) : Type 0 where
  pub kind_least : 1 ≤ g.kind
  pub kind_most : g.kind ≤ 4
  pub one : g.kind ≡ 1 → Ranges1 g
  pub two : g.kind ≡ 2 → Ranges2 g
  pub three : g.kind ≡ 3 → TwistRanges g
  pub four : g.kind ≡ 4 → Ranges4 g

-- ---- one of four

module _ {A : Type 0} (kind : ℕ) (a b c d : A) where
  pub is_one : kind ≡ 1 → by_kind kind a b c d ≡ a
  unfolding by_kind
  is_one e = rw e

  pub is_two : kind ≡ 2 → by_kind kind a b c d ≡ b
  unfolding by_kind
  is_two e = rw e

  pub is_three : kind ≡ 3 → by_kind kind a b c d ≡ c
  unfolding by_kind
  is_three e = rw e

  pub is_four : kind ≡ 4 → by_kind kind a b c d ≡ d
  unfolding by_kind
  is_four e = rw e

pub is_other : {A : Type 0} (kind : ℕ) (a b c d : A) → (kind ≡ 1 → ⊥) → (kind ≡ 2 → ⊥) → (kind ≡ 3 → ⊥) → by_kind kind a b c d ≡ d
unfolding by_kind
is_other kind a b c d x y z = rw (ne_eqb kind 1 x, ne_eqb kind 2 y, ne_eqb kind 3 z)

-- ---- tests that fail

pub or-none : (a b : Bool) → (a || b) ≡ false → (a ≡ false) × (b ≡ false)
or-none true b e = absurd (true≢false e)
or-none false b e = (refl, e)

pub inside : (low high x : ℕ) → outside low high x ≡ false → (low ≤ x) × (x ≤ high)
unfolding outside
inside low high x e =
    let (a, b) = or-none (ltb x low) (ltb high x) e in
    (ltb-false x low a, ltb-false high x b)

pub any_none : (n : ℕ) (f : ℕ → Bool) → any n f ≡ false → (i : ℕ) → i < n → f i ≡ false
unfolding any
any_none zero f e = λ i h. absurd (omega arith)
any_none (suc n) f e = let (a, b) = or-none (any n f) (f n) e in below_suc n (λ i. f i ≡ false) (any_none n f a) b

pub none_any : (n : ℕ) (f : ℕ → Bool) → ((i : ℕ) → i < n → f i ≡ false) → any n f ≡ false
unfolding any
none_any zero f e = refl
none_any (suc n) f e = ap₂ ◌||◌ (none_any n f (λ i h. e i (omega arith))) (e n (omega arith))

-- one more test
pub any_next : (n : ℕ) (f : ℕ → Bool) → any n f ≡ false → f n ≡ false → any (n + 1) f ≡ false
unfolding any
any_next n f e h = rw add-one (ap₂ ◌||◌ e h)

pub any_found : (n : ℕ) (f : ℕ → Bool) (i : ℕ) → i < n → f i ≡ true → any n f ≡ true
unfolding any
any_found zero f i h e = absurd (omega arith)
any_found (suc n) f i h e = by_cases (dec_lt i n) (λ l. ap (λ x. x || f n) (any_found n f i l e)) (λ l. let q : i ≡ n = omega arith in either (any n f) (f n) (ap f (sym q) ∙ e))
  where
    either : (a b : Bool) → b ≡ true → (a || b) ≡ true
    either true b e = refl
    either false b e = e

below : (x n : ℕ) → not (ltb x n) ≡ false → x < n
below x n e = ltb-true x n (not-false (ltb x n) e)

-- no case is given where the lowest is 0
pub passed : (n : ℕ) (b : Bool) (cs : List Case) → lowest ((suc n if b) ∷ cs) ≡ 0 → (b ≡ false) × (lowest cs ≡ 0)
unfolding lowest
passed n true cs e = absurd (omega (arith, e))
passed n false cs e = (refl, e)

-- ---- each kind

pub unset : (g : Fields) (n : ℕ) → coefficient_past g n ≡ false → (i : ℕ) → n ≤ i → i < 8 * coefficient_bytes → coefficient g i ≡ false
unfolding coefficient_past
unset g n e i l h = go (rw (le-ltb i n l) at (any_none (8 * coefficient_bytes) _ e i h))
  where
    go : (true && coefficient g i) ≡ false → coefficient g i ≡ false
    go q = q

pub record Passed (g : Fields) : Type 0 where
  pub kind : bad_kind g ≡ false
  pub size : bad_size g ≡ false
  pub bits : bad_bits g ≡ false
  pub shift : bad_shift g ≡ false
  pub value : bad_value g ≡ false

pub all_passed : (g : Fields) → lowest (field_cases g) ≡ 0 → Passed g
all_passed g e =
    let (a, e₁) = passed 0 (bad_kind g) _ e in
    let (b, e₂) = passed 2 (bad_size g) _ e₁ in
    let (c, e₃) = passed 3 (bad_bits g) _ e₂ in
    let (d, e₄) = passed 4 (bad_shift g) _ e₃ in
    let (f, e₅) = passed 5 (bad_value g) _ e₄ in
    record { kind = a; size = b; bits = c; shift = d; value = f }

module _ (g : Fields) (x : Passed g) where
  own_value : bad_own g ≡ false
  unfolding bad_value
  own_value = (or-none (bad_own g) (stray_field g) x.value).0

  pub ranges1 : g.kind ≡ 1 → Ranges1 g
  unfolding bad_size bad_bits bad_shift bad_own
  ranges1 e =
      let (k₁, k₂) = inside 1 most_bits g.k (sym (is_one g.kind _ _ _ _ e) ∙ x.size) in
      let (b₁, b₂) = inside 1 most_output g.bits (ap (λ n. outside 1 n g.bits) (sym (is_one g.kind _ _ _ _ e)) ∙ x.bits) in
      let (n₁, n₂) = inside 1 255 g.nu (sym (is_one g.kind _ _ _ _ e) ∙ x.shift) in
      let c : coefficient_past g g.k ≡ false = sym (is_one g.kind _ _ _ _ e) ∙ own_value in
      record { k_least = k₁; k_most = k₂; bits_least = b₁; bits_most = b₂; nu_least = n₁; nu_most = n₂; past = unset g g.k c }

  -- the words of a kind whose L is bounded by w
  word_ranges : bad_words g ≡ false → 1 ≤ g.r → outside 1 g.w g.bits ≡ false → WordRanges g
  unfolding bad_words
  word_ranges e p f =
      let (a, b) = or-none (outside 1 most_output g.w) (ltb most_bits (g.r * g.w)) e in
      let (w₁, w₂) = inside 1 most_output g.w a in
      let (b₁, b₂) = inside 1 g.w g.bits f in
      record { w_least = w₁; w_most = w₂; r_least = p; product = ltb-false most_bits (g.r * g.w) b; bits_least = b₁; bits_most = b₂ }

  pub ranges2 : g.kind ≡ 2 → Ranges2 g
  unfolding bad_size bad_bits bad_own
  ranges2 e =
      let (a, b) = or-none (bad_words g) (ltb g.r 1) (sym (is_two g.kind _ _ _ _ e) ∙ x.size) in
      let c : coefficient_past g g.r ≡ false = sym (is_two g.kind _ _ _ _ e) ∙ own_value in
      record {
        words = word_ranges a (ltb-false g.r 1 b) (ap (λ n. outside 1 n g.bits) (sym (is_two g.kind _ _ _ _ e)) ∙ x.bits);
        past = unset g g.r c;
      }

  pair_inside : (a b : ℕ) → bad_pair g a b ≡ false → (outside 1 g.w a ≡ false) × (outside 1 g.w b ≡ false)
  unfolding bad_pair
  pair_inside a b e = or-none (outside 1 g.w a) (outside 1 g.w b) e

  twist_ranges : bad_twist g ≡ false → outside 1 g.w g.bits ≡ false
      → outside 1 g.w g.s ≡ false → outside 1 g.w g.t ≡ false → wide_word g ≡ false → TwistRanges g
  unfolding wide_word bad_twist
  twist_ranges e f hs ht hw =
      let (c, a) = or-none (bad_words g) (ltb g.r 2 || outside 1 (g.r - 1) g.m) e in
      let (d, b) = or-none (ltb g.r 2) (outside 1 (g.r - 1) g.m) a in
      let two : 2 ≤ g.r = ltb-false g.r 2 d in
      let (m₁, m₂) = inside 1 (g.r - 1) g.m b in
      let (s₁, s₂) = inside 1 g.w g.s hs in
      let (t₁, t₂) = inside 1 g.w g.t ht in
      let (u, p) = or-none (not (ltb g.a (2 ^ g.w))) (not (ltb g.b (2 ^ g.w)) || not (ltb g.c (2 ^ g.w))) hw in
      let (v, q) = or-none (not (ltb g.b (2 ^ g.w))) (not (ltb g.c (2 ^ g.w))) p in
      record {
        words = word_ranges c (omega arith) f;
        m_least = m₁;
        m_most = omega arith;
        s_least = s₁;
        s_most = s₂;
        t_least = t₁;
        t_most = t₂;
        a_below = below g.a (2 ^ g.w) u;
        b_below = below g.b (2 ^ g.w) v;
        c_below = below g.c (2 ^ g.w) q;
      }

  pub ranges3 : g.kind ≡ 3 → TwistRanges g
  unfolding bad_size bad_bits bad_shift bad_own
  ranges3 e =
      let (s, t) = pair_inside g.s g.t (sym (is_three g.kind _ _ _ _ e) ∙ x.shift) in
      let c : wide_word g ≡ false = sym (is_three g.kind _ _ _ _ e) ∙ own_value in
      twist_ranges (sym (is_three g.kind _ _ _ _ e) ∙ x.size) (ap (λ n. outside 1 n g.bits) (sym (is_three g.kind _ _ _ _ e)) ∙ x.bits) s t c

  pub ranges4 : g.kind ≡ 4 → Ranges4 g
  unfolding bad_size bad_bits bad_shift bad_own
  ranges4 e =
      let (z, p) = or-none (bad_twist g) (not (ltb g.p g.w)) (sym (is_four g.kind _ _ _ _ e) ∙ x.size) in
      let (f, h) = or-none (bad_pair g g.s g.t) (bad_pair g g.u g.v) (sym (is_four g.kind _ _ _ _ e) ∙ x.shift) in
      let (s, t) = pair_inside g.s g.t f in
      let (u, v) = pair_inside g.u g.v h in
      let c : wide_word g ≡ false = sym (is_four g.kind _ _ _ _ e) ∙ own_value in
      let y : TwistRanges g = twist_ranges z (ap (λ n. outside 1 n g.bits) (sym (is_four g.kind _ _ _ _ e)) ∙ x.bits) s t c in
      let (u₁, u₂) = inside 1 g.w g.u u in
      let (v₁, v₂) = inside 1 g.w g.v v in
      record { twist = y; p_most = below g.p g.w p; u_least = u₁; u_most = u₂; v_least = v₁; v_most = v₂ }

-- ---- an accepted generator's machine reads the first k bits of its state alone

-- one of the four kinds
pub cases : {P : Type 0} (g : Fields) → Accepted g → (g.kind ≡ 1 → P) → (g.kind ≡ 2 → P) → (g.kind ≡ 3 → P) → (g.kind ≡ 4 → P) → P
cases g x a b c d =
    by_cases (ℕ_discrete g.kind 1) a (λ n₁. by_cases (ℕ_discrete g.kind 2) b (λ n₂. by_cases (ℕ_discrete g.kind 3) c (λ n₃. d (omega (arith, x.kind_least, x.kind_most)))))

pub machine_local : (g : Fields) → Accepted g → LocalMachine (machine g)
unfolding machine
machine_local g x =
    cases g x
    (λ e. subst LocalMachine (sym (is_one g.kind _ _ _ _ e)) (tausworthe_local _ _ _ _ (x.one e).k_least))
    (λ e. let y = (x.two e).words in subst LocalMachine (sym (is_two g.kind _ _ _ _ e)) (gfsr_local _ _ _ _ y.r_least y.bits_most))
    (λ e. let y = x.three e in
    subst LocalMachine (sym (is_three g.kind _ _ _ _ e)) (twisted_local _ _ _ _ _ _ _ _ _ y.words.w_least y.m_most y.words.bits_most))
    (λ e. let y = x.four e in
    subst LocalMachine (sym (is_four g.kind _ _ _ _ e)) (mersenne_local _ _ _ _ _ _ _ _ _ _ _ _ y.twist.m_least y.twist.m_most (omega (arith, y.p_most)) y.twist.words.bits_most))

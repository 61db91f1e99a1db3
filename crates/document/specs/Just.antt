-- What the refusals of the fields leave: the document's ranges, with no field set that the kind hasn't got. Here what that means, and the proof that
-- such fields are not refused; `proofs/Just.antt` has the way back.
use Rattle.std.specs.Prelude.{◌≡◌, refl, Bool, false, ◌&&◌, List, [], ◌∷◌, ℕ, zero, suc, ◌-◌, ◌*◌, ◌^◌, ◌≤◌, ◌<◌, ltb}
use Rattle.std.proofs.Common.{◌∙◌, true≢false, arith, lt-ltb, le-ltb}
use Rattle.std.proofs.Math.Path.{ap, ap₂}
use Rattle.std.proofs.Math.Bool.{not, ◌||◌, or_assoc, or-false}
use Rattle.std.proofs.Math.Logic.{by_cases}
use Rattle.std.proofs.Math.Decide.{dec_lt}
use Rattle.digits.specs.Def.{nonzero}
use Rattle.document.specs.declared.Fields.{Fields}
use Rattle.document.specs.Limits.{most_bits, most_output, coefficient_bytes}
use Rattle.document.specs.Generator.{by_kind, coefficient}
use Rattle.document.specs.Refusals.{◌if◌, lowest, outside, bad_kind, bad_words, bad_twist, bad_size, bad_bits, bad_pair, bad_shift, wide_word}
use Rattle.document.specs.Refusals.{coefficient_past, bad_own, one_set, stray_one, stray_twist, stray_field, bad_value, field_refusal}
use Rattle.document.specs.Ranges.{WordRanges, TwistRanges, Accepted, cases, is_one, is_two, is_three, is_four, or-none, none_any}

abbrev pub AllZero : List ℕ → Type 0
AllZero [] = Unit {0}
AllZero (x ∷ xs) = (x ≡ 0) × AllZero xs

-- the fields of kinds 3 and 4 that kinds 1 and 2 have not got, but for m
abbrev pub twist_fields : Fields → List ℕ
twist_fields g = g.a ∷ g.b ∷ g.c ∷ g.p ∷ g.u ∷ g.v ∷ g.s ∷ g.t ∷ []

abbrev pub NoCoefficients : Fields → Type 0
NoCoefficients g = (i : ℕ) → i < 8 * coefficient_bytes → coefficient g i ≡ false

-- the fields that each kind hasn't got are zero
pub record NothingStray (g : Fields) : Type 0 where
  pub one : g.kind ≡ 1 → AllZero (g.r ∷ g.m ∷ g.w ∷ twist_fields g)
  pub two : g.kind ≡ 2 → AllZero (g.k ∷ g.nu ∷ g.m ∷ twist_fields g)
  pub three : g.kind ≡ 3 → AllZero (g.k ∷ g.nu ∷ g.p ∷ g.u ∷ g.v ∷ []) × NoCoefficients g
  pub four : g.kind ≡ 4 → AllZero (g.k ∷ g.nu ∷ []) × NoCoefficients g

pub record Just (g : Fields) : Type 0 where
  pub ranges : Accepted g
  pub nothing_stray : NothingStray g

-- ---- fields that are zero

unfoldable pub some_set : List ℕ → Bool
some_set [] = false
some_set (x ∷ xs) = nonzero x || some_set xs

pub none_set : (xs : List ℕ) → some_set xs ≡ false → AllZero xs
unfolding some_set
none_set [] e = tt
none_set (x ∷ xs) e = let (a, b) = or-none (nonzero x) (some_set xs) e in (is_zero x a, none_set xs b)
  where
    is_zero : (x : ℕ) → nonzero x ≡ false → x ≡ 0
    is_zero zero e = refl
    is_zero (suc x) e = absurd (true≢false e)

set_none : (xs : List ℕ) → AllZero xs → some_set xs ≡ false
unfolding some_set
set_none [] z = refl
set_none (x ∷ xs) (e, z) = ap₂ ◌||◌ (ap nonzero e) (set_none xs z)

-- the tests of `stray_field`, kind by kind
module _ (g : Fields) where
  pub stray1 : g.kind ≡ 1 → stray_field g ≡ some_set (g.r ∷ g.m ∷ g.w ∷ twist_fields g)
  unfolding stray_field stray_twist one_set some_set
  stray1 e = is_one g.kind _ _ _ _ e ∙ simp (or_assoc, or-false)

  pub stray2 : g.kind ≡ 2 → stray_field g ≡ some_set (g.k ∷ g.nu ∷ g.m ∷ twist_fields g)
  unfolding stray_field stray_one stray_twist one_set some_set
  stray2 e = is_two g.kind _ _ _ _ e ∙ simp (or_assoc, or-false)

  pub stray3 : g.kind ≡ 3 → stray_field g ≡ (some_set (g.k ∷ g.nu ∷ g.p ∷ g.u ∷ g.v ∷ []) || coefficient_past g 0)
  unfolding stray_field stray_one one_set some_set
  stray3 e = is_three g.kind _ _ _ _ e ∙ simp (or_assoc, or-false)

  pub stray4 : g.kind ≡ 4 → stray_field g ≡ (some_set (g.k ∷ g.nu ∷ []) || coefficient_past g 0)
  unfolding stray_field stray_one some_set
  stray4 e = is_four g.kind _ _ _ _ e ∙ simp (or_assoc, or-false)

-- ---- the ranges hold, so nothing is refused

within : (low high x : ℕ) → low ≤ x → x ≤ high → outside low high x ≡ false
unfolding outside
within low high x a b = ap₂ ◌||◌ (le-ltb x low a) (le-ltb high x b)

none_past : (g : Fields) (n : ℕ) → ((i : ℕ) → n ≤ i → i < 8 * coefficient_bytes → coefficient g i ≡ false) → coefficient_past g n ≡ false
unfolding coefficient_past
none_past g n h = none_any (8 * coefficient_bytes) _ (λ i l. by_cases (dec_lt i n)
    (λ b. ap (λ x. not x && coefficient g i) (lt-ltb i n b))
    (λ b. let p : n ≤ i = omega arith in ap (λ x. not x && coefficient g i) (le-ltb i n p) ∙ h i p l))

module _ (g : Fields) where
  words_good : WordRanges g → bad_words g ≡ false
  unfolding bad_words
  words_good x = ap₂ ◌||◌ (within 1 most_output g.w x.w_least x.w_most) (le-ltb most_bits (g.r * g.w) x.product)

  twist_good : TwistRanges g → bad_twist g ≡ false
  unfolding bad_twist
  twist_good x =
      ap₂ ◌||◌ (words_good x.words)
      (ap₂ ◌||◌ (le-ltb g.r 2 (omega (arith, x.m_least, x.m_most))) (within 1 (g.r - 1) g.m x.m_least (omega (arith, x.m_most))))

  bits_good : WordRanges g → outside 1 g.w g.bits ≡ false
  bits_good x = within 1 g.w g.bits x.bits_least x.bits_most

  shifts_good : TwistRanges g → bad_pair g g.s g.t ≡ false
  unfolding bad_pair
  shifts_good x = ap₂ ◌||◌ (within 1 g.w g.s x.s_least x.s_most) (within 1 g.w g.t x.t_least x.t_most)

  narrow : (x : ℕ) → x < 2 ^ g.w → not (ltb x (2 ^ g.w)) ≡ false
  narrow x h = ap not (lt-ltb x (2 ^ g.w) h)

  masks_good : TwistRanges g → wide_word g ≡ false
  unfolding wide_word
  masks_good x = ap₂ ◌||◌ (narrow g.a x.a_below) (ap₂ ◌||◌ (narrow g.b x.b_below) (narrow g.c x.c_below))

  -- a test of each kind that fails for the kind at hand
  none_of_four : Accepted g → (one two three four : Bool) → (g.kind ≡ 1 → one ≡ false) → (g.kind ≡ 2 → two ≡ false) → (g.kind ≡ 3 → three ≡ false)
      → (g.kind ≡ 4 → four ≡ false) → by_kind g.kind one two three four ≡ false
  none_of_four y _ _ _ _ a b c d = cases g y
      (λ e. is_one g.kind _ _ _ _ e ∙ a e)
      (λ e. is_two g.kind _ _ _ _ e ∙ b e)
      (λ e. is_three g.kind _ _ _ _ e ∙ c e)
      (λ e. is_four g.kind _ _ _ _ e ∙ d e)

module _ (g : Fields) (y : Accepted g) where
  size_good : bad_size g ≡ false
  unfolding bad_size
  size_good = none_of_four g y _ _ _ _
      (λ e. within 1 most_bits g.k (y.one e).k_least (y.one e).k_most)
      (λ e. ap₂ ◌||◌ (words_good g (y.two e).words) (le-ltb g.r 1 (y.two e).words.r_least))
      (λ e. twist_good g (y.three e))
      (λ e. ap₂ ◌||◌ (twist_good g (y.four e).twist) (ap not (lt-ltb g.p g.w (y.four e).p_most)))

  output_good : bad_bits g ≡ false
  unfolding bad_bits
  output_good = cases g y
      (λ e. ap (λ n. outside 1 n g.bits) (is_one g.kind _ _ _ _ e) ∙ within 1 most_output g.bits (y.one e).bits_least (y.one e).bits_most)
      (λ e. ap (λ n. outside 1 n g.bits) (is_two g.kind _ _ _ _ e) ∙ bits_good g (y.two e).words)
      (λ e. ap (λ n. outside 1 n g.bits) (is_three g.kind _ _ _ _ e) ∙ bits_good g (y.three e).words)
      (λ e. ap (λ n. outside 1 n g.bits) (is_four g.kind _ _ _ _ e) ∙ bits_good g (y.four e).twist.words)

  shift_good : bad_shift g ≡ false
  unfolding bad_shift bad_pair
  shift_good = none_of_four g y _ _ _ _
      (λ e. within 1 255 g.nu (y.one e).nu_least (y.one e).nu_most)
      (λ e. refl)
      (λ e. shifts_good g (y.three e))
      (λ e. ap₂ ◌||◌ (shifts_good g (y.four e).twist)
      (ap₂ ◌||◌ (within 1 g.w g.u (y.four e).u_least (y.four e).u_most) (within 1 g.w g.v (y.four e).v_least (y.four e).v_most)))

  own_good : bad_own g ≡ false
  unfolding bad_own
  own_good = none_of_four g y _ _ _ _
      (λ e. none_past g g.k (y.one e).past)
      (λ e. none_past g g.r (y.two e).past)
      (λ e. masks_good g (y.three e))
      (λ e. masks_good g (y.four e).twist)

  stray_good : NothingStray g → stray_field g ≡ false
  stray_good z = cases g y
      (λ e. stray1 g e ∙ set_none _ (z.one e))
      (λ e. stray2 g e ∙ set_none _ (z.two e))
      (λ e. stray3 g e ∙ ap₂ ◌||◌ (set_none _ (z.three e).0) (none_past g 0 (λ i _ h. (z.three e).1 i h)))
      (λ e. stray4 g e ∙ ap₂ ◌||◌ (set_none _ (z.four e).0) (none_past g 0 (λ i _ h. (z.four e).1 i h)))

no_case : (p q r s t : Bool) → p ≡ false → q ≡ false → r ≡ false → s ≡ false → t ≡ false
    → lowest ((1 if p) ∷ (3 if q) ∷ (4 if r) ∷ (5 if s) ∷ (6 if t) ∷ []) ≡ 0
unfolding lowest
no_case p q r s t a b c d e = rw (a, b, c, d, e)

pub just_accepted : (g : Fields) → Just g → field_refusal g ≡ 0
unfolding field_refusal bad_value
just_accepted g x =
    let y : Accepted g = x.ranges in
    no_case (bad_kind g) (bad_size g) (bad_bits g) (bad_shift g) (bad_value g)
    (within 1 4 g.kind y.kind_least y.kind_most) (size_good g y) (output_good g y) (shift_good g y)
    (ap₂ ◌||◌ (own_good g y) (stray_good g y x.nothing_stray))

-- Writing what was read gives the same bytes; and reading what was written gives the same generator, kind by kind (`proofs/RoundTrip.antt` puts that
-- together).
use Rattle.std.specs.Prelude.{◌≡◌, refl, false, not, ◌&&◌, ◌||◌, List, [], ◌∷◌, ◌++◌, ℕ, zero, suc, ◌+◌, ◌-◌, ◌*◌, ◌/◌, ◌%◌, ◌^◌, ◌≤◌, ◌<◌, eqb, ltb, length, drop, replicate}
use Rattle.std.proofs.Math.Path.{sym, ap}
use Rattle.std.proofs.Common.{ap₂, ◌∙◌, true≢false, arith, shr-shr, length-drop, drop_of_length-le, drop-cons, ext_get_or, le-ltb, eqb-true}
use Rattle.std.proofs.Math.Logic.{by_cases}
use Rattle.std.proofs.Math.Decide.{ℕ_discrete}
use Rattle.std.proofs.Math.ListN.{get_or}
use Rattle.std.proofs.lemmas.List.{length-replicate, get_or-replicate}
use Rattle.std.proofs.Math.Seq.{take_all}
use Rattle.std.proofs.lemmas.Bool.{not-false}
use Rattle.digits.specs.Def.{nonzero, digit}
use Rattle.digits.specs.Laws.{digit-zero}
use Rattle.digits.specs.Equal.{digits_equal}
use Rattle.document.specs.declared.Fields.{Fields}
use Rattle.document.specs.Limits.{coefficient_bytes}
use Rattle.document.specs.Generator.{coefficient}
use Rattle.document.specs.Description.{bytes, number, length_of, description, fields_of}
use Rattle.document.specs.Refusals.{outside, one_set, stray_one, stray_twist, stray_field, coefficient_past, read_refusal, field_refusal}
use Rattle.document.specs.Lowest.{skips}
use Rattle.document.specs.Ranges.{is_one, is_two, is_three, is_four, or-none, inside, any_none, passed, Accepted, cases}

-- what every value of the struct is: each number fits its bytes
pub record Sized (g : Fields) : Type 0 where
  pub kind : g.kind < 2 ^ 8
  pub k : g.k < 2 ^ 16
  pub nu : g.nu < 2 ^ 8
  pub r : g.r < 2 ^ 16
  pub m : g.m < 2 ^ 16
  pub w : g.w < 2 ^ 8
  pub p : g.p < 2 ^ 8
  pub bits : g.bits < 2 ^ 8
  pub a : g.a < 2 ^ 32
  pub u : g.u < 2 ^ 8
  pub s : g.s < 2 ^ 8
  pub b : g.b < 2 ^ 32
  pub t : g.t < 2 ^ 8
  pub c : g.c < 2 ^ 32
  pub v : g.v < 2 ^ 8
  pub long : length g.coefficients ≡ coefficient_bytes
  pub coefficients : (i : ℕ) → get_or g.coefficients i 0 < 2 ^ 8

-- ---- a number and its bytes

one_byte : (x : ℕ) → x < 2 ^ 8 → x / 256 ^ 0 % 256 ≡ x
one_byte x h = omega arith

two_bytes : (x : ℕ) → x < 2 ^ 16 → 256 * (256 * 0 + x / 256 ^ 1 % 256) + x / 256 ^ 0 % 256 ≡ x
two_bytes x h = omega arith

four_bytes : (x : ℕ) → x < 2 ^ 32 → 256 * (256 * (256 * (256 * 0 + x / 256 ^ 3 % 256) + x / 256 ^ 2 % 256) + x / 256 ^ 1 % 256) + x / 256 ^ 0 % 256 ≡ x
four_bytes x h =
    let e : x / 256 / 256 ≡ x / 65536 = shr-shr x 8 8 in
    let f : x / 65536 / 256 ≡ x / 16777216 = shr-shr x 16 8 in
    let low : 256 * (x / 256) + x / 1 % 256 ≡ x = omega arith in
    let middle : 256 * (x / 65536) + x / 256 % 256 ≡ x / 256 = rw (← e) (omega arith) in
    let high : 256 * (x / 16777216) + x / 65536 % 256 ≡ x / 65536 = rw (← f) (omega arith) in
    let top : x / 16777216 % 256 ≡ x / 16777216 = omega arith in
    joined (x / 16777216) (x / 65536) (x / 256) x (x / 16777216 % 256) (x / 65536 % 256) (x / 256 % 256) (x / 1 % 256) top high middle low
  where
    joined : (q p o x d c b a : ℕ) → d ≡ q → 256 * q + c ≡ p → 256 * p + b ≡ o → 256 * o + a ≡ x → 256 * (256 * (256 * (256 * 0 + d) + c) + b) + a ≡ x
    joined q p o x d c b a e f g h = omega arith

-- ---- fields that are zero

unset : (x : ℕ) → nonzero x ≡ false → x ≡ 0
unset zero e = refl
unset (suc x) e = absurd (true≢false e)

pub record NoTwist (g : Fields) : Type 0 where
  pub a : g.a ≡ 0
  pub b : g.b ≡ 0
  pub c : g.c ≡ 0
  pub p : g.p ≡ 0
  pub u : g.u ≡ 0
  pub v : g.v ≡ 0
  pub s : g.s ≡ 0
  pub t : g.t ≡ 0

none_set : (x y : ℕ) → one_set x y ≡ false → (x ≡ 0) × (y ≡ 0)
unfolding one_set
none_set x y e = let (a, b) = or-none (nonzero x) (nonzero y) e in (unset x a, unset y b)

no_twist : (g : Fields) → stray_twist g ≡ false → NoTwist g
unfolding stray_twist
no_twist g e =
    let (x₁, e₁) = or-none (one_set g.a g.b) _ e in
    let (x₂, e₂) = or-none (nonzero g.c) _ e₁ in
    let (x₃, e₃) = or-none (nonzero g.p) _ e₂ in
    let (x₄, x₅) = or-none (one_set g.u g.v) (one_set g.s g.t) e₃ in
    let (a, b) = none_set g.a g.b x₁ in
    let (u, v) = none_set g.u g.v x₄ in
    let (s, t) = none_set g.s g.t x₅ in
    record { a = a; b = b; c = unset g.c x₂; p = unset g.p x₃; u = u; v = v; s = s; t = t }

-- no coefficient is set: all their bytes are zero
no_coefficients : (g : Fields) → Sized g → coefficient_past g 0 ≡ false → g.coefficients ≡ replicate coefficient_bytes 0
unfolding coefficient_past coefficient
no_coefficients g x e =
    ext_get_or 0 g.coefficients (replicate coefficient_bytes 0) (x.long ∙ sym (length-replicate {A = ℕ} coefficient_bytes 0))
    (λ i h. let l : i < coefficient_bytes = omega (arith, x.long) in
    digits_equal 8 (get_or g.coefficients i 0) (get_or (replicate coefficient_bytes 0) i 0) (x.coefficients i) (rw (zero_at i l) (omega arith))
    (λ j k. bit-zero i j l k ∙ sym (ap (λ n. digit n j) (zero_at i l) ∙ digit-zero j)))
  where
    zero_at : (i : ℕ) → i < coefficient_bytes → ◌≡◌ {A = ℕ} (get_or (replicate coefficient_bytes 0) i 0) 0
    zero_at i h = get_or-replicate {A = ℕ} coefficient_bytes i 0 0 h

    at : (n : ℕ) → n < 8 * coefficient_bytes → coefficient g n ≡ false
    at n h = let z : 0 ≤ n = omega arith in rw (le-ltb n 0 z) at (any_none (8 * coefficient_bytes) (λ i. not (ltb i 0) && coefficient g i) e n h)

    bit-zero : (i j : ℕ) → i < coefficient_bytes → j < 8 → digit (get_or g.coefficients i 0) j ≡ false
    bit-zero i j h k =
        let e : (8 * i + (7 - j)) / 8 ≡ i = omega arith in
        let f : 7 - (8 * i + (7 - j)) % 8 ≡ j = omega arith in
        sym (ap₂ (λ a b. digit (get_or g.coefficients a 0) b) e f) ∙ at (8 * i + (7 - j)) (omega arith)

-- ---- read after write

module _ (g : Fields) (x : Sized g) (y : stray_field g ≡ false) where
  pub again_one : g.kind ≡ 1 → fields_of (description g) ≡ g
  unfolding description fields_of bytes number stray_field
  again_one e =
      let (r, y₁) = or-none (nonzero g.r) _ (sym (is_one g.kind _ _ _ _ e) ∙ y) in
      let (m, y₂) = or-none (nonzero g.m) _ y₁ in
      let (w, y₃) = or-none (nonzero g.w) (stray_twist g) y₂ in
      let z : NoTwist g = no_twist g y₃ in
      ap (λ l. fields_of (g.kind ∷ l)) (is_one g.kind _ _ _ _ e)
      ∙ is_one g.kind _ _ _ _ e
      ∙ (λ i. record {
        kind = g.kind;
        k = two_bytes g.k x.k i;
        nu = one_byte g.nu x.nu i;
        r = sym (unset g.r r) i;
        m = sym (unset g.m m) i;
        w = sym (unset g.w w) i;
        p = sym z.p i;
        bits = one_byte g.bits x.bits i;
        a = sym z.a i;
        u = sym z.u i;
        s = sym z.s i;
        b = sym z.b i;
        t = sym z.t i;
        c = sym z.c i;
        v = sym z.v i;
        coefficients = take_all coefficient_bytes g.coefficients (omega (arith, x.long)) i;
      })

  pub again_two : g.kind ≡ 2 → fields_of (description g) ≡ g
  unfolding description fields_of bytes number stray_field stray_one
  again_two e =
      let (o, y₁) = or-none (stray_one g) _ (sym (is_two g.kind _ _ _ _ e) ∙ y) in
      let (m, y₂) = or-none (nonzero g.m) (stray_twist g) y₁ in
      let (k, nu) = or-none (nonzero g.k) (nonzero g.nu) o in
      let z : NoTwist g = no_twist g y₂ in
      ap (λ l. fields_of (g.kind ∷ l)) (is_two g.kind _ _ _ _ e)
      ∙ is_two g.kind _ _ _ _ e
      ∙ (λ i. record {
        kind = g.kind;
        k = sym (unset g.k k) i;
        nu = sym (unset g.nu nu) i;
        r = two_bytes g.r x.r i;
        m = sym (unset g.m m) i;
        w = one_byte g.w x.w i;
        p = sym z.p i;
        bits = one_byte g.bits x.bits i;
        a = sym z.a i;
        u = sym z.u i;
        s = sym z.s i;
        b = sym z.b i;
        t = sym z.t i;
        c = sym z.c i;
        v = sym z.v i;
        coefficients = take_all coefficient_bytes g.coefficients (omega (arith, x.long)) i;
      })

  pub again_three : g.kind ≡ 3 → fields_of (description g) ≡ g
  unfolding description fields_of bytes number stray_field stray_one
  again_three e =
      let (o, y₁) = or-none (stray_one g) _ (sym (is_three g.kind _ _ _ _ e) ∙ y) in
      let (k, nu) = or-none (nonzero g.k) (nonzero g.nu) o in
      let (p, y₂) = or-none (nonzero g.p) _ y₁ in
      let (q, y₃) = or-none (one_set g.u g.v) (coefficient_past g 0) y₂ in
      let (u, v) = none_set g.u g.v q in
      ap (λ l. fields_of (g.kind ∷ l)) (is_three g.kind _ _ _ _ e)
      ∙ is_three g.kind _ _ _ _ e
      ∙ (λ i. record {
        kind = g.kind;
        k = sym (unset g.k k) i;
        nu = sym (unset g.nu nu) i;
        r = two_bytes g.r x.r i;
        m = two_bytes g.m x.m i;
        w = one_byte g.w x.w i;
        p = sym (unset g.p p) i;
        bits = one_byte g.bits x.bits i;
        a = four_bytes g.a x.a i;
        u = sym u i;
        s = one_byte g.s x.s i;
        b = four_bytes g.b x.b i;
        t = one_byte g.t x.t i;
        c = four_bytes g.c x.c i;
        v = sym v i;
        coefficients = sym (no_coefficients g x y₃) i;
      })

  pub again_four : g.kind ≡ 4 → fields_of (description g) ≡ g
  unfolding description fields_of bytes number stray_field stray_one
  again_four e =
      let (o, y₁) = or-none (stray_one g) (coefficient_past g 0) (sym (is_four g.kind _ _ _ _ e) ∙ y) in
      let (k, nu) = or-none (nonzero g.k) (nonzero g.nu) o in
      ap (λ l. fields_of (g.kind ∷ l)) (is_four g.kind _ _ _ _ e)
      ∙ is_four g.kind _ _ _ _ e
      ∙ (λ i. record {
        kind = g.kind;
        k = sym (unset g.k k) i;
        nu = sym (unset g.nu nu) i;
        r = two_bytes g.r x.r i;
        m = two_bytes g.m x.m i;
        w = one_byte g.w x.w i;
        p = one_byte g.p x.p i;
        bits = one_byte g.bits x.bits i;
        a = four_bytes g.a x.a i;
        u = one_byte g.u x.u i;
        s = one_byte g.s x.s i;
        b = four_bytes g.b x.b i;
        t = one_byte g.t x.t i;
        c = four_bytes g.c x.c i;
        v = one_byte g.v x.v i;
        coefficients = sym (no_coefficients g x y₁) i;
      })

-- ---- what was written is accepted

pub written_length : (g : Fields) → Sized g → Accepted g → length (description g) ≡ length_of g.kind
unfolding description bytes
written_length g x a =
    cases g a
    (λ e. ap (λ l. length (g.kind ∷ l)) (is_one g.kind _ _ _ _ e) ∙ long g.coefficients x.long ∙ sym (is_one g.kind _ _ _ _ e))
    (λ e. ap (λ l. length (g.kind ∷ l)) (is_two g.kind _ _ _ _ e) ∙ long g.coefficients x.long ∙ sym (is_two g.kind _ _ _ _ e))
    (λ e. ap (λ l. length (g.kind ∷ l)) (is_three g.kind _ _ _ _ e) ∙ sym (is_three g.kind _ _ _ _ e))
    (λ e. ap (λ l. length (g.kind ∷ l)) (is_four g.kind _ _ _ _ e) ∙ sym (is_four g.kind _ _ _ _ e))
  where
    long : (cs : List ℕ) → length cs ≡ 60 → suc (suc (suc (suc (suc (length cs))))) ≡ 65
    long cs e = omega arith

pub head_kind : (g : Fields) → get_or (description g) 0 0 ≡ g.kind
unfolding description
head_kind g = refl

-- ---- write after read

high_of_two : (a b : ℕ) → a < 256 → b < 256 → (256 * (256 * 0 + a) + b) / 256 ^ 1 % 256 ≡ a
high_of_two a b h k = omega arith

low_of_two : (a b : ℕ) → a < 256 → b < 256 → (256 * (256 * 0 + a) + b) / 256 ^ 0 % 256 ≡ b
low_of_two a b h k = omega arith

module _ (a b c d : ℕ) (ha : a < 256) (hb : b < 256) (hc : c < 256) (hd : d < 256) where
  abbrev whole : ℕ
  whole = 256 * (256 * (256 * (256 * 0 + a) + b) + c) + d

  byte3 : whole / 256 ^ 3 % 256 ≡ a
  byte3 = let e : whole / 16777216 ≡ a = omega arith in rw e (omega arith)

  byte2 : whole / 256 ^ 2 % 256 ≡ b
  byte2 = let e : whole / 65536 ≡ 256 * a + b = omega arith in rw e (omega arith)

  byte1 : whole / 256 ^ 1 % 256 ≡ c
  byte1 = let e : whole / 256 ≡ 256 * (256 * a + b) + c = omega arith in rw e (omega arith)

  byte0 : whole / 256 ^ 0 % 256 ≡ d
  byte0 = omega arith

-- the n elements from i on
list_from : List ℕ → ℕ → ℕ → List ℕ
list_from bs i zero = []
list_from bs i (suc n) = get_or bs i 0 ∷ list_from bs (suc i) n

all_from : (bs : List ℕ) (i n : ℕ) → i + n ≡ length bs → drop i bs ≡ list_from bs i n
unfolding list_from
all_from bs i zero e = drop_of_length-le bs {i = i} (omega arith)
all_from bs i (suc n) e = drop-cons bs i 0 (omega arith) ∙ ap (λ l. get_or bs i 0 ∷ l) (all_from bs (suc i) n (omega arith))

-- the first n elements, and the rest
front : (bs : List ℕ) (n : ℕ) → n ≤ length bs → bs ≡ list_from bs 0 n ++ drop n bs
unfolding list_from
front bs n h = let e : 0 + n ≡ n = omega arith in go n 0 (omega arith) ∙ ap (λ m. list_from bs 0 n ++ drop m bs) e
  where
    go : (n i : ℕ) → i + n ≤ length bs → drop i bs ≡ list_from bs i n ++ drop (i + n) bs
    go zero i h = let e : i + zero ≡ i = omega arith in rw e
    go (suc n) i h = let e : i + suc n ≡ suc i + n = omega arith in rw e (drop-cons bs i 0 (omega arith) ∙ ap (λ l. get_or bs i 0 ∷ l) (go n (suc i) (omega arith)))

module _ (bs : List ℕ) (h : (i : ℕ) → get_or bs i 0 < 256) where
  long : length bs ≡ 65 → length (drop 5 bs) ≤ coefficient_bytes
  long l = omega (arith, length-drop 5 bs, l)

  back_one : get_or bs 0 0 ≡ 1 → length bs ≡ 65 → description (fields_of bs) ≡ bs
  unfolding description fields_of bytes number list_from
  back_one e l =
      ap description (is_one (get_or bs 0 0) _ _ _ _ e) ∙ ap (λ x. get_or bs 0 0 ∷ x) (is_one (get_or bs 0 0) _ _ _ _ e)
      ∙ (λ i. get_or bs 0 0 ∷ high_of_two (get_or bs 1 0) (get_or bs 2 0) (h 1) (h 2) i ∷ low_of_two (get_or bs 1 0) (get_or bs 2 0) (h 1) (h 2) i ∷ one_byte (get_or bs 3 0) (h 3) i ∷ one_byte (get_or bs 4 0) (h 4) i ∷ take_all coefficient_bytes (drop 5 bs) (long l) i)
      ∙ sym (front bs 5 (omega arith))

  back_two : get_or bs 0 0 ≡ 2 → length bs ≡ 65 → description (fields_of bs) ≡ bs
  unfolding description fields_of bytes number list_from
  back_two e l =
      ap description (is_two (get_or bs 0 0) _ _ _ _ e) ∙ ap (λ x. get_or bs 0 0 ∷ x) (is_two (get_or bs 0 0) _ _ _ _ e)
      ∙ (λ i. get_or bs 0 0 ∷ high_of_two (get_or bs 1 0) (get_or bs 2 0) (h 1) (h 2) i ∷ low_of_two (get_or bs 1 0) (get_or bs 2 0) (h 1) (h 2) i ∷ one_byte (get_or bs 3 0) (h 3) i ∷ one_byte (get_or bs 4 0) (h 4) i ∷ take_all coefficient_bytes (drop 5 bs) (long l) i)
      ∙ sym (front bs 5 (omega arith))

  back_three : get_or bs 0 0 ≡ 3 → length bs ≡ 21 → description (fields_of bs) ≡ bs
  unfolding description fields_of bytes number list_from
  back_three e l =
      ap description (is_three (get_or bs 0 0) _ _ _ _ e) ∙ ap (λ x. get_or bs 0 0 ∷ x) (is_three (get_or bs 0 0) _ _ _ _ e)
      ∙ (λ i. get_or bs 0 0 ∷ high_of_two (get_or bs 1 0) (get_or bs 2 0) (h 1) (h 2) i ∷ low_of_two (get_or bs 1 0) (get_or bs 2 0) (h 1) (h 2) i ∷ high_of_two (get_or bs 3 0) (get_or bs 4 0) (h 3) (h 4) i ∷ low_of_two (get_or bs 3 0) (get_or bs 4 0) (h 3) (h 4) i ∷ one_byte (get_or bs 5 0) (h 5) i ∷ one_byte (get_or bs 6 0) (h 6) i ∷ byte3 (get_or bs 7 0) (get_or bs 8 0) (get_or bs 9 0) (get_or bs 10 0) (h 7) (h 8) (h 9) (h 10) i ∷ byte2 (get_or bs 7 0) (get_or bs 8 0) (get_or bs 9 0) (get_or bs 10 0) (h 7) (h 8) (h 9) (h 10) i ∷ byte1 (get_or bs 7 0) (get_or bs 8 0) (get_or bs 9 0) (get_or bs 10 0) (h 7) (h 8) (h 9) (h 10) i ∷ byte0 (get_or bs 7 0) (get_or bs 8 0) (get_or bs 9 0) (get_or bs 10 0) (h 7) (h 8) (h 9) (h 10) i ∷ one_byte (get_or bs 11 0) (h 11) i ∷ one_byte (get_or bs 12 0) (h 12) i ∷ byte3 (get_or bs 13 0) (get_or bs 14 0) (get_or bs 15 0) (get_or bs 16 0) (h 13) (h 14) (h 15) (h 16) i ∷ byte2 (get_or bs 13 0) (get_or bs 14 0) (get_or bs 15 0) (get_or bs 16 0) (h 13) (h 14) (h 15) (h 16) i ∷ byte1 (get_or bs 13 0) (get_or bs 14 0) (get_or bs 15 0) (get_or bs 16 0) (h 13) (h 14) (h 15) (h 16) i ∷ byte0 (get_or bs 13 0) (get_or bs 14 0) (get_or bs 15 0) (get_or bs 16 0) (h 13) (h 14) (h 15) (h 16) i ∷ byte3 (get_or bs 17 0) (get_or bs 18 0) (get_or bs 19 0) (get_or bs 20 0) (h 17) (h 18) (h 19) (h 20) i ∷ byte2 (get_or bs 17 0) (get_or bs 18 0) (get_or bs 19 0) (get_or bs 20 0) (h 17) (h 18) (h 19) (h 20) i ∷ byte1 (get_or bs 17 0) (get_or bs 18 0) (get_or bs 19 0) (get_or bs 20 0) (h 17) (h 18) (h 19) (h 20) i ∷ byte0 (get_or bs 17 0) (get_or bs 18 0) (get_or bs 19 0) (get_or bs 20 0) (h 17) (h 18) (h 19) (h 20) i ∷ [])
      ∙ sym (all_from bs 0 21 (omega arith))

  back_four : get_or bs 0 0 ≡ 4 → length bs ≡ 24 → description (fields_of bs) ≡ bs
  unfolding description fields_of bytes number list_from
  back_four e l =
      ap description (is_four (get_or bs 0 0) _ _ _ _ e) ∙ ap (λ x. get_or bs 0 0 ∷ x) (is_four (get_or bs 0 0) _ _ _ _ e)
      ∙ (λ i. get_or bs 0 0 ∷ high_of_two (get_or bs 1 0) (get_or bs 2 0) (h 1) (h 2) i ∷ low_of_two (get_or bs 1 0) (get_or bs 2 0) (h 1) (h 2) i ∷ high_of_two (get_or bs 3 0) (get_or bs 4 0) (h 3) (h 4) i ∷ low_of_two (get_or bs 3 0) (get_or bs 4 0) (h 3) (h 4) i ∷ one_byte (get_or bs 5 0) (h 5) i ∷ one_byte (get_or bs 6 0) (h 6) i ∷ one_byte (get_or bs 7 0) (h 7) i ∷ byte3 (get_or bs 8 0) (get_or bs 9 0) (get_or bs 10 0) (get_or bs 11 0) (h 8) (h 9) (h 10) (h 11) i ∷ byte2 (get_or bs 8 0) (get_or bs 9 0) (get_or bs 10 0) (get_or bs 11 0) (h 8) (h 9) (h 10) (h 11) i ∷ byte1 (get_or bs 8 0) (get_or bs 9 0) (get_or bs 10 0) (get_or bs 11 0) (h 8) (h 9) (h 10) (h 11) i ∷ byte0 (get_or bs 8 0) (get_or bs 9 0) (get_or bs 10 0) (get_or bs 11 0) (h 8) (h 9) (h 10) (h 11) i ∷ one_byte (get_or bs 12 0) (h 12) i ∷ one_byte (get_or bs 13 0) (h 13) i ∷ byte3 (get_or bs 14 0) (get_or bs 15 0) (get_or bs 16 0) (get_or bs 17 0) (h 14) (h 15) (h 16) (h 17) i ∷ byte2 (get_or bs 14 0) (get_or bs 15 0) (get_or bs 16 0) (get_or bs 17 0) (h 14) (h 15) (h 16) (h 17) i ∷ byte1 (get_or bs 14 0) (get_or bs 15 0) (get_or bs 16 0) (get_or bs 17 0) (h 14) (h 15) (h 16) (h 17) i ∷ byte0 (get_or bs 14 0) (get_or bs 15 0) (get_or bs 16 0) (get_or bs 17 0) (h 14) (h 15) (h 16) (h 17) i ∷ one_byte (get_or bs 18 0) (h 18) i ∷ byte3 (get_or bs 19 0) (get_or bs 20 0) (get_or bs 21 0) (get_or bs 22 0) (h 19) (h 20) (h 21) (h 22) i ∷ byte2 (get_or bs 19 0) (get_or bs 20 0) (get_or bs 21 0) (get_or bs 22 0) (h 19) (h 20) (h 21) (h 22) i ∷ byte1 (get_or bs 19 0) (get_or bs 20 0) (get_or bs 21 0) (get_or bs 22 0) (h 19) (h 20) (h 21) (h 22) i ∷ byte0 (get_or bs 19 0) (get_or bs 20 0) (get_or bs 21 0) (get_or bs 22 0) (h 19) (h 20) (h 21) (h 22) i ∷ one_byte (get_or bs 23 0) (h 23) i ∷ [])
      ∙ sym (all_from bs 0 24 (omega arith))

-- writing what was read gives the same bytes
pub read_written : (bs : List ℕ) → ((i : ℕ) → get_or bs i 0 < 256) → read_refusal bs ≡ 0 → description (fields_of bs) ≡ bs
unfolding read_refusal
read_written bs h e =
    let (a, e₁) = passed 0 (eqb (length bs) 0 || outside 1 4 (get_or bs 0 0)) _ e in
    let (b, e₂) = passed 1 (not (eqb (length bs) (length_of (get_or bs 0 0)))) _ e₁ in
    let (_, k) = or-none (eqb (length bs) 0) (outside 1 4 (get_or bs 0 0)) a in
    let (k₁, k₂) = inside 1 4 (get_or bs 0 0) k in
    let l : length bs ≡ length_of (get_or bs 0 0) = eqb-true _ _ (not-false _ b) in
    by_cases (ℕ_discrete (get_or bs 0 0) 1) (λ q. back_one bs h q (l ∙ is_one (get_or bs 0 0) _ _ _ _ q))
    (λ n₁. by_cases (ℕ_discrete (get_or bs 0 0) 2) (λ q. back_two bs h q (l ∙ is_two (get_or bs 0 0) _ _ _ _ q))
    (λ n₂. by_cases (ℕ_discrete (get_or bs 0 0) 3) (λ q. back_three bs h q (l ∙ is_three (get_or bs 0 0) _ _ _ _ q))
    (λ n₃. let q : get_or bs 0 0 ≡ 4 = omega arith in back_four bs h q (l ∙ is_four (get_or bs 0 0) _ _ _ _ q))))

-- what was read is accepted by every other call
pub read_accepted : (bs : List ℕ) → read_refusal bs ≡ 0 → field_refusal (fields_of bs) ≡ 0
unfolding read_refusal field_refusal fields_of
read_accepted bs e =
    let (a, e₁) = passed 0 (eqb (length bs) 0 || outside 1 4 (get_or bs 0 0)) _ e in
    let (_, e₂) = passed 1 (not (eqb (length bs) (length_of (get_or bs 0 0)))) _ e₁ in
    let (_, k) = or-none (eqb (length bs) 0) (outside 1 4 (get_or bs 0 0)) a in
    sym (skips 0 1 _ _ _ refl (ap (outside 1 4) (kind_of bs (inside 1 4 (get_or bs 0 0) k)) ∙ k) (sym e₂))
  where
    kind_of : (bs : List ℕ) → (1 ≤ get_or bs 0 0) × (get_or bs 0 0 ≤ 4) → (fields_of bs).kind ≡ get_or bs 0 0
    kind_of bs (k₁, k₂) =
        by_cases (ℕ_discrete (get_or bs 0 0) 1) (λ q. ap (λ (g : Fields). g.kind) (is_one (get_or bs 0 0) _ _ _ _ q))
        (λ n₁. by_cases (ℕ_discrete (get_or bs 0 0) 2) (λ q. ap (λ (g : Fields). g.kind) (is_two (get_or bs 0 0) _ _ _ _ q))
        (λ n₂. by_cases (ℕ_discrete (get_or bs 0 0) 3) (λ q. ap (λ (g : Fields). g.kind) (is_three (get_or bs 0 0) _ _ _ _ q))
        (λ n₃. let q : get_or bs 0 0 ≡ 4 = omega arith in ap (λ (g : Fields). g.kind) (is_four (get_or bs 0 0) _ _ _ _ q))))

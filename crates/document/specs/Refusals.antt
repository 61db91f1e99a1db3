-- "Refusal numbers": the table, and for each call the rows of the table that its column Where names.
use Rattle.std.specs.Prelude.{Bool, false, not, ◌&&◌, ◌||◌, cond, List, [], ◌∷◌, ◌++◌, ℕ, zero, suc, ◌-◌, ◌*◌, ◌^◌, eqb, ltb, length, get_or}
use Rattle.digits.specs.Def.{nonzero, bits_of}
use Rattle.document.specs.Limits.{most_bits, row_words, work_words, most_output, coefficient_bytes}
use Rattle.document.specs.Generator.{by_kind, coefficient, size}
use Rattle.document.specs.Description.{length_of, fields_of}
use Rattle.document.specs.declared.Fields.{Fields}

-- a number, and whether its case is given
pub record Case : Type 0 where
  pub number : ℕ
  pub given : Bool

infix 20 ◌if◌
abbrev pub ◌if◌ : ℕ → Bool → Case
n if b = record { number = n; given = b }

-- "Of several, the lowest is given"; "Accepted is 0". The cases are listed by rising numbers.
unfoldable pub lowest : List Case → ℕ
lowest [] = 0
lowest (c ∷ cs) = cond c.given c.number (lowest cs)

-- x is not low to high
unfoldable pub outside : ℕ → ℕ → ℕ → Bool
outside low high x = ltb x low || ltb high x

-- f i for some i below n
unfoldable pub any : ℕ → (ℕ → Bool) → Bool
any zero f = false
any (suc n) f = any n f || f n

-- ---- the fields, by "Ranges" and case 6

-- 1: kind not 1 to 4
abbrev pub bad_kind : Fields → Bool
bad_kind g = outside 1 4 g.kind

-- 3: k, r, w, r·w, m or p out of range
unfoldable pub bad_words : Fields → Bool
bad_words g = outside 1 most_output g.w || ltb most_bits (g.r * g.w)

unfoldable pub bad_twist : Fields → Bool
bad_twist g = bad_words g || (ltb g.r 2 || outside 1 (g.r - 1) g.m)

unfoldable pub bad_size : Fields → Bool
bad_size g =
    by_kind g.kind
    (outside 1 most_bits g.k)
    (bad_words g || ltb g.r 1)
    (bad_twist g)
    (bad_twist g || not (ltb g.p g.w))

-- 4: L out of range
unfoldable pub bad_bits : Fields → Bool
bad_bits g = outside 1 (by_kind g.kind most_output g.w g.w g.w) g.bits

-- 5: ν or a shift out of range
unfoldable pub bad_pair : Fields → ℕ → ℕ → Bool
bad_pair g x y = outside 1 g.w x || outside 1 g.w y

unfoldable pub bad_shift : Fields → Bool
bad_shift g =
    by_kind g.kind
    (outside 1 255 g.nu)
    false
    (bad_pair g g.s g.t)
    (bad_pair g g.s g.t || bad_pair g g.u g.v)

-- 6: a, b or c not below 2^w
unfoldable pub wide_word : Fields → Bool
wide_word g = not (ltb g.a (2 ^ g.w)) || (not (ltb g.b (2 ^ g.w)) || not (ltb g.c (2 ^ g.w)))

-- 6: a coefficient past a_n set
unfoldable pub coefficient_past : Fields → ℕ → Bool
coefficient_past g n = any (8 * coefficient_bytes) (λ i. not (ltb i n) && coefficient g i)

unfoldable pub bad_own : Fields → Bool
bad_own g = by_kind g.kind (coefficient_past g g.k) (coefficient_past g g.r) (wide_word g) (wide_word g)

-- 6: a field the kind hasn't got is not zero. First the fields of kind 1, and of kinds 3 and 4, alone.
unfoldable pub one_set : ℕ → ℕ → Bool
one_set x y = nonzero x || nonzero y

unfoldable pub stray_one : Fields → Bool
stray_one g = nonzero g.k || nonzero g.nu

unfoldable pub stray_twist : Fields → Bool
stray_twist g = one_set g.a g.b || (nonzero g.c || (nonzero g.p || (one_set g.u g.v || one_set g.s g.t)))

unfoldable pub stray_field : Fields → Bool
stray_field g =
    by_kind g.kind
    (nonzero g.r || (nonzero g.m || (nonzero g.w || stray_twist g)))
    (stray_one g || (nonzero g.m || stray_twist g))
    (stray_one g || (nonzero g.p || (one_set g.u g.v || coefficient_past g 0)))
    (stray_one g || coefficient_past g 0)

unfoldable pub bad_value : Fields → Bool
bad_value g = bad_own g || stray_field g

-- the rows "all" but the first, and all of them
abbrev pub range_cases : Fields → List Case
range_cases g = (3 if bad_size g) ∷ (4 if bad_bits g) ∷ (5 if bad_shift g) ∷ (6 if bad_value g) ∷ []

abbrev pub field_cases : Fields → List Case
field_cases g = (1 if bad_kind g) ∷ range_cases g

-- ---- the calls: those rows of the table that the column Where gives to each

-- reading the bytes bs
abbrev pub read_cases : List ℕ → List Case
read_cases bs =
    (1 if eqb (length bs) 0 || outside 1 4 (get_or bs 0 0))
    ∷ (2 if not (eqb (length bs) (length_of (get_or bs 0 0))))
    ∷ range_cases (fields_of bs)

-- writing into a buffer of `room` bytes
abbrev pub write_cases : Fields → ℕ → List Case
write_cases g room = field_cases g ++ ((11 if ltb room (length_of g.kind)) ∷ [])

-- t outputs from a start state of 8 words into a buffer of `room` numbers: the rows behind those of the fields, for k state bits, and all of them
abbrev pub run_cases : ℕ → ℕ → List ℕ → ℕ → List Case
run_cases k t state room = (7 if outside 1 k t) ∷ (9 if any (64 * row_words) (λ i. not (ltb i k) && bits_of state i)) ∷ (11 if ltb room t) ∷ []

abbrev pub outputs_cases : Fields → ℕ → List ℕ → ℕ → List Case
outputs_cases g t state room = field_cases g ++ run_cases (size g) t state room

-- the question (t, l), with a work buffer of `room` words
abbrev pub question_cases : Fields → ℕ → ℕ → ℕ → List Case
question_cases g t l room = field_cases g ++ ((7 if outside 1 (size g) t) ∷ (8 if outside 1 g.bits l) ∷ (11 if ltb room work_words) ∷ [])

-- the basis of (t, l), and its check call
abbrev pub basis_cases : Fields → ℕ → ℕ → ℕ → List Case
basis_cases g t l room =
    field_cases g
    ++ ((7 if outside 1 (size g) t) ∷ (8 if outside 1 g.bits l) ∷ (10 if ltb (size g) (t * l)) ∷ (11 if ltb room work_words) ∷ [])

abbrev pub report_cases : Fields → ℕ → List Case
report_cases g room = field_cases g ++ ((11 if ltb room work_words) ∷ [])

-- "The value call tests L as 1 to 32 only"; 6 where the number is not below 2^L
abbrev pub value_cases : ℕ → ℕ → List Case
value_cases y L = (4 if outside 1 most_output L) ∷ (6 if not (ltb y (2 ^ L))) ∷ []

-- ---- what several calls ask of their arguments: a dimension, a pair (t, l), a start state, and room for `least` in a buffer of `room`

-- a bit numbered k or more is set in a start state of 8 words
unfoldable pub late_bit : ℕ → List ℕ → Bool
late_bit k state = any (64 * row_words) (λ i. not (ltb i k) && bits_of state i)

abbrev pub dimension_cases : ℕ → ℕ → List Case
dimension_cases k t = (7 if outside 1 k t) ∷ []

abbrev pub pair_cases : ℕ → ℕ → ℕ → ℕ → List Case
pair_cases k L t l = dimension_cases k t ++ ((8 if outside 1 L l) ∷ [])

abbrev pub state_cases : ℕ → List ℕ → List Case
state_cases k state = (9 if late_bit k state) ∷ []

abbrev pub room_cases : ℕ → ℕ → List Case
room_cases least room = (11 if ltb room least) ∷ []

-- a generator and a pair (t, l)
abbrev pub asked_cases : Fields → ℕ → ℕ → List Case
asked_cases g t l = field_cases g ++ pair_cases (size g) g.bits t l

-- ---- what each call answers

unfoldable pub range_refusal : Fields → ℕ
range_refusal g = lowest (range_cases g)

unfoldable pub field_refusal : Fields → ℕ
field_refusal g = lowest (field_cases g)

unfoldable pub read_refusal : List ℕ → ℕ
read_refusal bs = lowest (read_cases bs)

unfoldable pub write_refusal : Fields → ℕ → ℕ
write_refusal g room = lowest (write_cases g room)

unfoldable pub outputs_refusal : Fields → ℕ → List ℕ → ℕ → ℕ
outputs_refusal g t state room = lowest (outputs_cases g t state room)

unfoldable pub question_refusal : Fields → ℕ → ℕ → ℕ → ℕ
question_refusal g t l room = lowest (question_cases g t l room)

unfoldable pub basis_refusal : Fields → ℕ → ℕ → ℕ → ℕ
basis_refusal g t l room = lowest (basis_cases g t l room)

unfoldable pub report_refusal : Fields → ℕ → ℕ
report_refusal g room = lowest (report_cases g room)

unfoldable pub value_refusal : ℕ → ℕ → ℕ
value_refusal y L = lowest (value_cases y L)

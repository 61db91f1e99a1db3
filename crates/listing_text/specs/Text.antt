-- "The listing program": the text of a report.
use Rattle.std.specs.Prelude.{Bool, cond, List, [], ◌∷◌, ◌++◌, ℕ, zero, suc, ◌+◌, ◌-◌, ◌*◌, ◌/◌, ◌%◌, min, ltb}
use Rattle.document.specs.Limits.{most_bits, most_output}

-- every number of a listing is below this, and so has at most so many digits
abbrev pub most_number : ℕ
most_number = 100000

abbrev pub number_bytes : ℕ
number_bytes = 5

-- a number of at most p + 1 digits in decimal, with no zero in front
unfoldable pub decimal_in : ℕ → ℕ → List ℕ
decimal_in zero n = (48 + n) ∷ []
decimal_in (suc p) n = cond (ltb n 10) ((48 + n) ∷ []) (decimal_in p (n / 10) ++ ((48 + n % 10) ∷ []))

abbrev pub decimal : ℕ → List ℕ
decimal n = decimal_in 4 n

-- a space and a number
abbrev pub next_bytes : ℕ
next_bytes = 6

unfoldable pub next : ℕ → List ℕ
next n = 32 ∷ decimal n

-- "Every line, a refusal too, ends in a line feed."
abbrev pub new_line : List ℕ
new_line = 10 ∷ []

-- no line is longer
abbrev pub line_bytes : ℕ
line_bytes = 32

-- "A `t` line: t, l_t*, l_t, Λ_t. An `l` line: l, k div l, t_l, Δ_l."
unfoldable pub row_line : ℕ → ℕ → ℕ → ℕ → ℕ → List ℕ
row_line letter a b c d = (letter ∷ []) ++ (next a ++ (next b ++ (next c ++ (next d ++ new_line))))

-- "The first line gives k, the state bits, and L."
unfoldable pub head_line : ℕ → ℕ → List ℕ
head_line k L = (107 ∷ []) ++ (next k ++ ((32 ∷ 76 ∷ []) ++ (next L ++ new_line)))

-- "`sum`: that of Λ, then of Δ."
unfoldable pub sums_line : ℕ → ℕ → List ℕ
sums_line a b = (115 ∷ 117 ∷ 109 ∷ []) ++ (next a ++ (next b ++ new_line))

-- "The last line is `ME yes` or `ME no`."
abbrev pub verdict : Bool → List ℕ
verdict me = cond me (121 ∷ 101 ∷ 115 ∷ []) (110 ∷ 111 ∷ [])

unfoldable pub me_line : Bool → List ℕ
me_line me = (77 ∷ 69 ∷ 32 ∷ []) ++ (verdict me ++ new_line)

-- "or `refused N`"
unfoldable pub refused_line : ℕ → List ℕ
refused_line n = (114 ∷ 101 ∷ 102 ∷ 117 ∷ 115 ∷ 101 ∷ 100 ∷ []) ++ (next n ++ new_line)

-- the lines of 1 to n
unfoldable pub lines_to : ℕ → (ℕ → List ℕ) → List ℕ
lines_to zero line = []
lines_to (suc n) line = lines_to n line ++ line (suc n)

-- the line of a dimension t with the resolution l, and of a resolution l with the dimension t, for k and L
unfoldable pub dimension_line : ℕ → ℕ → ℕ → ℕ → List ℕ
dimension_line k L t l = row_line 116 t (min L (k / t)) l (min L (k / t) - l)

unfoldable pub resolution_line : ℕ → ℕ → ℕ → List ℕ
resolution_line k l t = row_line 108 l (k / l) t (k / l - t)

-- the whole listing of k, L, the resolutions, the dimensions, their sums and ME
unfoldable pub page_of : ℕ → ℕ → (ℕ → ℕ) → (ℕ → ℕ) → ℕ → ℕ → Bool → List ℕ
page_of k L resolution dimension a b me =
    head_line k L
    ++ (lines_to k (λ t. dimension_line k L t (resolution t))
    ++ (lines_to L (λ l. resolution_line k l (dimension l))
    ++ (sums_line a b
    ++ me_line me)))

-- no listing is longer
abbrev pub most_text : ℕ
most_text = (most_bits + most_output + 3) * line_bytes

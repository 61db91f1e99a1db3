-- "Description bytes": one byte of kind, then a body whose length the kind fixes.
use Rattle.std.specs.Prelude.{List, [], ◌∷◌, ◌++◌, ℕ, zero, suc, ◌+◌, ◌*◌, ◌/◌, ◌%◌, ◌^◌, get_or, take, drop, replicate}
use Rattle.document.specs.Limits.{coefficient_bytes}
use Rattle.document.specs.Generator.{by_kind}
use Rattle.document.specs.declared.Fields.{Fields}

-- the number x in n bytes. "Numbers have their high byte first."
unfoldable pub bytes : ℕ → ℕ → List ℕ
bytes zero x = []
bytes (suc n) x = (x / 256 ^ n % 256) ∷ bytes n x

-- the number in the n bytes from `at` on
unfoldable pub number : List ℕ → ℕ → ℕ → ℕ
number bs at zero = 0
number bs at (suc n) = 256 * number bs at n + get_or bs (at + n) 0

-- the table's last column
abbrev pub length_of : ℕ → ℕ
length_of kind = by_kind kind 65 65 21 24

-- what Write puts: the kind, and "Body, in order (bytes)"
unfoldable pub description : Fields → List ℕ
description g =
    g.kind
    ∷ by_kind g.kind
    (bytes 2 g.k ++ (bytes 1 g.bits ++ (bytes 1 g.nu ++ g.coefficients)))
    (bytes 2 g.r ++ (bytes 1 g.w ++ (bytes 1 g.bits ++ g.coefficients)))
    (bytes 2 g.r ++ (bytes 2 g.m ++ (bytes 1 g.w ++ (bytes 1 g.bits ++ (bytes 4 g.a ++ (bytes 1 g.s ++ (bytes 1 g.t ++ (bytes 4 g.b ++ bytes 4 g.c))))))))
    (bytes 2 g.r ++ (bytes 2 g.m ++ (bytes 1 g.w ++ (bytes 1 g.p ++ (bytes 1 g.bits ++ (bytes 4 g.a ++ (bytes 1 g.u ++ (bytes 1 g.s ++ (bytes 4 g.b ++ (bytes 1 g.t ++ (bytes 4 g.c ++ bytes 1 g.v)))))))))))

-- what Read gives: the kind and the body's fields, "those of other kinds zero"
unfoldable pub fields_of : List ℕ → Fields
fields_of bs =
    let at : ℕ → ℕ = λ i. get_or bs i 0 in
    let none : List ℕ = replicate coefficient_bytes 0 in
    by_kind (at 0)
    (record { kind = at 0; k = number bs 1 2; nu = at 4; r = 0; m = 0; w = 0; p = 0; bits = at 3; a = 0; u = 0; s = 0; b = 0; t = 0; c = 0; v = 0; coefficients = take coefficient_bytes (drop 5 bs) })
    (record { kind = at 0; k = 0; nu = 0; r = number bs 1 2; m = 0; w = at 3; p = 0; bits = at 4; a = 0; u = 0; s = 0; b = 0; t = 0; c = 0; v = 0; coefficients = take coefficient_bytes (drop 5 bs) })
    (record { kind = at 0; k = 0; nu = 0; r = number bs 1 2; m = number bs 3 2; w = at 5; p = 0; bits = at 6; a = number bs 7 4; u = 0; s = at 11; b = number bs 13 4; t = at 12; c = number bs 17 4; v = 0; coefficients = none })
    (record { kind = at 0; k = 0; nu = 0; r = number bs 1 2; m = number bs 3 2; w = at 5; p = at 6; bits = at 7; a = number bs 8 4; u = at 12; s = at 13; b = number bs 14 4; t = at 18; c = number bs 19 4; v = at 23; coefficients = none })

-- the fields of a refused reading: every number is zero
abbrev pub no_fields : Fields
no_fields = record { kind = 0; k = 0; nu = 0; r = 0; m = 0; w = 0; p = 0; bits = 0; a = 0; u = 0; s = 0; b = 0; t = 0; c = 0; v = 0; coefficients = replicate coefficient_bytes 0 }

-- Names of components (document 01, "Components and the two walks").
use Rattle.std.specs.Prelude.{ℕ, List, [], ◌∷◌, Bool, cond, length, drop, ltb, leb, eqb}
use Rattle.bytes_read.specs.Tests.{all_true, all}
use Rattle.bytes_read.specs.Printable.{is_printable}

abbrev pub is_zero : ℕ → Bool
is_zero b = eqb b 0

-- A fit name: 1 to 255 bytes of 0x21 to 0x7E.

unfoldable pub name_tests : List ℕ → List Bool
name_tests n = leb 1 (length n) ∷ leb (length n) 255 ∷ all is_printable n ∷ []

unfoldable pub name_fits : List ℕ → Bool
name_fits n = all_true (name_tests n)

-- The bytes before the first zero.
unfoldable pub before_zero : List ℕ → List ℕ
before_zero [] = []
before_zero (b ∷ bs) = cond (is_zero b) [] (b ∷ before_zero bs)

-- The name n and its field f: f has a zero byte, a fit name stands before it, and zeros after it.
unfoldable pub field_tests : List ℕ → List ℕ → List Bool
field_tests f n = ltb (length n) (length f) ∷ name_fits n ∷ all is_zero (drop (length n) f) ∷ []

unfoldable pub field_fits : List ℕ → Bool
field_fits f = all_true (field_tests f (before_zero f))

-- The length of the name in the field f, or 0 where the field is unfit.
unfoldable pub name_length : List ℕ → ℕ
name_length f = cond (field_fits f) (length (before_zero f)) 0

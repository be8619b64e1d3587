-- Names of areas (document 01, "Flash map"): 1 to 31 bytes of 0x21 to 0x7E, then a zero; what follows is not read.
use Rattle.std.specs.Prelude.{ℕ, ◌≤◌, ◌≡◌, List, [], ◌∷◌, Bool, true, cond, length, drop, get_or, leb, eqb}
use Rattle.bytes_read.specs.Tests.{all_true, all}
use Rattle.bytes_read.specs.Printable.{is_printable, printable_prefix}

-- The name n at the start of the bytes f is fit. Past the end of f stands no zero.
unfoldable pub area_name_tests : List ℕ → List ℕ → List Bool
area_name_tests f n = leb 1 (length n) ∷ leb (length n) 31 ∷ eqb (get_or f (length n) 1) 0 ∷ []

-- A fit name stands at the start of f.
unfoldable pub area_name_fits : List ℕ → Bool
area_name_fits f = all_true (area_name_tests f (printable_prefix f))

-- The name at the start of f; empty where none is fit.
unfoldable pub area_name_of : List ℕ → List ℕ
area_name_of f = cond (area_name_fits f) (printable_prefix f) []

-- The name that stands in s at p.
abbrev pub area_name_at : List ℕ → ℕ → List ℕ
area_name_at s p = area_name_of (drop p s)

-- For what is promised of maps: a fit name: 1 to 31 bytes of 0x21 to 0x7E.
pub record FitAreaName (n : List ℕ) : Type 0 where
  pub some_byte : 1 ≤ length n
  pub most : length n ≤ 31
  pub letters : all is_printable n ≡ true

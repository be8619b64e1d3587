-- An order of refusals (document 01, "Refusal numbers": earlier in this order wins, and none is given otherwise).
use Rattle.std.specs.Prelude.{ℕ, List, [], ◌∷◌, Bool, cond, length, leb}
use Rattle.bytes_read.specs.Tests.{all_true}

-- A test and the number by which it refuses.
pub record Test : Type 0 where
  pub number : ℕ
  pub passed : Bool

abbrev pub test : ℕ → Bool → Test
test n b = record { number = n; passed = b }

-- The number of the first test that fails, or else 0.
abbrev pub first_failed : List Test → ℕ
first_failed [] = 0
first_failed (t ∷ ts) = cond t.passed (first_failed ts) t.number

-- Test 1, with which every call begins: the image has 64 to 16,777,216 bytes.
unfoldable pub length_fits : List ℕ → Bool
length_fits i = all_true (leb 64 (length i) ∷ leb (length i) 16777216 ∷ [])

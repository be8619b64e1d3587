-- Hexadecimal digits: of bytes, as the probe's answers have them, and of a component's type, as the listing writes it (document 01, "Bench image A").
use Rattle.std.specs.Prelude.{ℕ, zero, suc, ◌+◌, ◌-◌, ◌/◌, ◌%◌, ◌≡◌, refl, cond, List, [], ◌∷◌, ◌++◌, ltb}

-- The ASCII code of a digit below 16: `0` to `9`, then six letters, of which `ten` is the first.
abbrev pub digit_of : ℕ → ℕ → ℕ
digit_of ten d = cond (ltb d 10) (48 + d) (ten + (d - 10))

-- The last k digits of n, the most significant first.
unfoldable pub digits : ℕ → ℕ → ℕ → List ℕ
digits ten zero n = []
digits ten (suc k) n = digits ten k (n / 16) ++ (digit_of ten (n % 16) ∷ [])

-- Two lower-case digits a byte.
unfoldable pub hex_pairs : List ℕ → List ℕ
hex_pairs [] = []
hex_pairs (b ∷ bs) = digits 97 2 b ++ hex_pairs bs

-- Bytes in lower-case hexadecimal; `-` stands for none.
unfoldable pub hex_of : List ℕ → List ℕ
hex_of [] = 45 ∷ []
hex_of (b ∷ bs) = hex_pairs (b ∷ bs)

-- A type in eight upper-case digits.
unfoldable pub type_digits : ℕ → List ℕ
type_digits n = digits 65 8 n

-- No bytes as `-`; 0x09, 0xA0 and 0xFF as `09a0ff`.
hex_worked : (hex_of [] ≡ 45 ∷ []) × (hex_of (9 ∷ 160 ∷ 255 ∷ []) ≡ 48 ∷ 57 ∷ 97 ∷ 48 ∷ 102 ∷ 102 ∷ [])
unfolding digits hex_pairs hex_of
hex_worked = (refl, refl)

-- The types 0x10 and 0xFEEDBEEF, as `00000010` and `FEEDBEEF`.
type_worked : (type_digits 16 ≡ 48 ∷ 48 ∷ 48 ∷ 48 ∷ 48 ∷ 48 ∷ 49 ∷ 48 ∷ []) × (type_digits 4276993775 ≡ 70 ∷ 69 ∷ 69 ∷ 68 ∷ 66 ∷ 69 ∷ 69 ∷ 70 ∷ [])
unfolding digits type_digits
type_worked = (refl, refl)

-- The checksum of a component (document 02, request 5).
use Rattle.std.specs.Prelude.{ℕ, ◌+◌, ◌%◌, List, [], ◌∷◌, ◌++◌, Bool, true, cond, take, drop, get_or, eqb}
use Rattle.bytes_read.specs.Number.{be}

-- The checksum that a header states: the four bytes from 16 on.
abbrev pub checksum_of : List ℕ → ℕ
checksum_of s = be 4 s 16

-- "the four checksum bytes counted as zero"
abbrev pub checksum_zeroed : List ℕ → List ℕ
checksum_zeroed s = take 16 s ++ (0 ∷ 0 ∷ 0 ∷ 0 ∷ drop 20 s)

-- "the sum of all bytes"
unfoldable pub total : List ℕ → ℕ
total [] = 0
total (b ∷ bs) = b + total bs

-- The sum of the span s: "the sum of all bytes of the span, the four checksum bytes counted as zero, as a 32-bit number".
unfoldable pub span_sum : List ℕ → ℕ
span_sum s = total (checksum_zeroed s) % 4294967296

-- "A field of 0 means none is stated": the span states none, or the right one.
unfoldable pub checksum_matches : List ℕ → Bool
checksum_matches s = cond (eqb (checksum_of s) 0) true (eqb (checksum_of s) (span_sum s))

-- The code's own: the sum of the four checksum bytes, which it counts on both sides of the comparison.
abbrev pub checksum_byte_sum : List ℕ → ℕ
checksum_byte_sum s = get_or s 16 0 + get_or s 17 0 + get_or s 18 0 + get_or s 19 0

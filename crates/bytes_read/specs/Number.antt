-- Numbers in bytes, big- and little-endian, of any width. A byte past the end reads as 0.
use Rattle.std.specs.Prelude.{ℕ, zero, suc, ◌+◌, ◌*◌, ◌/◌, ◌%◌, List, [], ◌∷◌, ◌++◌, get_or}

-- The w bytes from i on as one number, the first byte the highest.
unfoldable pub be : ℕ → List ℕ → ℕ → ℕ
be zero s i = 0
be (suc w) s i = be w s i * 256 + get_or s (i + w) 0

-- The w bytes from i on as one number, the first byte the lowest.
unfoldable pub le : ℕ → List ℕ → ℕ → ℕ
le zero s i = 0
le (suc w) s i = get_or s i 0 + le w s (i + 1) * 256

-- v as w bytes, the highest first.
unfoldable pub be_bytes : ℕ → ℕ → List ℕ
be_bytes zero v = []
be_bytes (suc w) v = be_bytes w (v / 256) ++ (v % 256 ∷ [])

-- v as w bytes, the lowest first.
unfoldable pub le_bytes : ℕ → ℕ → List ℕ
le_bytes zero v = []
le_bytes (suc w) v = v % 256 ∷ le_bytes w (v / 256)

-- A number of four bytes with its bytes in the other order.
abbrev pub swap_bytes : ℕ → ℕ
swap_bytes v = v % 256 * 16777216 + v / 256 % 256 * 65536 + v / 65536 % 256 * 256 + v / 16777216

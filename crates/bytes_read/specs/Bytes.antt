-- Parts of a run of bytes; bytes compared and written.
use Rattle.std.specs.Prelude.{ℕ, ◌+◌, List, [], ◌∷◌, ◌++◌, Bool, true, false, cond, length, take, drop, leb, eqb}

-- n bytes from at on lie within d.
abbrev pub fits : List ℕ → ℕ → ℕ → Bool
fits d at n = leb (at + n) (length d)

-- The n bytes from at on; none where they do not lie within s.
unfoldable pub part_of : List ℕ → ℕ → ℕ → List ℕ
part_of s at n = cond (fits s at n) (take n (drop at s)) []

-- Two runs of bytes are the same.
unfoldable pub eq_bytes : List ℕ → List ℕ → Bool
eq_bytes [] [] = true
eq_bytes [] (y ∷ ys) = false
eq_bytes (x ∷ xs) [] = false
eq_bytes (x ∷ xs) (y ∷ ys) = cond (eqb x y) (eq_bytes xs ys) false

-- d with ys in the place of as many bytes from at on.
unfoldable pub splice : List ℕ → ℕ → List ℕ → List ℕ
splice d at ys = take at d ++ (ys ++ drop (at + length ys) d)

-- What a write of ys at at leaves of d: nothing is written where ys does not fit.
unfoldable pub written : List ℕ → ℕ → List ℕ → List ℕ
written d at ys = cond (fits d at (length ys)) (splice d at ys) d

-- The bytes of names, of components and of areas alike (document 01: "bytes of 0x21 to 0x7E").
use Rattle.std.specs.Prelude.{ℕ, List, [], ◌∷◌, Bool, cond, leb}
use Rattle.bytes_read.specs.Tests.{all_true}

-- A byte of a name.
abbrev pub is_printable : ℕ → Bool
is_printable b = all_true (leb 0x21 b ∷ leb b 0x7E ∷ [])

-- The bytes of 0x21 to 0x7E at the start.
unfoldable pub printable_prefix : List ℕ → List ℕ
printable_prefix [] = []
printable_prefix (b ∷ bs) = cond (is_printable b) (b ∷ printable_prefix bs) []

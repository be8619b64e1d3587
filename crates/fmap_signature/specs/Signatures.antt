-- The signatures of flash maps in a run of bytes s (document 01, "Flash map"). They stand at multiples of 64.
use Rattle.std.specs.Prelude.{ℕ, zero, suc, ◌+◌, ◌-◌, ◌/◌, List, [], ◌∷◌, Bool, cond, length, take, drop, Result, Ok, Err}
use Rattle.bytes_read.specs.Bytes.{eq_bytes}
use Rattle.region.specs.Region.{refusal_by}
use Rattle.cbfs_types.specs.declared.Refusal.{Refusal}

-- __FMAP__
unfoldable pub signature : List ℕ
signature = 0x5F ∷ 0x5F ∷ 0x46 ∷ 0x4D ∷ 0x41 ∷ 0x50 ∷ 0x5F ∷ 0x5F ∷ []

-- The bytes begin with the signature.
unfoldable pub has_signature : List ℕ → Bool
has_signature s = eq_bytes (take 8 s) signature

-- A signature stands at p: its eight bytes lie wholly in s.
unfoldable pub signature_at : List ℕ → ℕ → Bool
signature_at s p = has_signature (drop p s)

-- How many of p, p + 64, p + 128 and so on have eight bytes of s after them.
unfoldable pub place_count_from : List ℕ → ℕ → ℕ
place_count_from s p = (length s + 56 - p) / 64

-- The places of the signatures at the k places from p on, 64 bytes apart.
unfoldable pub signatures_at : List ℕ → ℕ → ℕ → List ℕ
signatures_at s zero p = []
signatures_at s (suc k) p = let rest = signatures_at s k (p + 64) in cond (signature_at s p) (p ∷ rest) rest

unfoldable pub signatures_from : List ℕ → ℕ → List ℕ
signatures_from s p = signatures_at s (place_count_from s p) p

-- The places of all signatures at multiples of 64.
abbrev pub signatures : List ℕ → List ℕ
signatures s = signatures_from s 0

-- The first of a list, or else d.
abbrev pub first_or : ℕ → List ℕ → ℕ
first_or d [] = d
first_or d (p ∷ ps) = p

-- What is answered: the place of the only signature, or a refusal, 27 for none and 28 for several.
abbrev pub signature_answer : List ℕ → Result ℕ Refusal
signature_answer [] = Err (refusal_by 27)
signature_answer (p ∷ []) = Ok p
signature_answer (p ∷ q ∷ ps) = Err (refusal_by 28)

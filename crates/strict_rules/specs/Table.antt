-- For what is promised: refusals 12, 13 and 11 of document 01's table, in its words, for a region's bytes r at the alignment a.
-- Places are counted from the region's start.
use Rattle.std.specs.Prelude.{ℕ, ◌+◌, ◌≤◌, ◌<◌, ◌≡◌, length, take, drop}
use mathlib.Core.List.{List, [], ◌∷◌, Memᴰ}
use Rattle.region.specs.Table.{Row, row}
use Rattle.walk.specs.Walk.{Entry, plain_listing, Place}
use Rattle.walk_lookup.specs.Lookup.{TwoSameName}
use Rattle.strict_rules.specs.Strict.{Verdict, check_refused, check_accepted}

-- "Its eight bytes are LARCHIVE and lie wholly" in the bytes s: those from p on.
abbrev pub Magic : List ℕ → ℕ → Type 0
Magic s p = (p + 8 ≤ length s) × (take 8 (drop p s) ≡ 0x4C ∷ 0x41 ∷ 0x52 ∷ 0x43 ∷ 0x48 ∷ 0x49 ∷ 0x56 ∷ 0x45 ∷ [])

-- "A place with the magic that the plain walk doesn't take."
abbrev pub Untaken : List ℕ → ℕ → ℕ → Type 0
Untaken r a p = Place a p × Magic r p × ((t : Entry) → Memᴰ t (plain_listing r a) → t.place ≡ p → ⊥)

-- The strict check: "12, 13, 11", where at most that many components are allowed.
abbrev pub check_rows : ℕ → List ℕ → ℕ → List Row
check_rows most r a = row 12 ((p : ℕ) × Untaken r a p) ∷ row 13 (most < length (plain_listing r a)) ∷ row 11 (TwoSameName (plain_listing r a)) ∷ []

-- The number of a verdict, 0 where it accepts.
abbrev pub verdict_number : Verdict → ℕ
verdict_number (check_refused n p) = n
verdict_number (check_accepted ps) = 0

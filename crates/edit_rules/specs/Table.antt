-- For what is promised: the refusals of edits in document 01's table, 10 and 13 to 17, in its words, for an accepted region's bytes r at the alignment a.
-- The strict check's rows come before them (crates/strict_rules/specs/Table.antt).
use Rattle.std.specs.Prelude.{ℕ, ◌+◌, ◌≤◌, ◌<◌, ◌⊎◌, length, get_or}
use mathlib.Core.List.{List, [], ◌∷◌, Memᴰ}
use Rattle.region.specs.Table.{Row, row}
use Rattle.walk.specs.Walk.{Entry, plain_listing, Place}
use Rattle.walk_lookup.specs.Lookup.{Bearer, NoBearer}
use Rattle.strict_rules.specs.Table.{Magic}
use Rattle.edit_rules.specs.Edit.{span_bytes, Free, Decision, refuse, write}

-- "New name empty, over 255 bytes, or a byte outside 0x21 to 0x7E."
abbrev pub UnfitName : List ℕ → Type 0
UnfitName name = (length name < 1) ⊎ ((255 < length name) ⊎ ((j : ℕ) × (j < length name) × ((get_or name j 0 < 0x21) ⊎ (0x7E < get_or name j 0))))

-- "The span to be written, by itself and whether or not it fits, holds LARCHIVE wholly at a multiple of align above 0 from its start."
abbrev pub ContainsMagic : ℕ → List ℕ → Type 0
ContainsMagic a s = (q : ℕ) × Place a q × (0 < q) × Magic s q

-- The slot of t, up to the next component's start or the region's end, is shorter than n bytes.
abbrev pub SlotShort : List ℕ → ℕ → Entry → ℕ → Type 0
SlotShort r a t n = (length r < t.place + n) ⊎ ((u : Entry) × Memᴰ u (plain_listing r a) × (t.place < u.place) × (u.place < t.place + n))

-- Add, where at most that many components are allowed: "14 and 15 .., then 13 .., 16, 17".
abbrev pub add_rows : ℕ → List ℕ → ℕ → List ℕ → ℕ → List ℕ → List Row
add_rows most r a name kind content = let s = span_bytes name kind content in
    row 14 (UnfitName name)
    ∷ row 15 ((t : Entry) × Bearer (plain_listing r a) name t)
    ∷ row 13 (most ≤ length (plain_listing r a))
    ∷ row 16 (ContainsMagic a s)
    ∷ row 17 ((q : ℕ) → Place a q → Free r a q (length s) → ⊥)
    ∷ []

-- Replace: "10 .., 16, 17". The new component keeps the type of the old one.
abbrev pub replace_rows : List ℕ → ℕ → List ℕ → List ℕ → List Row
replace_rows r a name content =
    row 10 (NoBearer (plain_listing r a) name)
    ∷ row 16 ((t : Entry) × Bearer (plain_listing r a) name t × ContainsMagic a (span_bytes name t.component.kind content))
    ∷ row 17 ((t : Entry) × Bearer (plain_listing r a) name t × SlotShort r a t (length (span_bytes name t.component.kind content)))
    ∷ []

-- Remove: "10".
abbrev pub remove_rows : List ℕ → ℕ → List ℕ → List Row
remove_rows r a name = row 10 (NoBearer (plain_listing r a) name) ∷ []

-- The number of a decision, 0 where the edit is done.
abbrev pub decision_number : Decision → ℕ
decision_number (refuse n p) = n
decision_number (write x s) = 0

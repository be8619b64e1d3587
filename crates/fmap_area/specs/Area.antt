-- An area of a flash map in the bytes s, and the tests on one area or two (document 01, "Flash map", and refusals 33 to 37).
use Rattle.std.specs.Prelude.{ℕ, ◌+◌, ◌≤◌, ◌<◌, ◌≡◌, ◌⊎◌, List, [], ◌∷◌, Bool, cond, not, ◌||◌, length, drop, leb}
use Rattle.bytes_read.specs.Number.{le}
use Rattle.bytes_read.specs.Bytes.{eq_bytes}
use Rattle.bytes_read.specs.Tests.{all_true}
use Rattle.region.specs.Refusals.{Test, test}
use Rattle.fmap_area.specs.Names.{area_name_fits, area_name_at}
use Rattle.cbfs_types.specs.declared.Area.{Area}

-- An area, 42 bytes, little-endian: offset, size, name, flags. Of the name its place is reported.
unfoldable pub area_at : List ℕ → ℕ → Area
area_at s p = record { offset = le 4 s p; size = le 4 s (p + 4); flags = le 2 s (p + 40); name = p + 8 }

-- A record that is not used.
abbrev pub unused_area : Area
unused_area = record { offset = 0; size = 0; flags = 0; name = 0 }

-- The area at p, or an unused one where its 42 bytes do not lie in s.
unfoldable pub area_in : List ℕ → ℕ → Area
area_in s p = cond (leb (p + 42) (length s)) (area_at s p) unused_area

-- Where an area ends.
abbrev pub end_of : Area → ℕ
end_of a = a.offset + a.size

-- 34: two areas have the same name.

unfoldable pub area_has_name : List ℕ → List ℕ → Area → Bool
area_has_name s name a = eq_bytes (area_name_at s a.name) name

abbrev pub same_name : List ℕ → Area → Area → Bool
same_name s a = area_has_name s (area_name_at s a.name)

-- 35: an area is not empty, and ends at l or before.
unfoldable pub extent_fits : ℕ → Area → Bool
extent_fits l a = all_true (leb 1 a.size ∷ leb (end_of a) l ∷ [])

-- 36: two areas cross. They are not disjoint, and neither holds the other.

unfoldable pub disjoint : Area → Area → Bool
disjoint a b = leb (end_of a) b.offset || leb (end_of b) a.offset

unfoldable pub contains : Area → Area → Bool
contains a b = all_true (leb a.offset b.offset ∷ leb (end_of b) (end_of a) ∷ [])

unfoldable pub cross : Area → Area → Bool
cross a b = all_true (not (disjoint a b) ∷ not (contains a b) ∷ not (contains b a) ∷ [])

-- 37: an area is named FMAP, and holds the bytes from `at` up to e.

unfoldable pub fmap_name : List ℕ
fmap_name = 0x46 ∷ 0x4D ∷ 0x41 ∷ 0x50 ∷ []

unfoldable pub fmap_area_tests : List ℕ → ℕ → ℕ → Area → List Bool
fmap_area_tests s at e a = area_has_name s fmap_name a ∷ leb a.offset at ∷ leb e (end_of a) ∷ []

unfoldable pub contains_map : List ℕ → ℕ → ℕ → Area → Bool
contains_map s at e a = all_true (fmap_area_tests s at e a)

-- The tests on an area by itself, in the order of their refusals: 33, then 35. Areas may not pass l.
unfoldable pub area_tests : List ℕ → ℕ → Area → List Test
area_tests s l a = test 33 (area_name_fits (drop a.name s)) ∷ test 35 (extent_fits l a) ∷ []

-- For what is promised of maps.

-- An area that is not empty and ends at l or before.
pub record AreaInside (l : ℕ) (a : Area) : Type 0 where
  pub some_byte : 0 < a.size
  pub within : end_of a ≤ l

-- Two areas share no byte; one holds the other.

abbrev pub Disjoint : Area → Area → Type 0
Disjoint a b = (end_of a ≤ b.offset) ⊎ (end_of b ≤ a.offset)

abbrev pub Contains : Area → Area → Type 0
Contains a b = (a.offset ≤ b.offset) × (end_of b ≤ end_of a)

abbrev pub DisjointOrNested : Area → Area → Type 0
DisjointOrNested a b = Disjoint a b ⊎ (Contains a b ⊎ Contains b a)

-- An area that is named FMAP and holds the bytes from `at` up to e.
pub record FmapAreaContains (s : List ℕ) (at e : ℕ) (a : Area) : Type 0 where
  pub name : area_name_at s a.name ≡ fmap_name
  pub from : a.offset ≤ at
  pub end : e ≤ end_of a

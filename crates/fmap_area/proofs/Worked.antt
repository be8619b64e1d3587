-- Worked values: names, one area and two, on both sides of each bound (document 01, "Flash map").
use Prim.Native.Nat.{ℕ}
use mathlib.Core.Path.{◌≡◌, refl}
use mathlib.Core.Bool.{Bool, true, false}
use mathlib.Core.List.{List, [], ◌∷◌, ◌++◌, map}
use lib.ListN.{replicate}
use Rattle.bytes_read.specs.Number.{le}
use Rattle.bytes_read.specs.Bytes.{eq_bytes}
use Rattle.bytes_read.specs.Printable.{printable_prefix}
use Rattle.region.specs.Refusals.{first_failed}
use Rattle.fmap_area.specs.Names.{area_name_tests, area_name_fits, area_name_of}
use Rattle.fmap_area.specs.Area.{area_at, unused_area, area_in, area_has_name, same_name, extent_fits, disjoint, contains, cross, fmap_name, fmap_area_tests}
use Rattle.fmap_area.specs.Area.{contains_map}
use Rattle.fmap_area.specs.Area.{area_tests}
use Rattle.cbfs_types.specs.declared.Area.{Area}

-- The name A, n times.
abbrev a's : ℕ → List ℕ
a's n = replicate n 0x41

-- A name, the zero after it, and what is not read.
abbrev field : List ℕ → List ℕ
field n = n ++ (0 ∷ 0xFF ∷ [])

-- 1 to 31 bytes, and none or 32; 0x21 and 0x7E, and their neighbours; no zero within the bytes.
fit_names : map (λ (n : List ℕ). area_name_fits (field n))
    (a's 1 ∷ a's 31 ∷ [] ∷ a's 32 ∷ (0x21 ∷ []) ∷ (0x7E ∷ []) ∷ (0x41 ∷ 0x20 ∷ []) ∷ (0x41 ∷ 0x7F ∷ []) ∷ [])
    ≡ true ∷ true ∷ false ∷ false ∷ true ∷ true ∷ false ∷ false ∷ []
unfolding printable_prefix area_name_tests area_name_fits
fit_names = refl

unended : area_name_fits (a's 4) ≡ false
unfolding printable_prefix area_name_tests area_name_fits
unended = refl

-- The bytes of an area, read field by field; one byte short of it there is none.

abbrev bytes : List ℕ
bytes = (0x04 ∷ 0x03 ∷ 0x02 ∷ 0x01 ∷ []) ++ (0x14 ∷ 0x13 ∷ 0x12 ∷ 0x11 ∷ []) ++ replicate 32 0x41 ++ (0x22 ∷ 0x21 ∷ [])

read : area_in (0 ∷ bytes) 1 ≡ record { offset = 0x01020304; size = 0x11121314; flags = 0x2122; name = 9 }
unfolding le area_at area_in
read = refl

short : area_in bytes 1 ≡ unused_area
unfolding area_in
short = refl

-- The area of z bytes from o on, whose name stands at byte 0.
abbrev area : ℕ → ℕ → Area
area o z = record { offset = o; size = z; flags = 0; name = 0 }

-- Up to byte 16, one byte past it, and no byte; a sum that passes 2^32.
extents : map (extent_fits 16) (area 8 8 ∷ area 8 9 ∷ area 8 0 ∷ area 0 16 ∷ area 15 1 ∷ area 16 1 ∷ area 0xFFFFFFF8 0x10 ∷ [])
    ≡ true ∷ false ∷ false ∷ true ∷ true ∷ false ∷ false ∷ []
unfolding extent_fits
extents = refl

-- By 33 then 35: a fit name and a fit area; either unfit; both.
refusals : map (λ ((n, a) : List ℕ × Area). first_failed (area_tests (field n) 16 a))
    ((a's 1, area 8 8) ∷ ([], area 8 8) ∷ (a's 1, area 8 9) ∷ ([], area 8 9) ∷ ([], area 8 0) ∷ [])
    ≡ 0 ∷ 33 ∷ 35 ∷ 33 ∷ 33 ∷ []
unfolding printable_prefix area_name_tests area_name_fits extent_fits area_tests
refusals = refl

-- Bytes 8 to 16 beside those that touch them, equal and nested ones, and one byte in common at either end.
crossings : map (cross (area 8 8)) (area 0 8 ∷ area 16 8 ∷ area 8 8 ∷ area 9 7 ∷ area 0 32 ∷ area 0 9 ∷ area 15 2 ∷ []) ≡ false ∷ false ∷ false ∷ false
    ∷ false ∷ true ∷ true ∷ []
unfolding disjoint contains cross
crossings = refl

-- Names at byte 0 and at byte 5: what follows the zero is not read; a name's beginning; another letter.
same_names : map (λ (s : List ℕ). same_name s (area 0 1) (record { offset = 0; size = 1; flags = 0; name = 5 }))
    ((0x41 ∷ 0x42 ∷ 0 ∷ 1 ∷ 2 ∷ 0x41 ∷ 0x42 ∷ 0 ∷ 3 ∷ [])
    ∷ (0x41 ∷ 0x42 ∷ 0 ∷ 1 ∷ 2 ∷ 0x41 ∷ 0x42 ∷ 0x41 ∷ 0 ∷ [])
    ∷ (0x41 ∷ 0x42 ∷ 0 ∷ 1 ∷ 2 ∷ 0x41 ∷ 0 ∷ 0 ∷ 3 ∷ [])
    ∷ (0x41 ∷ 0x42 ∷ 0 ∷ 1 ∷ 2 ∷ 0x41 ∷ 0x62 ∷ 0 ∷ 3 ∷ [])
    ∷ [])
    ≡ true ∷ false ∷ false ∷ false ∷ []
unfolding eq_bytes printable_prefix area_name_tests area_name_fits area_name_of area_has_name
same_names = refl

-- FMAP holds bytes 8 to 16, begins after byte 8, ends before byte 16; is another name's beginning, is FMAQ, fmap or FMA.

abbrev named : List ℕ → List Area → List Bool
named n = map (contains_map (field n) 8 16)

fmap-area : named (0x46 ∷ 0x4D ∷ 0x41 ∷ 0x50 ∷ []) (area 8 8 ∷ area 0 32 ∷ area 9 7 ∷ area 8 7 ∷ []) ≡ true ∷ true ∷ false ∷ false ∷ []
unfolding eq_bytes printable_prefix area_name_tests area_name_fits area_name_of area_has_name fmap_name fmap_area_tests contains_map
fmap-area = refl

other_names : map (λ (n : List ℕ). named n (area 8 8 ∷ []))
    ((0x46 ∷ 0x4D ∷ 0x41 ∷ 0x50 ∷ 0x41 ∷ []) ∷ (0x46 ∷ 0x4D ∷ 0x41 ∷ 0x51 ∷ []) ∷ (0x66 ∷ 0x6D ∷ 0x61 ∷ 0x70 ∷ []) ∷ (0x46 ∷ 0x4D ∷ 0x41 ∷ []) ∷ [])
    ≡ (false ∷ []) ∷ (false ∷ []) ∷ (false ∷ []) ∷ (false ∷ []) ∷ []
unfolding eq_bytes printable_prefix area_name_tests area_name_fits area_name_of area_has_name fmap_name fmap_area_tests contains_map
other_names = refl

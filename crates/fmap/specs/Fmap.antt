-- The flash map of an image (document 01, "Flash map", and refusals 1 and 27 to 37): little-endian, packed.
-- The map that stands at a place `at` of the bytes s is judged against a length l.
use Rattle.std.specs.Prelude.{ℕ, zero, suc, ◌+◌, ◌*◌, List, [], ◌∷◌, ◌++◌, Bool, length, get_or, leb, eqb, Result, Ok, Err}
use Rattle.bytes_read.specs.Number.{le}
use Rattle.bytes_read.specs.Tests.{all_true}
use Rattle.bytes_read.specs.Lists.{any, no_two, padded}
use Rattle.region.specs.Refusals.{Test, test, first_failed, length_fits}
use Rattle.region.specs.Region.{unless_refused}
use Rattle.cbfs_types.specs.declared.Area.{Area}
use Rattle.fmap_area.specs.Area.{area_at, unused_area, same_name, cross, contains_map, area_tests}
use Rattle.fmap_signature.specs.Signatures.{signatures, first_or}
use Rattle.cbfs_types.specs.declared.FlashMap.{FlashMap}
use Rattle.cbfs_types.specs.declared.Refusal.{Refusal}

-- The header, 56 bytes: signature, major, minor, base, size, name, nareas. The header's own name is not read.

abbrev pub major : List ℕ → ℕ → ℕ
major s at = get_or s (at + 8) 0

abbrev pub minor : List ℕ → ℕ → ℕ
minor s at = get_or s (at + 9) 0

abbrev pub base : List ℕ → ℕ → ℕ
base s at = le 8 s (at + 10)

abbrev pub size : List ℕ → ℕ → ℕ
size s at = le 4 s (at + 18)

abbrev pub nareas : List ℕ → ℕ → ℕ
nareas s at = le 2 s (at + 54)

-- Where the map ends: after its last area.
abbrev pub map_end : List ℕ → ℕ → ℕ
map_end s at = at + 56 + 42 * nareas s at

-- k areas of 42 bytes, the first at p.
unfoldable pub areas_at : List ℕ → ℕ → ℕ → List Area
areas_at s zero p = []
areas_at s (suc k) p = area_at s p ∷ areas_at s k (p + 42)

-- The areas of the map at `at`, in map order.
abbrev pub areas_of : List ℕ → ℕ → List Area
areas_of s at = areas_at s (nareas s at) (at + 56)

-- How many areas a map may have.
abbrev pub area_limit : ℕ
area_limit = 256

-- 32: there are 1 to 256 areas.
unfoldable pub count_fits : ℕ → Bool
count_fits n = all_true (leb 1 n ∷ leb n area_limit ∷ [])

-- The tests in the order of their refusals: "1, 27 to 32, areas in turn by 33 then 35, then 34, 36, 37".

-- Of the signatures.
unfoldable pub signature_tests : List ℕ → List Test
signature_tests ps = test 27 (leb 1 (length ps)) ∷ test 28 (leb (length ps) 1) ∷ []

-- Of the header.
unfoldable pub map_header_tests : List ℕ → ℕ → ℕ → List Test
map_header_tests s at l =
    test 29 (leb (map_end s at) (length s))
    ∷ test 30 (eqb (major s at) 1)
    ∷ test 31 (eqb (size s at) l)
    ∷ test 32 (count_fits (nareas s at))
    ∷ []

-- Of each area in turn, by 33 then 35.
unfoldable pub each_area_tests : List ℕ → ℕ → List Area → List Test
each_area_tests s l [] = []
each_area_tests s l (a ∷ xs) = area_tests s l a ++ each_area_tests s l xs

-- Of all areas together.
unfoldable pub all_areas_tests : List ℕ → ℕ → List Area → List Test
all_areas_tests s at xs =
    test 34 (no_two (same_name s) xs)
    ∷ test 36 (no_two cross xs)
    ∷ test 37 (any (contains_map s at (map_end s at)) xs)
    ∷ []

-- Of the map at `at`.
unfoldable pub map_tests : List ℕ → ℕ → ℕ → List Test
map_tests s at l = map_header_tests s at l ++ (each_area_tests s l (areas_of s at) ++ all_areas_tests s at (areas_of s at))

-- Of an image i, whose signatures are ps.
unfoldable pub fmap_tests : List ℕ → List ℕ → List Test
fmap_tests i ps = test 1 (length_fits i) ∷ (signature_tests ps ++ map_tests i (first_or 0 ps) (length i))

-- What is answered: records of areas, 256 of them, unused ones zero.
unfoldable pub map_of : List ℕ → ℕ → FlashMap
map_of s at = record { minor = minor s at; base = base s at; count = nareas s at; areas = padded area_limit unused_area (areas_of s at) }

-- The map at a place, judged against the length l, or the refusal.
unfoldable pub map_at : List ℕ → ℕ → ℕ → Result FlashMap Refusal
map_at s at l = unless_refused (first_failed (map_tests s at l)) (map_of s at)

-- The flash map of an image, of which ps are the signatures, or the refusal.
unfoldable pub fmap_by : List ℕ → List ℕ → Result FlashMap Refusal
fmap_by i ps = unless_refused (first_failed (fmap_tests i ps)) (map_of i (first_or 0 ps))

-- The flash map of an image, or the refusal.
unfoldable pub fmap : List ℕ → Result FlashMap Refusal
fmap i = fmap_by i (signatures i)

-- For what is promised.

-- The place of the map: that of the first signature.
abbrev pub map_place : List ℕ → ℕ
map_place i = first_or 0 (signatures i)

-- The k-th area of a map, counted from 0.
abbrev pub area_of : FlashMap → ℕ → Area
area_of m k = get_or m.areas k unused_area

-- The number of the refusal, or 0 where a map is read.
abbrev pub refusal_number : Result FlashMap Refusal → ℕ
refusal_number (Ok m) = 0
refusal_number (Err r) = r.number

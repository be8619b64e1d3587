-- Worked values: small images, read by the definition (document 01, "Flash map"), and its bench case. FMAP and the signature are spelt as bytes.
use Prim.Native.Nat.{ℕ, ◌+◌, ◌*◌, ◌-◌}
use mathlib.Core.Path.{◌≡◌, refl}
use mathlib.Core.Bool.{Bool, true}
use mathlib.Core.List.{List, [], ◌∷◌, ◌++◌, map}
use lib.ListN.{length, take, replicate}
use lib.Dec.{eqb}
use Rattle.std.proofs.Common.{Ok, Err}
use Rattle.bytes_read.specs.Number.{le, le_bytes}
use Rattle.bytes_read.specs.Bytes.{eq_bytes}
use Rattle.bytes_read.specs.Tests.{all_true}
use Rattle.bytes_read.specs.Lists.{no_two, padded}
use Rattle.region.specs.Refusals.{length_fits}
use Rattle.bytes_read.specs.Printable.{printable_prefix}
use Rattle.fmap_area.specs.Names.{area_name_tests, area_name_fits, area_name_of}
use Rattle.fmap_area.specs.Area.{area_at, area_has_name, extent_fits, disjoint, contains, cross, fmap_name, fmap_area_tests, contains_map, area_tests}
use Rattle.fmap_signature.specs.Signatures.{signature, has_signature, signature_at, place_count_from, signatures_at, signatures_from}
use Rattle.fmap.specs.Fmap.{areas_at, count_fits, signature_tests, map_header_tests, each_area_tests, all_areas_tests, map_tests, fmap_tests, map_of}
use Rattle.fmap.specs.Fmap.{map_at, fmap_by, fmap, refusal_number}

-- Of 001's two numbers for the signature, this is the little-endian one.
signature_number_lem : le 8 signature 0 ≡ 0x5F5F50414D465F5F
unfolding le signature
signature_number_lem = refl

-- __FMAP__
abbrev sign : List ℕ
sign = 0x5F ∷ 0x5F ∷ 0x46 ∷ 0x4D ∷ 0x41 ∷ 0x50 ∷ 0x5F ∷ 0x5F ∷ []

-- FMAP
abbrev fmap_name_lem : List ℕ
fmap_name_lem = 0x46 ∷ 0x4D ∷ 0x41 ∷ 0x50 ∷ []

-- A name field, and the bytes of an area.

abbrev field : List ℕ → List ℕ
field n = n ++ replicate (32 - length n) 0

abbrev area : ℕ → ℕ → List ℕ → ℕ → List ℕ
area o z n f = le_bytes 4 o ++ le_bytes 4 z ++ field n ++ le_bytes 2 f

-- A header of the major version m, that states the size l and n areas.
abbrev versioned : ℕ → ℕ → ℕ → List ℕ
versioned m l n = sign ++ (m ∷ 7 ∷ []) ++ le_bytes 8 0x1122334455667788 ++ le_bytes 4 l ++ replicate 32 0x41 ++ le_bytes 2 n

abbrev header : ℕ → ℕ → List ℕ
header = versioned 1

-- The bytes s, in an image of l bytes.
abbrev image : ℕ → List ℕ → List ℕ
image l s = s ++ replicate (l - length s) 0xFF

-- The bytes after n others.
abbrev after : ℕ → List ℕ → List ℕ
after n s = replicate n 0xFF ++ s

-- An image of 192 bytes with a map of two areas at byte 0, which ends at byte 140; and one of three areas, which ends at byte 182.

abbrev two : List ℕ → List ℕ → List ℕ
two a b = image 192 (header 192 2 ++ a ++ b)

abbrev three : List ℕ → List ℕ → List ℕ → List ℕ
three a b c = image 192 (header 192 3 ++ a ++ b ++ c)

abbrev fmap-area : List ℕ
fmap-area = area 0 140 fmap_name_lem 0

-- The name A, n times.
abbrev a's : ℕ → List ℕ
a's n = replicate n 0x41

abbrev b : List ℕ
b = 0x42 ∷ []

-- Images, each with the number that it is refused by, or 0.
abbrev cases : List (ℕ × List ℕ)
cases =
    -- document 01's bench case: areas 0 to 0x1000 and 0x800 to 0x1800. No area is named FMAP: 36 before 37
    (36, image 0x1800 (header 0x1800 2 ++ area 0 0x1000 (a's 1) 0 ++ area 0x800 0x1000 b 0))
    -- the length: 63 bytes with a signature and without one (1 before 27); 64
    ∷ (1, image 63 sign)
    ∷ (1, image 63 [])
    ∷ (27, image 64 [])
    ∷ (32, image 64 (header 64 0))
    -- no signature: off the multiples of 64, cut by the image's end
    ∷ (27, image 128 (after 32 sign))
    ∷ (27, after 64 (take 7 sign))
    ∷ (29, after 64 sign)
    ∷ (0, image 162 (after 64 (header 162 1 ++ area 0 162 fmap_name_lem 0)))
    -- two signatures, of which the second has no header; neither header fits: 28 before 29
    ∷ (28, two fmap-area (area 140 8 (a's 1) 0) ++ sign)
    ∷ (28, sign ++ after 56 sign)
    -- the header does not fit by one byte, fits; the areas do not, do
    ∷ (29, after 64 (take 55 (header 119 0)))
    ∷ (32, after 64 (header 120 0))
    ∷ (29, take 97 (header 97 1 ++ area 0 97 fmap_name_lem 0))
    ∷ (0, header 98 1 ++ area 0 98 fmap_name_lem 0)
    -- the areas do not fit, though there are too many of them, and of another major: 29 before 30 and 32
    ∷ (29, image 256 (header 256 300 ++ fmap-area))
    ∷ (29, image 98 (versioned 2 98 2 ++ area 0 98 fmap_name_lem 0))
    -- major 0 and 2; and another size: 30 before 31
    ∷ (30, versioned 0 98 1 ++ area 0 98 fmap_name_lem 0)
    ∷ (30, versioned 2 98 1 ++ area 0 98 fmap_name_lem 0)
    ∷ (30, versioned 2 97 1 ++ area 0 98 fmap_name_lem 0)
    -- a size of L - 1 and L + 1; and no area: 31 before 32
    ∷ (31, header 97 1 ++ area 0 97 fmap_name_lem 0)
    ∷ (31, header 99 1 ++ area 0 98 fmap_name_lem 0)
    ∷ (31, image 98 (header 99 0))
    -- no area
    ∷ (32, image 98 (header 98 0))
    -- names of 31 and 32 bytes, an empty one; 0x21, 0x7E and their neighbours
    ∷ (0, two fmap-area (area 140 8 (a's 31) 0))
    ∷ (33, two fmap-area (area 140 8 (a's 32) 0))
    ∷ (33, two fmap-area (area 140 8 [] 0))
    ∷ (0, two fmap-area (area 140 8 (0x21 ∷ 0x7E ∷ []) 0))
    ∷ (33, two fmap-area (area 140 8 (0x20 ∷ []) 0))
    ∷ (33, two fmap-area (area 140 8 (0x41 ∷ 0x7F ∷ []) 0))
    -- an area with an unfit name that is empty: 33 before 35; an earlier area comes first, by either
    ∷ (33, two fmap-area (area 140 0 [] 0))
    ∷ (35, two (area 140 0 (a's 1) 0) (area 140 8 [] 0))
    ∷ (33, two (area 140 8 [] 0) (area 140 0 (a's 1) 0))
    -- up to the image's end, one byte past it, no byte; a sum that passes 2^32
    ∷ (0, two fmap-area (area 140 52 (a's 1) 0))
    ∷ (35, two fmap-area (area 140 53 (a's 1) 0))
    ∷ (35, two fmap-area (area 140 0 (a's 1) 0))
    ∷ (35, two fmap-area (area 0xFFFFFFF8 0x10 (a's 1) 0))
    -- a name used twice in an area past the end: 35 before 34
    ∷ (35, two fmap-area (area 140 53 fmap_name_lem 0))
    -- a name used twice, whatever follows its zero, by areas that cross (34 before 36), by the first and the last area; another name's beginning
    ∷ (34, two fmap-area (area 140 8 fmap_name_lem 0))
    ∷ (34, two fmap-area (area 140 8 (fmap_name_lem ++ (0 ∷ 0x41 ∷ [])) 0))
    ∷ (34, two fmap-area (area 139 2 fmap_name_lem 0))
    ∷ (34, three (area 0 182 (a's 1) 0) (area 182 4 b 0) (area 186 4 (a's 1) 0))
    ∷ (0, two fmap-area (area 140 8 (fmap_name_lem ++ a's 1) 0))
    -- equal areas; nested ones; one byte in common; the first and the last area
    ∷ (0, two fmap-area (area 0 140 (a's 1) 0))
    ∷ (0, two fmap-area (area 139 1 (a's 1) 0))
    ∷ (36, two fmap-area (area 139 2 (a's 1) 0))
    ∷ (36, two (area 40 140 (a's 1) 0) fmap-area)
    ∷ (36, three (area 0 182 fmap_name_lem 0) (area 182 4 (a's 1) 0) (area 181 2 b 0))
    -- areas that cross, and none named FMAP: 36 before 37
    ∷ (36, two (area 0 140 (a's 1) 0) (area 139 2 b 0))
    -- FMAP in the second place; ends one byte short of the map, begins one byte after it, is another name's beginning, is FMAQ
    ∷ (0, two (area 140 8 (a's 1) 0) fmap-area)
    ∷ (37, two (area 0 139 fmap_name_lem 0) (area 140 8 (a's 1) 0))
    ∷ (37, two (area 1 140 fmap_name_lem 0) (area 150 8 (a's 1) 0))
    ∷ (37, two (area 0 140 (fmap_name_lem ++ a's 1) 0) (area 150 8 (a's 1) 0))
    ∷ (37, two (area 0 140 (0x46 ∷ 0x4D ∷ 0x41 ∷ 0x51 ∷ []) 0) (area 150 8 (a's 1) 0))
    ∷ []

-- One name for all definitions that the values go through.
unfoldable opened : ℕ
unfolding le_bytes le eq_bytes no_two padded signature has_signature signature_at place_count_from signatures_at signatures_from printable_prefix
    area_name_tests
    area_name_fits area_name_of area_at areas_at length_fits count_fits area_has_name extent_fits disjoint contains cross fmap_name fmap_area_tests
    contains_map signature_tests
    map_header_tests area_tests each_area_tests all_areas_tests map_tests fmap_tests map_of map_at fmap_by fmap
opened = 0

abbrev agrees : ℕ × List ℕ → Bool
agrees (n, i) = eqb (refusal_number (fmap i)) n

worked : all_true (map agrees cases) ≡ true
unfolding opened
worked = refl

-- 257 areas, and 256 of them. Their names are unfit: 32 before 33. The map at byte 0 is judged by itself: the search for signatures would take long here.
many_areas : map (λ (n : ℕ). refusal_number (map_at (image (56 + 42 * n) (header (56 + 42 * n) n)) 0 (56 + 42 * n))) (257 ∷ 256 ∷ []) ≡ 32 ∷ 33 ∷ []
unfolding opened
many_areas = refl

-- What is read of a map at byte 64: minor, base, count and the areas in map order, with the places of their names.
read : fmap (image 256 (after 64 (header 256 2 ++ area 64 140 fmap_name_lem 0x0201 ++ area 0xCC 0x34 (a's 2) 0xFFFE))) ≡ Ok (record {
  minor = 7;
  base = 0x1122334455667788;
  count = 2;
  areas =
      record { offset = 64; size = 140; flags = 0x0201; name = 128 }
      ∷ record { offset = 0xCC; size = 0x34; flags = 0xFFFE; name = 170 }
      ∷ replicate 254 (record { offset = 0; size = 0; flags = 0; name = 0 });
})
unfolding opened
read = refl

-- A refusal has its number, and reports place 0.
refusal : fmap (image 98 (header 98 0)) ≡ Err (record { number = 32; place = 0 })
unfolding opened
refusal = refl

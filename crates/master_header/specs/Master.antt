-- The master header of an image i (document 01, "Master header", and refusals 1 to 8). L is the length of i.
use Rattle.std.specs.Prelude.{ℕ, ◌+◌, ◌-◌, ◌^◌, ◌%◌, List, [], ◌∷◌, Bool, Result, length, leb, eqb}
use Rattle.std.specs.Int.Count.{ones}
use Rattle.bytes_read.specs.Number.{be, le}
use Rattle.bytes_read.specs.Tests.{all_true}
use Rattle.region.specs.Refusals.{Test, test, first_failed, length_fits}
use Rattle.region.specs.Region.{unless_refused}
use Rattle.cbfs_types.specs.declared.Refusal.{Refusal}
use Rattle.cbfs_types.specs.declared.Region.{Region}
use Rattle.master_header.specs.declared.MasterHeader.{MasterHeader}

-- P, the address that the last four bytes hold.
abbrev pub address : List ℕ → ℕ
address i = le 4 i (length i - 4)

-- Byte L would lie at 2^32: so far before it the header stands.
abbrev pub header_distance : List ℕ → ℕ
header_distance i = 2 ^ 32 - address i

unfoldable pub header_at : List ℕ → ℕ
header_at i = length i - header_distance i

-- The header's eight numbers, big-endian; the two pads after them are not read.
abbrev pub field : List ℕ → ℕ → ℕ
field i k = be 4 i (header_at i + k)

abbrev pub header_magic : List ℕ → ℕ
header_magic i = field i 0

abbrev pub version : List ℕ → ℕ
version i = field i 4

abbrev pub romsize : List ℕ → ℕ
romsize i = field i 8

abbrev pub bootblocksize : List ℕ → ℕ
bootblocksize i = field i 12

abbrev pub align : List ℕ → ℕ
align i = field i 16

abbrev pub offset : List ℕ → ℕ
offset i = field i 20

-- The header's place and numbers, as they are read.
abbrev pub header_of : List ℕ → MasterHeader
header_of i = record {
  at = header_at i;
  magic = header_magic i;
  version = version i;
  romsize = romsize i;
  bootblocksize = bootblocksize i;
  align = align i;
  offset = offset i;
}

-- 2: P is 0xFFFF0000 to 0xFFFFFFDC, and the header stands at byte 0 or later.
unfoldable pub address_fits : List ℕ → Bool
address_fits i = all_true (leb 0xFFFF0000 (address i) ∷ leb (address i) 0xFFFFFFDC ∷ leb (header_distance i) (length i) ∷ [])

-- 6: bootblocksize is at most romsize, and the header stands in the last bootblocksize bytes. Its end cannot lie outside them.
unfoldable pub bootblock_fits : List ℕ → Bool
bootblock_fits i = all_true (leb (bootblocksize i) (romsize i) ∷ leb (length i - bootblocksize i) (header_at i) ∷ [])

-- 7: align has exactly one bit set and is 16 to 65,536.
unfoldable pub align_fits : ℕ → Bool
align_fits a = all_true (eqb (ones a) 1 ∷ leb 16 a ∷ leb a 65536 ∷ [])

-- 8: offset is a multiple of align, and not past the region's end.
unfoldable pub offset_fits : ℕ → ℕ → ℕ → Bool
offset_fits a o e = all_true (eqb (o % a) 0 ∷ leb o e ∷ [])

-- The region goes from offset up to romsize - bootblocksize.
abbrev pub region_of : List ℕ → Region
region_of i = record { start = offset i; end = romsize i - bootblocksize i; align = align i }

-- The tests in the order of their refusals.
unfoldable pub master_tests : List ℕ → List Test
master_tests i =
    test 1 (length_fits i)
    ∷ test 2 (address_fits i)
    ∷ test 3 (eqb (header_magic i) 0x4F524243)
    ∷ test 4 (eqb (version i) 0x31313131)
    ∷ test 5 (eqb (romsize i) (length i))
    ∷ test 6 (bootblock_fits i)
    ∷ test 7 (align_fits (align i))
    ∷ test 8 (offset_fits (align i) (offset i) (romsize i - bootblocksize i))
    ∷ []

unfoldable pub refusal_number : List ℕ → ℕ
refusal_number i = first_failed (master_tests i)

-- The region of an image, or the refusal.
unfoldable pub master : List ℕ → Result Region Refusal
master i = unless_refused (refusal_number i) (region_of i)

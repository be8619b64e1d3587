-- For what is promised: refusals 1 to 8 of document 01's table, in its words and numbers, for an image i.
use Rattle.std.specs.Prelude.{ℕ, ◌+◌, ◌-◌, ◌^◌, ◌%◌, ◌<◌, ◌≡◌, List, [], ◌∷◌, ◌⊎◌, length}
use Rattle.std.specs.Int.Count.{ones}
use Rattle.bytes_read.specs.Number.{be, le}
use Rattle.cbfs_types.specs.declared.Region.{Region}
use Rattle.region.specs.Table.{Row, row, length_row}

module _ (i : List ℕ) where
  -- "L is the image's length."
  abbrev pub L : ℕ
  L = length i

  -- "The last four bytes hold an address P, little-endian."
  abbrev pub P : ℕ
  P = le 4 i (L - 4)

  -- "Byte L of the image would lie at 2^32, so the header stands at L - (2^32 - P)."
  abbrev pub header_place : ℕ
  header_place = L - (2 ^ 32 - P)

  -- "Eight big-endian numbers: magic 0x4F524243, version 0x31313131, romsize, bootblocksize, align, offset, two pads": the one that begins k bytes after
  -- the header's start.
  abbrev pub header_number : ℕ → ℕ
  header_number k = be 4 i (header_place + k)

  abbrev pub romsize : ℕ
  romsize = header_number 8

  abbrev pub bootblocksize : ℕ
  bootblocksize = header_number 12

  abbrev pub align : ℕ
  align = header_number 16

  abbrev pub offset : ℕ
  offset = header_number 20

  -- "The region is the bytes from offset up to romsize - bootblocksize."
  abbrev pub region : Region
  region = record { start = offset; end = romsize - bootblocksize; align = align }

  -- The rows 1 to 8, in their order.
  abbrev pub master_rows : List Row
  master_rows =
      length_row i
      ∷ row 2 ((P < 0xFFFF0000) ⊎ ((0xFFFFFFDC < P) ⊎ (L < 2 ^ 32 - P)))
      ∷ row 3 (header_number 0 ≡ 0x4F524243 → ⊥)
      ∷ row 4 (header_number 4 ≡ 0x31313131 → ⊥)
      ∷ row 5 (romsize ≡ L → ⊥)
      ∷ row 6 ((romsize < bootblocksize) ⊎ (header_place < L - bootblocksize))
      ∷ row 7 ((ones align ≡ 1 → ⊥) ⊎ ((align < 16) ⊎ (65536 < align)))
      ∷ row 8 ((offset % align ≡ 0 → ⊥) ⊎ (romsize - bootblocksize < offset))
      ∷ []

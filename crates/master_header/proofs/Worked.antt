-- Worked values: master headers byte for byte as document 01 describes them, on both sides of each bound, and images that fail two tests at once.
use Prim.Native.Nat.{ℕ, ◌-◌, ◌^◌}
use mathlib.Core.Path.{◌≡◌, refl}
use mathlib.Core.Bool.{Bool, true}
use mathlib.Core.List.{List, [], ◌∷◌, ◌++◌, map}
use lib.ListN.{replicate}
use lib.Dec.{eqb}
use lib.Count.{ones, ones_in}
use Rattle.std.specs.Prelude.{Ok}
use Rattle.bytes_read.specs.Number.{be, le, be_bytes, le_bytes}
use Rattle.bytes_read.specs.Tests.{all_true}
use Rattle.region.specs.Refusals.{length_fits}
use Rattle.master_header.specs.Master.{header_at, address_fits, bootblock_fits, align_fits, offset_fits, master_tests, refusal_number, master}

-- What is computed below.
unfoldable opened : ℕ
unfolding ones ones_in be le be_bytes le_bytes length_fits header_at address_fits bootblock_fits align_fits offset_fits master_tests refusal_number master
opened = 0

-- A header of these numbers, with its pads.
abbrev header : ℕ → ℕ → ℕ → ℕ → ℕ → ℕ → List ℕ
header magic version romsize boot align offset =
    be_bytes 4 magic ++ (be_bytes 4 version ++ (be_bytes 4 romsize ++ (be_bytes 4 boot ++ (be_bytes 4 align ++ (be_bytes 4 offset
    ++ (1 ∷ 2 ∷ 3 ∷ 4 ∷ 5 ∷ 6 ∷ 7 ∷ 8 ∷ []))))))

-- An image of 80 bytes: 44 bytes of 0xFF, the header, and P.
abbrev image : ℕ → ℕ → ℕ → ℕ → ℕ → ℕ → ℕ → List ℕ
image magic version romsize boot align offset p = replicate 44 0xFF ++ (header magic version romsize boot align offset ++ le_bytes 4 p)

-- The same with magic, version, romsize and P as they should be.
abbrev sized : ℕ → ℕ → ℕ → List ℕ
sized boot align offset = image 0x4F524243 0x31313131 80 boot align offset 0xFFFFFFDC

-- An image with n bytes of 0xFF before the header, which stands right before P.
abbrev long : ℕ → ℕ → List ℕ
long n l = replicate n 0xFF ++ (header 0x4F524243 0x31313131 l 36 16 0 ++ le_bytes 4 0xFFFFFFDC)

-- What is read: offset, romsize - bootblocksize, align. The header's bytes are spelt out once.
read : master (
    replicate 44 0xFF
    ++ (0x4F ∷ 0x52 ∷ 0x42 ∷ 0x43 ∷ 0x31 ∷ 0x31 ∷ 0x31 ∷ 0x31 ∷ 0 ∷ 0 ∷ 0 ∷ 80 ∷ 0 ∷ 0 ∷ 0 ∷ 48 ∷ 0 ∷ 0 ∷ 0 ∷ 16 ∷ 0 ∷ 0 ∷ 0 ∷ 16
    ∷ 1 ∷ 2 ∷ 3 ∷ 4 ∷ 5 ∷ 6 ∷ 7 ∷ 8 ∷ 0xDC ∷ 0xFF ∷ 0xFF ∷ 0xFF ∷ [])
    ) ≡ Ok (record { start = 16; end = 32; align = 16 })
unfolding opened
read = refl

-- Images, each with the number that it is refused by, or 0.
abbrev cases : List (ℕ × List ℕ)
cases =
    -- 1: 63 bytes and 64
    (1, long 27 63)
    ∷ (0, long 28 64)
    -- 1 and 2: neither the length nor P
    ∷ (1, replicate 63 0)
    -- 2: P 0xFFFFFFDC and one more; a header at byte 0 and one byte before it; and 3, the magic, fails too
    ∷ (0, sized 48 16 16)
    ∷ (2, image 0x4F524243 0x31313131 80 48 16 16 0xFFFFFFDD)
    ∷ (0, header 0x4F524243 0x31313131 80 80 16 0 ++ (replicate 44 0xFF ++ le_bytes 4 (2 ^ 32 - 80)))
    ∷ (2, header 0x4F524243 0x31313131 80 80 16 0 ++ (replicate 44 0xFF ++ le_bytes 4 (2 ^ 32 - 81)))
    ∷ (2, replicate 80 0)
    -- 3, the magic; and 4, the version, fails too
    ∷ (3, image 0x4F524242 0x31313131 80 48 16 16 0xFFFFFFDC)
    ∷ (3, image 0x4F524242 0x31313132 80 48 16 16 0xFFFFFFDC)
    -- 4; and 5, romsize, fails too
    ∷ (4, image 0x4F524243 0x31313132 80 48 16 16 0xFFFFFFDC)
    ∷ (4, image 0x4F524243 0x31313130 80 48 16 16 0xFFFFFFDC)
    ∷ (4, image 0x4F524243 0x31313132 81 48 16 16 0xFFFFFFDC)
    -- 5: one less and one more than the length; and 6, bootblocksize, fails too
    ∷ (5, image 0x4F524243 0x31313131 79 48 16 16 0xFFFFFFDC)
    ∷ (5, image 0x4F524243 0x31313131 81 48 16 16 0xFFFFFFDC)
    ∷ (5, image 0x4F524243 0x31313131 81 35 16 16 0xFFFFFFDC)
    -- 6: 36 bytes hold the header and P, 35 do not; all bytes, and one more; and 7, align, fails too
    ∷ (0, sized 36 16 16)
    ∷ (6, sized 35 16 16)
    ∷ (0, sized 80 16 0)
    ∷ (6, sized 81 16 0)
    ∷ (6, sized 35 8 16)
    -- 7: one bit, 16 to 65,536; none, two; and 8, offset, fails too
    ∷ (0, sized 48 32 0)
    ∷ (0, sized 48 65536 0)
    ∷ (7, sized 48 8 0)
    ∷ (7, sized 48 131072 0)
    ∷ (7, sized 48 0 0)
    ∷ (7, sized 48 48 0)
    ∷ (7, sized 48 8 1)
    -- 8: no multiple of align; the region's end, and a multiple past it
    ∷ (8, sized 48 16 8)
    ∷ (0, sized 48 16 32)
    ∷ (8, sized 48 16 48)
    ∷ []

abbrev agrees : ℕ × List ℕ → Bool
agrees (n, i) = eqb (refusal_number i) n

worked : all_true (map agrees cases) ≡ true
unfolding opened
worked = refl

-- 2: P 0xFFFF0000, with the header at byte 0 of 65,536; and one less, with the header at byte 0 of 65,537.

abbrev far : ℕ → List ℕ
far l = header 0x4F524243 0x31313131 l l 16 0 ++ (replicate (l - 36) 0xFF ++ le_bytes 4 (2 ^ 32 - l))

lowest_address : refusal_number (far 65536) ≡ 0
unfolding opened
lowest_address = refl

below_lowest : refusal_number (far 65537) ≡ 2
unfolding opened
below_lowest = refl

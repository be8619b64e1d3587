-- Bench image A (document 01, "Bench image A"), byte for byte. What the paper's cases change in it is a parameter.
-- It is written from the paper alone, and not by the library's definitions of a component or a header: so it holds these to the paper.
use Rattle.std.specs.Prelude.{ℕ, ◌-◌, List, [], ◌∷◌, ◌++◌, length, replicate}
use Rattle.bytes_read.specs.Number.{be_bytes, le_bytes}

-- LARCHIVE, letter by letter.
unfoldable pub larchive : List ℕ
larchive = 0x4C ∷ 0x41 ∷ 0x52 ∷ 0x43 ∷ 0x48 ∷ 0x49 ∷ 0x56 ∷ 0x45 ∷ []

-- The names cal/12 (d is 0x32) and cal/13 (0x33), and log.

unfoldable pub cal : ℕ → List ℕ
cal d = 0x63 ∷ 0x61 ∷ 0x6C ∷ 0x2F ∷ 0x31 ∷ d ∷ []

unfoldable pub log : List ℕ
log = 0x6C ∷ 0x6F ∷ 0x67 ∷ []

-- The header and the name field of a component: type 0xFFFFFFFF, "component offsets 40, .. checksums and name padding zero". The checksum is given.
unfoldable pub head : ℕ → ℕ → List ℕ → List ℕ
head len sum name = larchive ++ (be_bytes 4 len ++ (be_bytes 4 0xFFFFFFFF ++ (be_bytes 4 sum ++ (be_bytes 4 40 ++ (name ++ replicate (16 - length name) 0)))))

-- The slot of the component at 0, its len, its checksum and its name given, 100 zeros of content; and the slot of cal/13, its checksum given, 24 zeros,
-- up to the region's end.

unfoldable pub slot0 : ℕ → ℕ → List ℕ → List ℕ
slot0 len sum name = head len sum name ++ (replicate 100 0 ++ replicate 52 0xFF)

unfoldable pub slot192 : ℕ → List ℕ
slot192 sum = head 24 sum (cal 0x33) ++ (replicate 24 0 ++ replicate 2816 0xFF)

-- The region, 3,072 bytes, with the len, the checksum and the name of the component at 0, and the checksum of the one at 192.
unfoldable pub region : ℕ → ℕ → List ℕ → ℕ → List ℕ
region len sum name sum192 = slot0 len sum name ++ slot192 sum192

-- An image of 4,096 bytes around the bytes r: 0xFF up to the master header, whose pads are not stated and so 0xFF, and P.
unfoldable pub image : List ℕ → ℕ → ℕ → ℕ → ℕ → List ℕ
image r bootblocksize align offset p =
    r ++ (replicate (4060 - length r) 0xFF
    ++ (be_bytes 4 0x4F524243 ++ (be_bytes 4 0x31313131 ++ (be_bytes 4 4096 ++ (be_bytes 4 bootblocksize ++ (be_bytes 4 align ++ (be_bytes 4 offset
    ++ (replicate 8 0xFF ++ le_bytes 4 p))))))))

-- The regions and the image of the paper: bench image A, A with cal/12's len made 500, A with cal/12's name made cal/13.

abbrev pub region_a : List ℕ
region_a = region 100 0 (cal 0x32) 0

abbrev pub region500 : List ℕ
region500 = region 500 0 (cal 0x32) 0

abbrev pub region_twice : List ℕ
region_twice = region 100 0 (cal 0x33) 0

-- Bench image A's region with its components' sums stated (document 02, request 5): 2200 for cal/12, 2125 for cal/13.
abbrev pub region_summed : List ℕ
region_summed = region 100 2200 (cal 0x32) 2125

abbrev pub image_a : List ℕ
image_a = image region_a 1024 64 0 0xFFFFFFDC

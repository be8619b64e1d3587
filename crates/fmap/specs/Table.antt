-- For what is promised: the flash map of an image i, in document 01's words and numbers ("Flash map", and refusals 1 and 27 to 37). No contract uses it.
use Rattle.std.specs.Prelude.{ℕ, zero, suc, ◌+◌, ◌*◌, ◌≤◌, ◌<◌, ◌≡◌, List, [], ◌∷◌, ◌++◌, ◌⊎◌, length, get_or}
use Rattle.bytes_read.specs.Number.{le}
use Rattle.region.specs.Table.{Row, row, length_row}
use Rattle.cbfs_types.specs.declared.Area.{Area}
use Rattle.fmap_area.specs.Table.{area_rows, SameName, Cross, FmapArea}
use Rattle.fmap_signature.specs.Table.{SignatureAt}
use Rattle.cbfs_types.specs.declared.FlashMap.{FlashMap}

-- The map's place is p: a signature stands there, or nowhere. Of several signatures it may be any.
abbrev pub MapPlace : List ℕ → ℕ → Type 0
MapPlace i p = SignatureAt i p ⊎ ((q : ℕ) → SignatureAt i q → ⊥)

module _ (i : List ℕ) where
  -- The image's length.
  abbrev pub L : ℕ
  L = length i

  -- "Header 56 bytes: signature, major, minor, base 64, size 32, name 32 bytes, nareas 16", "packed, little-endian", at the place p.
  module _ (p : ℕ) where
    abbrev pub major : ℕ
    major = get_or i (p + 8) 0

    abbrev pub minor : ℕ
    minor = get_or i (p + 9) 0

    abbrev pub base : ℕ
    base = le 8 i (p + 10)

    abbrev pub size : ℕ
    size = le 4 i (p + 18)

    abbrev pub nareas : ℕ
    nareas = le 2 i (p + 54)

    -- Where the k-th area stands, counted from 0; for k = nareas, where the map ends.
    abbrev pub area : ℕ → ℕ
    area k = p + 56 + 42 * k

    -- "Areas in turn by 33 then 35": n areas, from the k-th on.
    abbrev pub each_area_rows : ℕ → ℕ → List Row
    each_area_rows zero k = []
    each_area_rows (suc n) k = area_rows i size (area k) ++ each_area_rows n (suc k)

    -- Two different areas, in map order.
    abbrev pub TwoAreas : (ℕ → ℕ → Type 0) → Type 0
    TwoAreas R = (j : ℕ) × (k : ℕ) × (j < k) × (k < nareas) × R (area j) (area k)

    -- "An area named FMAP holds the whole map."
    abbrev pub MapContained : Type 0
    MapContained = (k : ℕ) × (k < nareas) × FmapArea i p (area nareas) (area k)

    -- "Then 34, 36, 37", of all areas.
    abbrev pub all_areas_rows : List Row
    all_areas_rows =
        row 34 (TwoAreas (SameName i))
        ∷ row 36 (TwoAreas (Cross i))
        ∷ row 37 (MapContained → ⊥)
        ∷ []

    -- "For FMAP: 1, 27 to 32, areas in turn by 33 then 35, then 34, 36, 37."
    abbrev pub map_rows : List Row
    map_rows =
        length_row i
        ∷ row 27 ((q : ℕ) → SignatureAt i q → ⊥)
        ∷ row 28 ((q : ℕ) × (r : ℕ) × (q < r) × SignatureAt i q × SignatureAt i r)
        ∷ row 29 ((L < p + 56) ⊎ (L < p + 56 + 42 * nareas))
        ∷ row 30 (major ≡ 1 → ⊥)
        ∷ row 31 (size ≡ L → ⊥)
        ∷ row 32 ((nareas ≡ 0) ⊎ (256 < nareas))
        ∷ (each_area_rows nareas 0 ++ all_areas_rows)

    -- "The reader gives minor, base, a count and 256 records (offset, size, flags, place of the name) in map order, unused ones zero."
    pub record ReadsMap (m : FlashMap) : Type 0 where
      pub minor_read : m.minor ≡ minor
      pub base_read : m.base ≡ base
      pub count_read : m.count ≡ nareas
      pub records : length m.areas ≡ 256
      pub record_read : (d : Area) (k : ℕ) → k < nareas
          → get_or m.areas k d ≡ record { offset = le 4 i (area k); size = le 4 i (area k + 4); flags = le 2 i (area k + 40); name = area k + 8 }
      pub record_zero : (d : Area) (k : ℕ) → nareas ≤ k → k < 256 → get_or m.areas k d ≡ record { offset = 0; size = 0; flags = 0; name = 0 }

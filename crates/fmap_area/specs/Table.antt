-- For what is promised: an area of a flash map, in document 01's words and numbers ("Flash map", and refusals 33 to 37). No contract uses it.
-- The area's 42 bytes stand at the place q of the image i.
use Rattle.std.specs.Prelude.{ℕ, ◌+◌, ◌≤◌, ◌<◌, ◌≡◌, List, [], ◌∷◌, ◌⊎◌, length, take, drop, get_or}
use Rattle.bytes_read.specs.Number.{le}
use Rattle.region.specs.Table.{Row, row}

-- "Area 42 bytes: offset 32, size 32, name 32 bytes, flags 16", "little-endian".

abbrev pub offset : List ℕ → ℕ → ℕ
offset i q = le 4 i q

abbrev pub size : List ℕ → ℕ → ℕ
size i q = le 4 i (q + 4)

-- Byte j of the name.
abbrev pub name_byte : List ℕ → ℕ → ℕ → ℕ
name_byte i q j = get_or i (q + 8 + j) 0

-- "An area name has 1 to 31 bytes of 0x21 to 0x7E, then a zero; what follows is not read": a fit name of n bytes.
pub record AreaNamed (i : List ℕ) (q n : ℕ) : Type 0 where
  pub some_byte : 1 ≤ n
  pub most : n ≤ 31
  pub letters : (j : ℕ) → j < n → (0x21 ≤ name_byte i q j) × (name_byte i q j ≤ 0x7E)
  pub then_zero : name_byte i q n ≡ 0
  pub inside : q + 8 + n < length i

-- Byte b of the image is one of the area.
abbrev pub AreaByte : List ℕ → ℕ → ℕ → Type 0
AreaByte i q b = (offset i q ≤ b) × (b < offset i q + size i q)

-- The area at q holds the one at r.
abbrev pub ContainsArea : List ℕ → ℕ → ℕ → Type 0
ContainsArea i q r = (b : ℕ) → AreaByte i r b → AreaByte i q b

-- An area by itself, "by 33 then 35": "area name unfit", "area empty or past size".
abbrev pub area_rows : List ℕ → ℕ → ℕ → List Row
area_rows i l q = row 33 (((n : ℕ) × AreaNamed i q n) → ⊥) ∷ row 35 ((size i q ≡ 0) ⊎ (l < offset i q + size i q)) ∷ []

-- 34: the areas at q and r have the same name.
abbrev pub SameName : List ℕ → ℕ → ℕ → Type 0
SameName i q r = (n : ℕ) × AreaNamed i q n × AreaNamed i r n × (take n (drop (q + 8) i) ≡ take n (drop (r + 8) i))

-- 36: they cross. They share a byte, and neither holds the other.
abbrev pub Cross : List ℕ → ℕ → ℕ → Type 0
Cross i q r = ((b : ℕ) × AreaByte i q b × AreaByte i r b) × (ContainsArea i q r → ⊥) × (ContainsArea i r q → ⊥)

-- 37: the area is named FMAP, and holds the bytes from p up to e.
abbrev pub FmapArea : List ℕ → ℕ → ℕ → ℕ → Type 0
FmapArea i p e q = (take 5 (drop (q + 8) i) ≡ 0x46 ∷ 0x4D ∷ 0x41 ∷ 0x50 ∷ 0 ∷ []) × ((b : ℕ) → p ≤ b → b < e → AreaByte i q b)

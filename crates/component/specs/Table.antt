-- For what is promised: a component, in document 01's words and numbers ("Components and the two walks"; document 02, request 5). No contract uses it.
-- The part s of the image begins at the component's place and goes up to the region's end.
use Rattle.std.specs.Prelude.{ℕ, zero, suc, ◌+◌, ◌*◌, ◌%◌, ◌≤◌, ◌<◌, ◌≡◌, cond, ◌⊎◌, List, [], ◌∷◌, length, take, drop, get_or, leb, ltb}
use Rattle.bytes_read.specs.Number.{be}
use Rattle.component.specs.Component.{Component}

-- "Component header, 24 bytes: the eight bytes LARCHIVE, .. then len, type, checksum, offset, big-endian."

abbrev pub len : List ℕ → ℕ
len s = be 4 s 8

abbrev pub type : List ℕ → ℕ
type s = be 4 s 12

abbrev pub checksum : List ℕ → ℕ
checksum s = be 4 s 16

abbrev pub offset : List ℕ → ℕ
offset s = be 4 s 20

-- Byte j of "the name field (offset - 24 bytes after the header)".
abbrev pub name_byte : List ℕ → ℕ → ℕ
name_byte s j = get_or s (24 + j) 0

-- Request 5: "the sum of all bytes of the span, the four checksum bytes counted as zero". Byte j as it counts, and the sum of the first n.

abbrev pub counted_byte : List ℕ → ℕ → ℕ
counted_byte s j = cond (leb 16 j) (cond (ltb j 20) 0 (get_or s j 0)) (get_or s j 0)

unfoldable pub sum_of : List ℕ → ℕ → ℕ
sum_of s zero = 0
sum_of s (suc n) = sum_of s n + counted_byte s n

-- A header stands at the start of s. "It is well formed when its 24 bytes fit the region; ..", and its name has n bytes.
pub record WellFormedHeader (s : List ℕ) (n : ℕ) : Type 0 where
  -- LARCHIVE
  pub magic : take 8 s ≡ 0x4C ∷ 0x41 ∷ 0x52 ∷ 0x43 ∷ 0x48 ∷ 0x49 ∷ 0x56 ∷ 0x45 ∷ []
  -- "its 24 bytes fit the region; offset is 40 to 280 and offset - 24 is a multiple of 16;"
  pub header_fits : 24 ≤ length s
  pub offset_min : 40 ≤ offset s
  pub offset_max : offset s ≤ 280
  pub multiple : (k : ℕ) × (offset s ≡ 24 + 16 * k)
  -- "place + offset + len does not pass the region's end;"
  pub span_fits : offset s + len s ≤ length s
  -- "the name field .. has a first zero byte, 1 to 255 bytes of 0x21 to 0x7E before it, and zeros after it": byte n is the zero.
  pub name_min : 1 ≤ n
  pub name_max : n ≤ 255
  pub in_field : 24 + n < offset s
  pub letters : (j : ℕ) → j < n → (0x21 ≤ name_byte s j) × (name_byte s j ≤ 0x7E)
  pub zeros : (j : ℕ) → n ≤ j → 24 + j < offset s → name_byte s j ≡ 0
  -- Request 5: "as a 32-bit number. A field of 0 means none is stated. A header with any other wrong sum is no longer well formed"
  pub sum : (checksum s ≡ 0) ⊎ (checksum s ≡ sum_of s (offset s + len s) % 4294967296)

-- The component with this header: "The span is the offset + len bytes from the place; the content is the last len of them, and the name is the
-- name field's bytes before its first zero."
abbrev pub component : List ℕ → ℕ → Component
component s n =
    record {
      offset = offset s;
      len = len s;
      kind = type s;
      checksum = checksum s;
      name = take n (drop 24 s);
      content = take (len s) (drop (offset s) s);
    }

-- A component, judged on the part of the image that begins at its place (document 01, "Components and the two walks").
use Rattle.std.specs.Prelude.{ℕ, ◌+◌, ◌-◌, ◌%◌, List, [], ◌∷◌, ◌++◌, Bool, false, cond, length, take, drop, leb, eqb, Option, Some, None, option_map}
use Rattle.bytes_read.specs.Number.{be}
use Rattle.bytes_read.specs.Bytes.{eq_bytes}
use Rattle.bytes_read.specs.Tests.{all_true}
use Rattle.component.specs.Names.{before_zero, field_fits}
use Rattle.component.specs.Sums.{checksum_of, checksum_matches}
use Rattle.cbfs_types.specs.declared.Header.{Header}

-- LARCHIVE
unfoldable pub magic : List ℕ
magic = 0x4C ∷ 0x41 ∷ 0x52 ∷ 0x43 ∷ 0x48 ∷ 0x49 ∷ 0x56 ∷ 0x45 ∷ []

-- The part begins with the magic.
unfoldable pub starts_with_magic : List ℕ → Bool
starts_with_magic s = eq_bytes (take 8 s) magic

-- The header's fields, big-endian: len, type, checksum (see Sums) and offset after the eight bytes of the magic.

abbrev pub len_of : List ℕ → ℕ
len_of s = be 4 s 8

abbrev pub kind_of : List ℕ → ℕ
kind_of s = be 4 s 12

abbrev pub offset_of : List ℕ → ℕ
offset_of s = be 4 s 20

-- The name field: the offset - 24 bytes after the header.
abbrev pub name_field : List ℕ → List ℕ
name_field s = take (offset_of s - 24) (drop 24 s)

-- A component: its header's numbers, its name and its content.
pub record Component : Type 0 where
  pub offset : ℕ
  pub len : ℕ
  pub kind : ℕ
  -- as it stands in the header
  pub checksum : ℕ
  pub name : List ℕ
  pub content : List ℕ

-- How many bytes the span has. "Span" is document 01's term: the offset + len bytes from a component's place.
abbrev pub span_length : Component → ℕ
span_length c = c.offset + c.len

-- What stands at the start of the part, where it is well formed.
unfoldable pub component_of : List ℕ → Component
component_of s = record {
  offset = offset_of s;
  len = len_of s;
  kind = kind_of s;
  checksum = checksum_of s;
  name = before_zero (name_field s);
  content = take (len_of s) (drop (offset_of s) s);
}

-- What the numbers and the name field of a well-formed header with the offset o and the length l meet: document 01's tests.
unfoldable pub number_tests : List ℕ → ℕ → ℕ → List Bool
number_tests s o l =
    leb 24 (length s)
    ∷ leb 40 o
    ∷ leb o 280
    ∷ eqb ((o - 24) % 16) 0
    ∷ leb (o + l) (length s)
    ∷ field_fits (take (o - 24) (drop 24 s))
    ∷ []

-- What a well-formed header meets: these, and no wrong sum of its span is stated (request 5).
unfoldable pub header_tests : List ℕ → ℕ → ℕ → List Bool
header_tests s o l = number_tests s o l ++ (checksum_matches (take (o + l) s) ∷ [])

unfoldable pub well_formed : List ℕ → Bool
well_formed s = all_true (header_tests s (offset_of s) (len_of s))

-- The component by its fields alone, for a part that is known to begin with the magic.
unfoldable pub judge_after_magic : List ℕ → Option Component
judge_after_magic s = cond (well_formed s) (Some (component_of s)) None

-- The component that stands at the start of the part, if one does.
unfoldable pub judge : List ℕ → Option Component
judge s = cond (starts_with_magic s) (judge_after_magic s) None

-- The same by document 01's tests alone, the sum not looked at: for a walk, which takes the sum last, and for a place whose sum was taken already.

unfoldable pub judge_numbers : List ℕ → Option Component
judge_numbers s = cond (all_true (number_tests s (offset_of s) (len_of s))) (Some (component_of s)) None

unfoldable pub judge_skipping_sum : List ℕ → Option Component
judge_skipping_sum s = cond (starts_with_magic s) (judge_numbers s) None

-- What the judge answers.

abbrev pub header_of : Component → Header
header_of c = record { offset = c.offset; len = c.len; kind = c.kind; checksum = c.checksum; namelen = length c.name }

abbrev pub judged : Option Component → Option Header
judged j = option_map header_of j

-- The name and the content of a component; empty where there is none.

abbrev pub name_of : Option Component → List ℕ
name_of None = []
name_of (Some c) = c.name

abbrev pub content_of : Option Component → List ℕ
content_of None = []
content_of (Some c) = c.content

-- The component bears the name. Where there is none, it bears no name, not even the empty one.
abbrev pub bears_name : List ℕ → Option Component → Bool
bears_name name None = false
bears_name name (Some c) = eq_bytes c.name name

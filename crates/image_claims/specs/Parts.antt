-- "The content comes back as a part of the lent image, never a copy; a refusal gives an empty part" (document 01): which part that is.
use Rattle.std.specs.Prelude.{ℕ, ◌+◌, ◌-◌, ◌≤◌, ◌≡◌, List, [], Bool, length, take, drop}
use Rattle.bytes_read.specs.Number.{be}
use Rattle.component.specs.Table.{WellFormedHeader}
use Rattle.region.specs.Table.{FirstRowMet}
use Rattle.master_header.specs.Table.{region, master_rows}
use Rattle.cbfs_types.specs.declared.Taken.{Taken}
use Rattle.image_find.specs.ImageFind.{image_content, name_at, content_at}
use Rattle.image_claims.specs.Table.{NotStepStart}

-- s is the n bytes of the image from p on.
abbrev pub Part : List ℕ → List ℕ → ℕ → ℕ → Type 0
Part i s p n = (p + n ≤ length i) × (s ≡ take n (drop p i))

-- A lookup found t: its content is the part that the numbers of t give, and the calls at its place give that part too, and the name.
pub record FoundParts (w : Bool) (i name : List ℕ) (t : Taken) : Type 0 where
  pub content : Part i (image_content w i name) (t.place + t.header.offset) t.header.len
  pub content_there : content_at i t.place ≡ image_content w i name
  pub name_part : Part i name (t.place + 24) t.header.namelen
  pub name_there : name_at i t.place ≡ name

-- "A header is judged on the part of the image that begins at its place", up to the region's end: a component stands at p, a place of the
-- image's region, and its name has n bytes.
pub record StandsAt (i : List ℕ) (p n : ℕ) : Type 0 where
  pub not_refused : FirstRowMet (master_rows i) 0
  pub at_place : NotStepStart i p → ⊥
  pub header : WellFormedHeader (take ((region i).end - p) (drop p i)) n

-- Its name begins 24 bytes after p; its content is the len bytes that begin offset bytes after p, by the header's own numbers.
pub record PartsGiven (i : List ℕ) (p n : ℕ) : Type 0 where
  pub name : Part i (name_at i p) (p + 24) n
  pub content : Part i (content_at i p) (p + be 4 i (p + 20)) (be 4 i (p + 8))

-- Empty parts.
abbrev pub NoParts : List ℕ → ℕ → Type 0
NoParts i p = (name_at i p ≡ []) × (content_at i p ≡ [])

-- Demand 3 of the order, for a whole image i whose region is g: what its sentences say, over the definitions that the public calls' contracts cite.
use Rattle.std.specs.Prelude.{Ok, Err, ℕ, ◌+◌, ◌-◌, ◌≤◌, ◌<◌, ◌≡◌, Bool, true, false, not, ◌&&◌, length, get_or, leb, ltb}
use mathlib.Core.List.{List, [], map, Memᴰ}
use Rattle.bytes_read.specs.Lists.{any, filter}
use Rattle.component.specs.Component.{header_of}
use Rattle.walk.specs.Walk.{Entry, entry_end, pick_of, listing, guarded_listing}
use Rattle.cbfs_types.specs.declared.Taken.{Taken}
use Rattle.walk_lookup.specs.Lookup.{bears}
use Rattle.master_header.specs.Master.{master}
use Rattle.strict_rules.specs.Strict.{component_limit, AcceptedUpTo}
use Rattle.strict_rules.specs.Slots.{in_slots}
use Rattle.region.specs.Region.{region_bytes, refusal_by}
use Rattle.cbfs_types.specs.declared.Region.{Region}
use Rattle.region_read.specs.RegionRead.{taken_in, Walked}
use Rattle.image_walk.specs.ImageWalk.{guarded_step}
use Rattle.image_find.specs.ImageFind.{image_find, guarded_find, image_content, name_at, content_at}

-- "Take any image that the strict check accepts": its region, and that the check accepts it, where at most that many components are allowed.
pub record AcceptedImageUpTo (most : ℕ) (i : List ℕ) (g : Region) : Type 0 where
  pub read : master i ≡ Ok g
  pub acc : AcceptedUpTo most (region_bytes i g) g.align

abbrev pub AcceptedImage : List ℕ → Region → Type 0
AcceptedImage i g = AcceptedImageUpTo component_limit i g

-- A component with its place counted from the image's start.
abbrev pub placed : Region → Entry → Entry
placed g t = record { place = g.start + t.place; component = t.component }

-- The listing of the region's bytes by a walk, the guarded one where w is true.
abbrev pub region_listing : Bool → List ℕ → Region → List Entry
region_listing w i g = listing (pick_of w (region_bytes i g) g.align) (region_bytes i g) g.align

-- The listing of the image: each entry holds place, from the image's start, type, name and content.
abbrev pub entries : Bool → List ℕ → Region → List Entry
entries w i g = map (placed g) (region_listing w i g)

abbrev pub guarded_entries : List ℕ → Region → List Entry
guarded_entries i g = entries true i g

-- The lookup of a component's name gives that component: its place, its type and lengths, and its content.
pub record LookupGives (w : Bool) (i : List ℕ) (t : Entry) : Type 0 where
  pub taken : Taken
  pub found : image_find w i t.component.name ≡ Ok taken
  pub place : taken.place ≡ t.place
  pub header : taken.header ≡ header_of t.component
  pub content : image_content w i t.component.name ≡ t.component.content

-- The lookup refuses: no component, and an empty part.
abbrev pub LookupRefuses : Bool → List ℕ → List ℕ → ℕ → Type 0
LookupRefuses w i name n = (image_find w i name ≡ Err (refusal_by n)) × (image_content w i name ≡ [])

-- A step reports numbers alone: name_at and content_at give the name and the content of the component at its place.
abbrev pub PartsAt : List ℕ → Entry → Type 0
PartsAt i t = (name_at i t.place ≡ t.component.name) × (content_at i t.place ≡ t.component.content)

-- The byte j of the image lies in a slot of the set. A slot is identified by its component's place.
abbrev pub in_image_slots : (ℕ → Bool) → List ℕ → Region → ℕ → Bool
in_image_slots set i g j = leb g.start j && ltb j g.end && in_slots (λ p. set (g.start + p)) (region_bytes i g) g.align (j - g.start)

-- "A component is listed from the slot that its place lies in" (document 01): it stands in a slot of the set.
abbrev pub listed_from_image_slots : (ℕ → Bool) → List ℕ → Region → Entry → Bool
listed_from_image_slots set i g t = in_image_slots set i g t.place

-- "Spoil any set of its slots, whatever bytes are put in them; every other byte stays, and the other slots are untouched."
pub record CorruptedImage (set : ℕ → Bool) (i : List ℕ) (g : Region) (i' : List ℕ) : Type 0 where
  pub same_length : length i' ≡ length i
  pub other_bytes : (j : ℕ) → in_image_slots set i g j ≡ false → get_or i' j 0 ≡ get_or i j 0

-- Something that is listed from a corrupted slot bears the name.
abbrev pub named_from_slots : (ℕ → Bool) → List ℕ → Region → List ℕ → List ℕ → Bool
named_from_slots set i g i' name = any (bears name) (filter (listed_from_image_slots set i g) (guarded_entries i' g))

pub record CorruptionContainedInImage (set : ℕ → Bool) (i : List ℕ) (g : Region) (i' : List ℕ) : Type 0 where
  -- The region of the corrupted image is that of the accepted one: "no slot holds a byte of the master header or of P" (document 01).
  pub read : master i' ≡ Ok g
  -- All guarded steps on the corrupted image count, from offset to none left; "none of them is refused" (document 01).
  pub steps : Walked (guarded_step i') g.start (map (taken_in i' g) (guarded_listing (region_bytes i' g) g.align))
  pub parts : (t : Entry) → Memᴰ t (guarded_entries i' g) → PartsAt i' t
  -- "The guarded listing of the spoiled image still gives the component of every untouched slot."
  pub listed : (t : Entry) → Memᴰ t (guarded_entries i g) → listed_from_image_slots set i g t ≡ false → Memᴰ t (guarded_entries i' g)
  -- "Leave out what it lists from spoiled slots: the rest equals the accepted image's guarded listing with the spoiled slots' components
  -- left out, in the same order and alike in place, type, name and content."
  pub other_components : filter (λ t. not (listed_from_image_slots set i g t)) (guarded_entries i' g) ≡ filter (λ t. not (listed_from_image_slots set i g t))
      (guarded_entries i g)
  -- "Whatever else the spoiled image lists has its whole span in spoiled slots."
  pub inside : (t : Entry) → Memᴰ t (guarded_entries i' g) → listed_from_image_slots set i g t ≡ true → (j : ℕ) → t.place ≤ j → j < entry_end t
      → in_image_slots set i g j ≡ true
  -- "The guarded lookup of an untouched component's name gives that component, place and content as before, exactly when nothing listed
  -- from a spoiled slot bears the name too. Otherwise it refuses with 11. It never gives another."
  pub before : (t : Entry) → Memᴰ t (guarded_entries i g) → LookupGives true i t
  pub lookup : (t : Entry) → Memᴰ t (guarded_entries i g) → listed_from_image_slots set i g t ≡ false → named_from_slots set i g i' t.component.name ≡ false
      → LookupGives true i' t × (guarded_find i' t.component.name ≡ guarded_find i t.component.name)
  pub refused : (t : Entry) → Memᴰ t (guarded_entries i g) → listed_from_image_slots set i g t ≡ false → named_from_slots set i g i' t.component.name ≡ true
      → LookupRefuses true i' t.component.name 11

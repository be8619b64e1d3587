-- Slots, and what is kept where some are corrupted (the order, demand 3), over a region's bytes r at the alignment a.
use Rattle.std.specs.Prelude.{ℕ, ◌≤◌, ◌<◌, ◌≡◌, Bool, true, false, cond, not, ◌&&◌, ◌||◌, length, get_or, ltb, leb}
use mathlib.Core.List.{List, [], ◌∷◌, Memᴰ}
use Rattle.bytes_read.specs.Lists.{any, filter}
use Rattle.walk.specs.Walk.{Entry, entry_end, guarded_listing}
use Rattle.walk_lookup.specs.Lookup.{lookup_refused, lookup_gives, bears, guarded_lookup}

-- The first component's start, or else the region's end e.
unfoldable pub first_start : ℕ → List Entry → ℕ
first_start e [] = e
first_start e (t ∷ ts) = t.place

-- "A slot runs from one component's start to the next one's start or the region's end." The term is document 01's.
-- The byte i lies in a slot of the set; a slot is identified by its component's place. What lies before the first component is no slot.
unfoldable pub in_slots_of : (ℕ → Bool) → ℕ → List Entry → ℕ → Bool
in_slots_of set e [] i = false
in_slots_of set e (t ∷ ts) i = let rest = in_slots_of set e ts i in (set t.place && leb t.place i && ltb i (first_start e ts)) || rest

-- The byte i of the region r lies in a slot of the set.
abbrev pub in_slots : (ℕ → Bool) → List ℕ → ℕ → ℕ → Bool
in_slots set r a i = in_slots_of set (length r) (guarded_listing r a) i

-- The component stands in a slot of the set: "a component is listed from the slot that its place lies in" (document 01).
abbrev pub listed_from_slots : (ℕ → Bool) → List ℕ → ℕ → Entry → Bool
listed_from_slots set r a t = in_slots set r a t.place

-- "Spoil any set of its slots, whatever bytes are put in them; every other byte stays, and the other slots are untouched."
pub record CorruptedRegion (set : ℕ → Bool) (r : List ℕ) (a : ℕ) (r' : List ℕ) : Type 0 where
  pub same_length : length r' ≡ length r
  pub other_bytes : (i : ℕ) → in_slots set r a i ≡ false → get_or r' i 0 ≡ get_or r i 0

-- What the guarded listing and lookup of the corrupted region r' keep of the accepted one r. An entry holds place, type, name and content.
pub record CorruptionContainedInRegion (set : ℕ → Bool) (r : List ℕ) (a : ℕ) (r' : List ℕ) : Type 0 where
  -- "The guarded listing of the spoiled image still gives the component of every untouched slot."
  pub listed : (t : Entry) → Memᴰ t (guarded_listing r a) → listed_from_slots set r a t ≡ false → Memᴰ t (guarded_listing r' a)
  -- "Leave out what it lists from spoiled slots: the rest equals the accepted image's guarded listing with the spoiled slots' components
  -- left out, in the same order and alike in place, type, name and content."
  pub other_components : filter (λ t. not (listed_from_slots set r a t)) (guarded_listing r' a) ≡ filter (λ t. not (listed_from_slots set r a t))
      (guarded_listing r a)
  -- "Whatever else the spoiled image lists has its whole span in spoiled slots."
  pub inside : (t : Entry) → Memᴰ t (guarded_listing r' a) → listed_from_slots set r a t ≡ true → (i : ℕ) → t.place ≤ i → i < entry_end t
      → in_slots set r a i ≡ true
  -- "The guarded lookup of an untouched component's name gives that component, place and content as before, exactly when nothing listed
  -- from a spoiled slot bears the name too. Otherwise it refuses with 11. It never gives another."
  pub lookup : (t : Entry) → Memᴰ t (guarded_listing r a) → listed_from_slots set r a t ≡ false
      → guarded_lookup r' a t.component.name ≡ cond (any (bears t.component.name) (filter (listed_from_slots set r a) (guarded_listing r' a)))
      (lookup_refused 11) (lookup_gives t)

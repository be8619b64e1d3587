-- Lookups by name (document 01, "Components and the two walks"). Any bytes may be asked for; no component has an unfit name.
use Rattle.std.specs.Prelude.{ℕ, ◌+◌, ◌≡◌, Bool, true, false, cond, not, map, take, drop, Option, Some, None, Result, Ok, Err}
use mathlib.Core.List.{List, [], ◌∷◌, ◌++◌, Memᴰ}
use Rattle.bytes_read.specs.Bytes.{part_of, eq_bytes}
use Rattle.bytes_read.specs.Lists.{filter}
use Rattle.component.specs.Sums.{checksum_matches}
use Rattle.walk.specs.Walk.{Entry, Pick, pick_with_sum_if, listing_from, plain_listing, guarded_listing, taken_of}
use Rattle.cbfs_types.specs.declared.Taken.{Taken}
use Rattle.cbfs_types.specs.declared.Refusal.{Refusal}
use Rattle.region.specs.Region.{refusal_by}

-- The component has the name, byte for byte: it is a bearer of the name, which is document 01's term.
unfoldable pub bears : List ℕ → Entry → Bool
bears name t = eq_bytes t.component.name name

-- A component, or the number of a refusal.
pub data LookupResult : Type 0 where
  lookup_refused : ℕ → LookupResult
  lookup_gives : Entry → LookupResult

-- The first bearer; 10 where no component has the name.
unfoldable pub first_or_refused : List Entry → LookupResult
first_or_refused [] = lookup_refused 10
first_or_refused (t ∷ ts) = lookup_gives t

-- The only bearer; 10 where no component has the name, 11 where more than one does.
unfoldable pub only_or_refused : List Entry → LookupResult
only_or_refused [] = lookup_refused 10
only_or_refused (t ∷ []) = lookup_gives t
only_or_refused (t ∷ u ∷ us) = lookup_refused 11

-- The bearers in a walk's listing from n on.
unfoldable pub bearers_from : Pick → List ℕ → ℕ → List ℕ → ℕ → List Entry
bearers_from pick r a name n = filter (bears name) (listing_from pick r a n)

-- What was found at t bears the name, by its header's numbers; and it states no sum, or the right one.

abbrev pub bears_at : List ℕ → List ℕ → Taken → Bool
bears_at r name t = eq_bytes (part_of (drop t.place r) 24 t.header.namelen) name

abbrev pub bears_with_sum_at : List ℕ → List ℕ → Taken → Bool
bears_with_sum_at r name t = cond (bears_at r name t) (checksum_matches (take (t.header.offset + t.header.len) (drop t.place r))) false

-- What a lookup goes by: of the guarded walk, what was found before the sum is taken, which is then asked only of what bears the name.

unfoldable pub taken_from : Bool → List ℕ → ℕ → ℕ → List Taken
taken_from g r a n = map (taken_of r a) (listing_from (pick_with_sum_if (not g) g r a) r a n)

abbrev pub bears_by : Bool → List ℕ → List ℕ → Taken → Bool
bears_by true r name t = bears_with_sum_at r name t
bears_by false r name t = bears_at r name t

-- Plain lookup gives the first bearer in the plain listing.
abbrev pub plain_lookup : List ℕ → ℕ → List ℕ → LookupResult
plain_lookup r a name = first_or_refused (filter (bears name) (plain_listing r a))

-- Guarded lookup gives the only bearer in the guarded listing.
abbrev pub guarded_lookup : List ℕ → ℕ → List ℕ → LookupResult
guarded_lookup r a name = only_or_refused (filter (bears name) (guarded_listing r a))

-- The lookup of the walk that the guard chooses.
abbrev pub lookup_of : Bool → List ℕ → ℕ → List ℕ → LookupResult
lookup_of true r a name = guarded_lookup r a name
lookup_of false r a name = plain_lookup r a name

-- The first of a list.
abbrev pub first_of : List Entry → Option Entry
first_of [] = None
first_of (t ∷ ts) = Some t

-- What a lookup answers.
abbrev pub bearer_answer : List ℕ → ℕ → LookupResult → Result Taken Refusal
bearer_answer r a (lookup_refused n) = Err (refusal_by n)
bearer_answer r a (lookup_gives t) = Ok (taken_of r a t)

-- For what is promised, of a list l of components.

-- "The bearers are the components in the listing of that walk whose name is this one, byte for byte": t is one; there is none.

abbrev pub Bearer : List Entry → List ℕ → Entry → Type 0
Bearer l name t = Memᴰ t l × (t.component.name ≡ name)

abbrev pub NoBearer : List Entry → List ℕ → Type 0
NoBearer l name = (t : Entry) → Bearer l name t → ⊥

-- e has the name, and no component before it has.
pub record FirstBearer (name : List ℕ) (l : List Entry) (e : Entry) : Type 0 where
  pub before : List Entry
  pub after : List Entry
  pub split : l ≡ before ++ (e ∷ after)
  pub named : e.component.name ≡ name
  pub none_before : NoBearer before name

-- e has the name, and no other component has.
pub record OnlyBearer (name : List ℕ) (l : List Entry) (e : Entry) : Type 0 where
  pub first : FirstBearer name l e
  pub none_after : NoBearer first.after name

-- Two components have the same name.
pub record TwoSameName (l : List Entry) : Type 0 where
  pub before : List Entry
  pub one : Entry
  pub between : List Entry
  pub other : Entry
  pub after : List Entry
  pub split : l ≡ before ++ (one ∷ (between ++ (other ∷ after)))
  pub same : one.component.name ≡ other.component.name

-- Two components bear this name.
abbrev pub TwoBearers : List ℕ → List Entry → Type 0
TwoBearers name l = (w : TwoSameName l) × (w.one.component.name ≡ name)

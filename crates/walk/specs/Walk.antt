-- The two walks over a region's bytes r at the alignment a (document 01, "Components and the two walks").
-- Places are counted from the region's start. An alignment of 0 has no places.
use Rattle.std.specs.Prelude.{ℕ, zero, suc, ◌+◌, ◌*◌, ◌-◌, ◌/◌, ◌%◌, ◌≤◌, min, ◌≡◌, List, [], ◌∷◌, Bool, true, false, cond, ◌⊎◌, length, drop, Option, Some}
use Rattle.std.specs.Prelude.{None, option_map}
use Rattle.component.specs.Component.{Component, span_length, judge, judge_skipping_sum, starts_with_magic, header_of}
use Rattle.bytes_read.specs.Lists.{any}
use Rattle.cbfs_types.specs.declared.Taken.{Taken}

-- How many places lie below n.
unfoldable pub place_count_below : ℕ → ℕ → ℕ
place_count_below a n = (n + (a - 1)) / a

-- k places from p on. "Place" is document 01's term: a multiple of align in the region.
unfoldable pub places : ℕ → ℕ → ℕ → List ℕ
places a zero p = []
places a (suc k) p = p ∷ places a k (p + a)

-- All places of the region.
abbrev pub all_places : List ℕ → ℕ → List ℕ
all_places r a = places a (place_count_below a (length r)) 0

-- The place p carries the magic: its eight bytes are LARCHIVE and lie wholly in the region.
unfoldable pub magic_at : List ℕ → ℕ → Bool
magic_at r p = starts_with_magic (drop p r)

-- The first of the k places from p on that passes the test, or else e.
unfoldable pub seek : (ℕ → Bool) → ℕ → ℕ → ℕ → ℕ → ℕ
seek t a e zero p = e
seek t a e (suc k) p = let rest = seek t a e k (p + a) in cond (t p) p rest

-- The search: the first place at or after n and below b that carries the magic, or else b.
unfoldable pub next_magic : List ℕ → ℕ → ℕ → ℕ → ℕ
next_magic r a n b = seek (magic_at r) a b (place_count_below a (b - n)) n

-- A later place inside the n bytes from p carries the magic.
unfoldable pub magic_inside : List ℕ → ℕ → ℕ → ℕ → Bool
magic_inside r a p n = any (magic_at r) (places a (place_count_below a n - 1) (p + a))

-- What a walk takes at a place.
abbrev pub Pick : Type 0
Pick = ℕ → Option Component

-- The plain walk takes what is well formed.
unfoldable pub plain_pick : List ℕ → Pick
plain_pick r p = judge (drop p r)

-- What was judged, unless it is bad.
unfoldable pub unless : (Component → Bool) → Option Component → Option Component
unless bad None = None
unless bad (Some c) = cond (bad c) None (Some c)

-- The guarded walk takes it only if no later place inside its span carries the magic. "Guarded" is document 01's term, and so is "plain".
unfoldable pub guarded_pick : List ℕ → ℕ → Pick
guarded_pick r a p = unless (λ c. magic_inside r a p (span_length c)) (judge (drop p r))

-- A listed component: its place, and what stands there.
pub record Entry : Type 0 where
  pub place : ℕ
  pub component : Component

-- The end of its span.
abbrev pub entry_end : Entry → ℕ
entry_end t = t.place + span_length t.component

-- What is picked at p, or else what comes later.
unfoldable pub or_else : ℕ → Option Component → Option Entry → Option Entry
or_else p None rest = rest
or_else p (Some c) rest = Some (record { place = p; component = c })

-- The first component taken at the k places from p on.
unfoldable pub first : Pick → ℕ → ℕ → ℕ → Option Entry
first pick a zero p = None
first pick a (suc k) p = let rest = first pick a k (p + a) in or_else p (pick p) rest

-- A step from n: the first component that a walk begun there takes.
unfoldable pub step : Pick → List ℕ → ℕ → ℕ → Option Entry
step pick r a n = first pick a (place_count_below a (length r - n)) n

-- The first place at or after n, or else the region's end.
unfoldable pub next_place : List ℕ → ℕ → ℕ → ℕ
next_place r a n = min (place_count_below a n * a) (length r)

-- The number to go on from after a component.
abbrev pub next : List ℕ → ℕ → Entry → ℕ
next r a t = next_place r a (entry_end t)

-- What a step took, and what the steps after it take.
unfoldable pub follow : (ℕ → List Entry) → (Entry → ℕ) → Option Entry → List Entry
follow go after None = []
follow go after (Some t) = t ∷ go (after t)

-- The steps from n on, each from the number that the last one gave, k of them at most.
unfoldable pub steps : Pick → List ℕ → ℕ → ℕ → ℕ → List Entry
steps pick r a zero n = []
steps pick r a (suc k) n = follow (λ m. steps pick r a k m) (next r a) (step pick r a n)

-- The steps from n on, up to none left: there are no more of them than bytes.
unfoldable pub listing_from : Pick → List ℕ → ℕ → ℕ → List Entry
listing_from pick r a n = steps pick r a (length r) n

-- A listing is the steps from the region's start on.
abbrev pub listing : Pick → List ℕ → ℕ → List Entry
listing pick r a = listing_from pick r a 0

abbrev pub plain_listing : List ℕ → ℕ → List Entry
plain_listing r a = listing (plain_pick r) r a

abbrev pub guarded_listing : List ℕ → ℕ → List Entry
guarded_listing r a = listing (guarded_pick r a) r a

-- What is picked at p, before the rest.
unfoldable pub prepend : ℕ → Option Component → List Entry → List Entry
prepend p None rest = rest
prepend p (Some c) rest = record { place = p; component = c } ∷ rest

-- All that may be taken at some places, whatever was taken before.
unfoldable pub picked : Pick → List ℕ → List Entry
picked pick [] = []
picked pick (p ∷ ps) = let rest = picked pick ps in prepend p (pick p) rest

-- What a step answers.

abbrev pub taken_of : List ℕ → ℕ → Entry → Taken
taken_of r a t = record { place = t.place; header = header_of t.component; next = next r a t }

abbrev pub step_answer : List ℕ → ℕ → Option Entry → Option Taken
step_answer r a t = option_map (taken_of r a) t

-- The walk that the guard chooses.
abbrev pub pick_of : Bool → List ℕ → ℕ → Pick
pick_of true r a = guarded_pick r a
pick_of false r a = plain_pick r

-- The same by document 01's tests alone, the sum not looked at: what a walk finds at a place before it takes the sum.
abbrev pub pick_skipping_sum : Bool → List ℕ → ℕ → Pick
pick_skipping_sum true r a p = unless (λ c. magic_inside r a p (span_length c)) (judge_skipping_sum (drop p r))
pick_skipping_sum false r a p = judge_skipping_sum (drop p r)

-- What the code goes by: a walk, or what it finds before the sum is taken.
abbrev pub pick_with_sum_if : Bool → Bool → List ℕ → ℕ → Pick
pick_with_sum_if true g r a = pick_of g r a
pick_with_sum_if false g r a = pick_skipping_sum g r a

-- A number to step from: a place, or the region's end or past it.
abbrev pub PlaceOrPastEnd : List ℕ → ℕ → ℕ → Type 0
PlaceOrPastEnd r a n = ((i : ℕ) × (n ≡ i * a)) ⊎ (length r ≤ n)

-- For what is promised: p is a multiple of a.
abbrev pub Place : ℕ → ℕ → Type 0
Place a p = (i : ℕ) × (p ≡ i * a)

-- q is the first multiple of a at or after n.
pub record Rounded (a n q : ℕ) : Type 0 where
  pub multiple : q % a ≡ 0
  pub after : n ≤ q
  pub first : (m : ℕ) → m % a ≡ 0 → n ≤ m → q ≤ m

-- The calls over an image i and a region g of it (document 01, "Components and the two walks", and refusals 9, 10 and 11).
-- Places are counted from the image's start. The numbers of a region may be any: one that does not fit the image is empty.
use Rattle.std.specs.Prelude.{ℕ, ◌+◌, ◌-◌, ◌%◌, ◌≡◌, List, [], ◌∷◌, Bool, cond, ◌||◌, drop, leb, eqb, Option, Some, None, option_map, Result, Ok, Err}
use Rattle.bytes_read.specs.Tests.{all_true}
use Rattle.component.specs.Component.{Component, judge, name_of, content_of, header_of}
use Rattle.walk.specs.Walk.{Entry, Pick, pick_of, step, next}
use Rattle.walk_lookup.specs.Lookup.{LookupResult, lookup_refused, lookup_gives, lookup_of}
use Rattle.cbfs_types.specs.declared.Taken.{Taken}
use Rattle.region.specs.Region.{region_bytes, refusal_by}
use Rattle.cbfs_types.specs.declared.Region.{Region}
use Rattle.cbfs_types.specs.declared.Refusal.{Refusal}

-- A number to step from: not below the region's start nor past its end, and at that end or a place.
-- Places are multiples of align counted from the start.
unfoldable pub is_step_start : Region → ℕ → Bool
is_step_start g n = all_true (leb g.start n ∷ leb n g.end ∷ (eqb n g.end || eqb ((n - g.start) % g.align) 0) ∷ [])

-- What is reported of a component of the region: its place, its header's numbers, and the number to go on from, all from the image's start.
abbrev pub taken_in : List ℕ → Region → Entry → Taken
taken_in i g t = record { place = g.start + t.place; header = header_of t.component; next = g.start + next (region_bytes i g) g.align t }

abbrev pub step_answer_in : List ℕ → Region → Option Entry → Option Taken
step_answer_in i g t = option_map (taken_in i g) t

-- A step of a walk from n; 9 where n is no number to step from.
unfoldable pub step_by : Pick → List ℕ → Region → ℕ → Result (Option Taken) Refusal
step_by pick i g n = cond (is_step_start g n) (Ok (step_answer_in i g (step pick (region_bytes i g) g.align (n - g.start)))) (Err (refusal_by 9))

-- The step of the walk that w chooses: the guarded one where it is true.
abbrev pub step_in : Bool → List ℕ → Region → ℕ → Result (Option Taken) Refusal
step_in w i g n = step_by (pick_of w (region_bytes i g) g.align) i g n

-- What a lookup answers, and the content that it gives: empty on a refusal.

abbrev pub find_answer_in : List ℕ → Region → LookupResult → Result Taken Refusal
find_answer_in i g (lookup_refused n) = Err (refusal_by n)
find_answer_in i g (lookup_gives t) = Ok (taken_in i g t)

abbrev pub content_found : LookupResult → List ℕ
content_found (lookup_refused n) = []
content_found (lookup_gives t) = t.component.content

-- The lookup of the walk that w chooses.

abbrev pub find_in : Bool → List ℕ → Region → List ℕ → Result Taken Refusal
find_in w i g name = find_answer_in i g (lookup_of w (region_bytes i g) g.align name)

abbrev pub content_found_in : Bool → List ℕ → Region → List ℕ → List ℕ
content_found_in w i g name = content_found (lookup_of w (region_bytes i g) g.align name)

-- The part of the image from a place up to the region's end; none where the number is no place of the region.
unfoldable pub from_place : List ℕ → Region → ℕ → List ℕ
from_place i g p = cond (is_step_start g p) (drop (p - g.start) (region_bytes i g)) []

-- The component at a place, judged again there.
abbrev pub component_at : List ℕ → Region → ℕ → Option Component
component_at i g p = judge (from_place i g p)

abbrev pub name_at_in : List ℕ → Region → ℕ → List ℕ
name_at_in i g p = name_of (component_at i g p)

abbrev pub content_at_in : List ℕ → Region → ℕ → List ℕ
content_at_in i g p = content_of (component_at i g p)

-- The steps from a number on, each from the number that the last one gave, up to none left; none of them is refused.
pub data Walked (call : ℕ → Result (Option Taken) Refusal) : ℕ → List Taken → Type 0 where
  walk_ended : {n : ℕ} → call n ≡ Ok None → Walked call n []
  walk_stepped : {n : ℕ} {t : Taken} {ts : List Taken} → call n ≡ Ok (Some t) → Walked call t.next ts → Walked call n (t ∷ ts)

-- Worked values: steps in a region that begins at byte 32 and ends at 104, with align 16; numbers on both sides of each bound of refusal 9.
use Prim.Native.Nat.{ℕ}
use mathlib.Core.Path.{◌≡◌, refl}
use mathlib.Core.Bool.{Bool, true, false}
use mathlib.Core.List.{List, [], ◌∷◌, ◌++◌, map}
use lib.ListN.{replicate}
use Rattle.bytes_read.specs.Bytes.{part_of}
use Rattle.walk.specs.Walk.{place_count_below, places, magic_at, magic_inside, plain_pick, unless, guarded_pick, or_else, first, step, next_place}
use Rattle.region.specs.Region.{region_bytes, refusal_by}
use Rattle.cbfs_types.specs.declared.Region.{Region}
use Rattle.region_read.specs.RegionRead.{is_step_start, step_by, step_in, from_place, name_at_in, content_at_in}
use Rattle.std.specs.Prelude.{Option, Some, None, Result, Ok, Err}
use Rattle.cbfs_types.specs.declared.Taken.{Taken}
use Rattle.cbfs_types.specs.declared.Refusal.{Refusal}
use Rattle.component.proofs.Opened.{judge_definitions}

-- What is computed below.
unfoldable opened : ℕ
unfolding judge_definitions part_of place_count_below places magic_at magic_inside plain_pick unless guarded_pick or_else first step next_place region_bytes
    is_step_start step_by from_place
opened = 0

-- A component at byte 48, named a, with a content of two bytes and its sum, 825; it ends at byte 90.
abbrev image : List ℕ
image =
    replicate 48 0xFF
    ++ (0x4C ∷ 0x41 ∷ 0x52 ∷ 0x43 ∷ 0x48 ∷ 0x49 ∷ 0x56 ∷ 0x45 ∷ 0 ∷ 0 ∷ 0 ∷ 2 ∷ 0 ∷ 0 ∷ 0 ∷ 0x50 ∷ 0 ∷ 0 ∷ 0x03 ∷ 0x39 ∷ 0 ∷ 0 ∷ 0 ∷ 40
    ∷ 0x61 ∷ (replicate 15 0 ++ (7 ∷ 9 ∷ replicate 30 0xFF)))

abbrev region : Region
region = record { start = 32; end = 104; align = 16 }

abbrev Step : Type 0
Step = Result (Option Taken) Refusal

abbrev taken : Step
taken = Ok (Some (record { place = 48; header = record { offset = 40; len = 2; kind = 0x50; checksum = 825; namelen = 1 }; next = 96 }))

abbrev nine : Step
nine = Err (refusal_by 9)

abbrev none_left : Step
none_left = Ok None

-- From the start and from the component's place it is taken; from the next place on, and from the end, none is left.
-- Below the start, past the end, and between two places: 9, multiples of 16 too.
steps : (w : Bool) → map (step_in w image region) (16 ∷ 31 ∷ 32 ∷ 33 ∷ 40 ∷ 48 ∷ 64 ∷ 96 ∷ 103 ∷ 104 ∷ 105 ∷ 112 ∷ [])
    ≡ nine ∷ nine ∷ taken ∷ nine ∷ nine ∷ taken ∷ none_left ∷ none_left ∷ nine ∷ none_left ∷ nine ∷ nine ∷ []
unfolding opened
steps true = refl
steps false = refl

-- The component at its place, at a place where none stands, between two places, and past the end.
names : map (name_at_in image region) (48 ∷ 64 ∷ 49 ∷ 112 ∷ []) ≡ (0x61 ∷ []) ∷ [] ∷ [] ∷ [] ∷ []
unfolding opened
names = refl

contents : map (content_at_in image region) (48 ∷ 64 ∷ 49 ∷ 112 ∷ []) ≡ (7 ∷ 9 ∷ []) ∷ [] ∷ [] ∷ [] ∷ []
unfolding opened
contents = refl

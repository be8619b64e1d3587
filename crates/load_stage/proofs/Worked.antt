-- Worked values: plans of small stages, read by the definitions (document 01, "Load plans"), and its bench cases.
use Prim.Native.Nat.{ℕ, ◌-◌, ◌^◌}
use mathlib.Core.Path.{◌≡◌, refl}
use mathlib.Core.Bool.{Bool, true}
use mathlib.Core.List.{List, [], ◌∷◌, ◌++◌, map}
use lib.ListN.{replicate}
use lib.Dec.{eqb}
use Rattle.bytes_read.specs.Number.{le, le_bytes}
use Rattle.bytes_read.specs.Bytes.{part_of}
use Rattle.bytes_read.specs.Tests.{all_true}
use Rattle.bytes_read.specs.Lists.{filter}
use Rattle.walk.specs.Walk.{place_count_below, places, magic_at, magic_inside, unless, guarded_pick, or_else, first}
use Rattle.walk.specs.Walk.{step, next_place, follow, steps, listing_from}
use Rattle.walk_lookup.specs.Lookup.{bears, only_or_refused}
use Rattle.std.specs.Prelude.{Ok, Err}
use Rattle.region.specs.Region.{region_bytes, refusal_by}
use Rattle.load_segment.specs.LoadSegment.{source_fits, len_fits, target_fits, load_tests}
use Rattle.load_segment.proofs.Bench.{component, image, twice, region, number}
use Rattle.load_stage.specs.Stage.{stage_tests, stage_answer, stage_of, stage_in}
use Rattle.component.proofs.Opened.{judge_definitions}

-- The bytes that a stage begins with: compression, entry, load, len, memlen.
abbrev pub header : ℕ → ℕ → ℕ → ℕ → ℕ → List ℕ
header c e a n m = le_bytes 4 c ++ (le_bytes 8 e ++ (le_bytes 8 a ++ (le_bytes 4 n ++ le_bytes 4 m)))

-- Stages, each with the number that it is refused by, or 0. The binary has 8 bytes.
abbrev stages : List (ℕ × List ℕ)
stages =
    -- document 01's bench cases
    (0, header 0 (2 ^ 64 - 16) (2 ^ 64 - 16) 8 16 ++ replicate 8 0)
    ∷ (25, header 0 (2 ^ 64 - 16) (2 ^ 64 - 16) 8 17 ++ replicate 8 0)
    -- no whole header; compression; the binary's end; its memory
    ∷ (19, replicate 27 0)
    ∷ (19, le_bytes 4 3 ++ replicate 23 0)
    ∷ (0, header 2 0x1000 0x1000 0 0)
    ∷ (22, header 3 0x1000 0x1000 9 0 ++ replicate 8 0)
    ∷ (23, header 0 0x1000 0x1000 9 0 ++ replicate 8 0)
    ∷ (24, header 0 0x1000 0x1000 8 7 ++ replicate 8 0)
    ∷ (0, header 1 0x1000 0x1000 8 7 ++ replicate 8 0)
    -- the order: 24 before 25
    ∷ (24, header 0 (2 ^ 64 - 2) (2 ^ 64 - 2) 8 3 ++ replicate 8 0)
    ∷ (25, header 1 (2 ^ 64 - 2) (2 ^ 64 - 2) 8 3 ++ replicate 8 0)
    ∷ []

abbrev agrees : ℕ × List ℕ → Bool
agrees (n, s) = eqb (number (stage_of (component 0x10) s)) n

worked_stages : all_true (map agrees stages) ≡ true
unfolding le le_bytes source_fits len_fits target_fits load_tests stage_tests stage_answer stage_of
worked_stages = refl

-- The type comes first.
other_stage : stage_of (component 0x20) [] ≡ Err (refusal_by 18)
unfolding stage_tests stage_answer stage_of
other_stage = refl

read_stage : stage_in (image 0x10 (header 1 0x77 0x1000 4 0x100 ++ replicate 4 0)) (region 200) (0x70 ∷ [])
    ≡ Ok (record { compression = 1; entry = 0x77; load = 0x1000; source = 132; len = 4; memlen = 0x100 })
unfolding judge_definitions le le_bytes part_of filter place_count_below places magic_at magic_inside unless guarded_pick or_else first
    step next_place follow steps listing_from bears only_or_refused region_bytes
    source_fits len_fits target_fits load_tests stage_tests stage_answer stage_of stage_in
read_stage = refl

-- A name that no component has, and one that two components have: the lookup's refusal is the plan's, before the type is looked at.
refused_lookups :
    (stage_in (twice 0x20) (region 168) (0x71 ∷ []) ≡ Err (refusal_by 10))
    × (stage_in (twice 0x20) (region 168) (0x70 ∷ []) ≡ Err (refusal_by 11))
unfolding judge_definitions le le_bytes part_of filter place_count_below places magic_at magic_inside unless guarded_pick or_else first
    step next_place follow steps listing_from bears only_or_refused region_bytes stage_in
refused_lookups = (refl, refl)

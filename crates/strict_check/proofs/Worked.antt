-- Worked values: what the strict check answers for a region that begins at byte 64. Only 12 reports a place, from the image's start.
use mathlib.Core.Path.{◌≡◌, refl}
use mathlib.Core.List.{[], ◌∷◌, ◌++◌}
use mathlib.Core.Bool.{true, false}
use lib.ListN.{replicate}
use Rattle.std.specs.Prelude.{Ok, Err}
use Rattle.bytes_read.specs.Bytes.{part_of}
use Rattle.bytes_read.specs.Lists.{filter, no_two, padded}
use Rattle.bench_image.specs.BenchImage.{larchive, cal, head, slot0, slot192, region, region_a}
use Rattle.walk.specs.Walk.{place_count_below, places, magic_at, plain_pick, or_else, first, step, next_place, follow, steps, listing_from}
use Rattle.walk_lookup.specs.Lookup.{bears}
use Rattle.region.specs.Region.{region_bytes}
use Rattle.cbfs_types.specs.declared.Region.{Region}
use Rattle.strict_rules.specs.Strict.{component_limit, lists_place, is_untaken, untaken_places, check_refused, check_accepted, verdict_on, verdict}
use Rattle.strict_check.specs.StrictCheck.{directory_answer, verdict_in, stored_places, has_name}
use Rattle.component.proofs.Opened.{judge_definitions}

twelve : directory_answer component_limit 64 (check_refused 12 192) ≡ Err (record { number = 12; place = 256 })
twelve = refl

thirteen : directory_answer component_limit 64 (check_refused 13 192) ≡ Err (record { number = 13; place = 0 })
thirteen = refl

two : directory_answer component_limit 64 (check_accepted (0 ∷ 192 ∷ [])) ≡ Ok (record { count = 2; places = 64 ∷ 256 ∷ replicate 1022 0 })
unfolding padded
two = refl

-- What a lent array holds afterwards: the places first, over what it held; zeros on a refusal.
lent : stored_places (7 ∷ 8 ∷ 9 ∷ []) (check_accepted (0 ∷ 192 ∷ [])) ∷ stored_places (7 ∷ 8 ∷ 9 ∷ []) (check_refused 11 0) ∷ [] ≡ (0 ∷ 192 ∷ 9 ∷ []) ∷
    (0 ∷ 0 ∷ 0 ∷ [])
    ∷ []
lent = refl

-- Bench image A's two components, in the first 256 bytes of its region, with arrays of one, two and three places lent: as many are allowed.
abbrev spans : Region
spans = record { start = 0; end = 256; align = 64 }

as_lent : verdict_in (9 ∷ []) region_a spans ∷ verdict_in (9 ∷ 9 ∷ []) region_a spans ∷ verdict_in (9 ∷ 9 ∷ 9 ∷ []) region_a spans ∷ []
    ≡ check_refused 13 0 ∷ check_accepted (0 ∷ 192 ∷ []) ∷ check_accepted (0 ∷ 192 ∷ []) ∷ []
unfolding judge_definitions part_of region_bytes larchive cal head slot0 slot192 region filter place_count_below places magic_at plain_pick or_else first step
    next_place follow
    steps listing_from bears lists_place is_untaken untaken_places no_two verdict_on verdict
as_lent = refl

-- The component at a place bears its name, no beginning of it, and none that goes on behind it; where none stands, not even the empty one.
whose : has_name region_a (cal 0x33) 192 ∷ has_name region_a (cal 0x32) 192 ∷ has_name region_a (0x63 ∷ []) 192 ∷ []
    ≡ true ∷ false ∷ false ∷ []
unfolding judge_definitions larchive cal head slot0 slot192 region has_name
whose = refl

whose_not : has_name region_a (cal 0x33 ++ (0 ∷ [])) 192 ∷ has_name region_a [] 192 ∷ has_name region_a [] 64 ∷ [] ≡ false ∷ false ∷ false ∷ []
unfolding judge_definitions larchive cal head slot0 slot192 region has_name
whose_not = refl

-- The starred cases hold, by computation.
use Prim.Native.Nat.{ℕ}
use mathlib.Core.Path.{◌≡◌, refl}
use mathlib.Core.List.{List, [], ◌∷◌, ◌++◌}
use lib.Count.{ones, ones_in}
use Rattle.bytes_read.specs.Number.{be, le, be_bytes, le_bytes}
use Rattle.bytes_read.specs.Bytes.{part_of, splice}
use Rattle.bench_image.specs.BenchImage.{larchive, cal, log, head, slot0, slot192, region, image}
use Rattle.component.specs.Component.{magic}
use Rattle.bytes_read.specs.Lists.{filter, padded, no_two}
use Rattle.walk.specs.Walk.{place_count_below, places, magic_at, magic_inside, plain_pick, unless, guarded_pick, or_else, first, step, next_place, follow, steps}
use Rattle.walk.specs.Walk.{listing_from}
use Rattle.region.specs.Refusals.{length_fits}
use Rattle.region.specs.Region.{region_bytes}
use Rattle.master_header.specs.Master.{header_at, address_fits, bootblock_fits, align_fits, offset_fits, master_tests, refusal_number, master}
use Rattle.walk_lookup.specs.Lookup.{bears, first_or_refused, only_or_refused}
use Rattle.region_read.specs.RegionRead.{Walked, walk_ended, walk_stepped, is_step_start, step_by, from_place}
use Rattle.image_walk.specs.ImageWalk.{plain_step, guarded_step}
use Rattle.image_find.specs.ImageFind.{name_at}
use Rattle.strict_rules.specs.Strict.{lists_place, is_untaken, untaken_places, verdict_on, verdict}
use Rattle.strict_rules.specs.Slots.{first_start}
use Rattle.edit_rules.specs.Edit.{field_length, header_bytes, field_bytes, span_stating, sum_for, span_bytes, contains_magic, runs, lowest_fitting, slot_of, slot_filled}
use Rattle.edit_rules.specs.Edit.{add_after_check, replace_after_check, carried_out, add, replace}
use Rattle.load_segment.specs.LoadSegment.{source_fits, len_fits, target_fits, load_tests, ends_before, disjoint_targets}
use Rattle.load_stage.specs.Stage.{stage_tests, stage_answer, stage_of, stage_in}
use Rattle.load_payload.specs.Payload.{segment_at, bss_tests, params_tests, type_tests, record_tests, disjoint_from_all, record_list_tests, segments_from, payload_tests}
use Rattle.load_payload.specs.Payload.{payload_plan, payload_answer, payload_of, payload_in}
use Rattle.image_starred.specs.Starred.{All, nothing_more, ◌and◌, a_500, taken, table_type, magic_from, addresses, aligns, spans, offsets, overrun, twice}
use Rattle.image_starred.specs.Starred.{replacing, growing, magic_in, boot, plans, starred}
use Rattle.component.proofs.Opened.{judge_definitions}

-- What is computed below: of the calls that read, of edits, and of plans.

unfoldable reading : ℕ
unfolding judge_definitions larchive cal head slot0 slot192 region image le_bytes ones ones_in le length_fits header_at address_fits bootblock_fits align_fits
    offset_fits master_tests refusal_number master region_bytes part_of is_step_start step_by filter place_count_below places magic_at magic_inside plain_pick
    guarded_pick unless or_else first step
    next_place follow steps listing_from bears first_or_refused only_or_refused from_place
reading = 0

unfoldable editing : ℕ
unfolding log magic_from splice lists_place is_untaken untaken_places no_two verdict_on verdict first_start field_length header_bytes field_bytes span_stating sum_for
    span_bytes contains_magic runs lowest_fitting slot_of slot_filled add_after_check replace_after_check carried_out add replace
editing = 0

unfoldable planning : ℕ
unfolding boot source_fits len_fits target_fits load_tests stage_tests stage_answer stage_of stage_in segment_at bss_tests params_tests type_tests record_tests ends_before
    disjoint_targets disjoint_from_all record_list_tests segments_from payload_tests padded payload_plan payload_answer payload_of payload_in
planning = 0

addresses_hold : All addresses
unfolding larchive cal head slot0 slot192 region image magic be_bytes le_bytes ones ones_in be le length_fits header_at address_fits bootblock_fits align_fits
    offset_fits master_tests refusal_number master
addresses_hold = refl and refl and refl and refl and nothing_more

aligns_hold : All aligns
unfolding reading
aligns_hold = refl and refl and refl and refl and walk_ended refl and walk_ended refl and nothing_more

spans_hold : All spans
unfolding reading
spans_hold = refl and refl and nothing_more

offsets_hold : All offsets
unfolding reading editing
offsets_hold = refl and refl and refl and nothing_more

lost : Walked (plain_step a_500) 0 (taken 0 40 500 table_type 0 6 576 ∷ [])
unfolding reading
lost = walk_stepped refl (walk_ended refl)

kept : Walked (guarded_step a_500) 0 (taken 192 40 24 table_type 0 6 256 ∷ [])
unfolding reading
kept = walk_stepped refl (walk_ended refl)

kept_name : name_at a_500 192 ≡ cal 0x33
unfolding reading
kept_name = refl

overrun_hold : All overrun
overrun_hold = lost and kept and kept_name and nothing_more

twice_hold : All twice
unfolding reading
twice_hold = refl and refl and nothing_more

replacing_hold : All replacing
unfolding reading editing
replacing_hold = refl and refl and nothing_more

growing_hold : All growing
unfolding reading editing
growing_hold = refl and refl and nothing_more

magic_in_hold : All magic_in
unfolding reading editing
magic_in_hold = refl and refl and nothing_more

plans_hold : All plans
unfolding reading editing planning
plans_hold = refl and refl and refl and refl and nothing_more

infixr 4 ◌then◌
-- Two lists of statements.
◌then◌ : {xs ys : List (Type 0)} → All xs → All ys → All (xs ++ ys)
nothing_more then q = q
(p and ps) then q = p and (ps then q)

-- Document 01's starred cases hold.
pub starred_cases : All starred
starred_cases =
    addresses_hold then aligns_hold then spans_hold then offsets_hold then overrun_hold then twice_hold
    then replacing_hold then growing_hold then magic_in_hold then plans_hold

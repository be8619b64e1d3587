-- Worked values: a small whole image whose region does not begin at byte 0, and what its calls answer. Places are counted from the image's start.
use Rattle.std.specs.Prelude.{None, Result, Ok, Err}
use Rattle.cbfs_types.specs.declared.Refusal.{Refusal}
use Prim.Native.Nat.{ℕ}
use mathlib.Core.Path.{◌≡◌, refl}
use mathlib.Core.Bool.{Bool, true, false}
use mathlib.Core.List.{List, [], ◌∷◌, ◌++◌}
use lib.ListN.{replicate}
use lib.Count.{ones, ones_in}
use Rattle.bytes_read.specs.Number.{le, be_bytes, le_bytes}
use Rattle.bytes_read.specs.Bytes.{part_of, splice}
use Rattle.bytes_read.specs.Lists.{filter, padded, no_two}
use Rattle.walk.specs.Walk.{place_count_below, places, magic_at, magic_inside, plain_pick, unless, guarded_pick, or_else, first, step, next_place, follow, steps}
use Rattle.walk.specs.Walk.{listing_from}
use Rattle.walk_lookup.specs.Lookup.{bears, first_or_refused, only_or_refused}
use Rattle.region.specs.Refusals.{length_fits}
use Rattle.region.specs.Region.{region_bytes, refusal_by}
use Rattle.master_header.specs.Master.{header_at, address_fits, bootblock_fits, align_fits, offset_fits, master_tests, refusal_number, master}
use Rattle.strict_rules.specs.Strict.{lists_place, is_untaken, untaken_places, verdict_on, verdict}
use Rattle.strict_rules.specs.Slots.{first_start}
use Rattle.strict_check.specs.StrictCheck.{zero_places}
use Rattle.edit_rules.specs.Edit.{field_length, header_bytes, field_bytes, span_stating, sum_for, span_bytes, contains_magic, runs, lowest_fitting, slot_of, slot_filled}
use Rattle.edit_rules.specs.Edit.{add_after_check, replace_after_check, remove_after_check, carried_out, add, replace, remove}
use Rattle.region_read.specs.RegionRead.{is_step_start, step_by, from_place}
use Rattle.image_walk.specs.ImageWalk.{image_step, strict_check, strict_check_up_to}
use Rattle.image_find.specs.ImageFind.{image_find, image_content, name_at, content_at}
use Rattle.image_edit.specs.ImageEdit.{image_add, image_replace, image_remove, image_add_up_to, image_replace_up_to, image_remove_up_to}
use Rattle.load_segment.specs.LoadSegment.{load_tests}
use Rattle.load_stage.specs.Stage.{stage_tests, stage_answer, stage_of, stage_in}
use Rattle.load_payload.specs.Payload.{payload_tests, payload_plan, payload_answer, payload_of, payload_in}
use Rattle.image_load.specs.ImageLoad.{image_stage, image_payload}
use Rattle.component.proofs.Opened.{judge_definitions}

-- What is computed below.
unfoldable opened : ℕ
unfolding judge_definitions ones ones_in le le_bytes part_of splice filter padded no_two place_count_below places magic_at magic_inside plain_pick unless guarded_pick
    or_else first
    step next_place follow steps listing_from bears first_or_refused only_or_refused length_fits region_bytes header_at address_fits bootblock_fits align_fits offset_fits
    master_tests
    refusal_number master lists_place is_untaken untaken_places verdict_on verdict first_start field_length header_bytes field_bytes span_stating sum_for span_bytes
    contains_magic runs lowest_fitting slot_of slot_filled add_after_check replace_after_check remove_after_check carried_out add replace remove is_step_start step_by
    from_place
    zero_places
opened = 0

-- And for plans.
unfoldable planning : ℕ
unfolding stage_tests load_tests stage_answer stage_of stage_in payload_tests payload_plan payload_answer payload_of payload_in
planning = 0

-- A component of type 0x50 with the offset 40, whose name is the letter c, stating a sum, and one byte of content; 64 bytes with what follows it.
abbrev summed : ℕ → ℕ → List ℕ
summed c sum =
    0x4C ∷ 0x41 ∷ 0x52 ∷ 0x43 ∷ 0x48 ∷ 0x49 ∷ 0x56 ∷ 0x45 ∷ 0 ∷ 0 ∷ 0 ∷ 1 ∷ 0 ∷ 0 ∷ 0 ∷ 0x50
    ∷ (be_bytes 4 sum ++ (0 ∷ 0 ∷ 0 ∷ 40 ∷ c ∷ (replicate 15 0 ++ (7 ∷ replicate 23 0xFF))))

-- The same with no sum.
abbrev component : ℕ → List ℕ
component c = summed c 0

-- An image of 228 bytes: 64 bytes before the region, two slots of 64 bytes, the master header and P. The second slot's bytes and offset are given.
abbrev image : List ℕ → ℕ → List ℕ
image slot offset =
    replicate 64 0xFF
    ++ (component 0x61
    ++ (slot
    ++ (be_bytes 4 0x4F524243 ++ (be_bytes 4 0x31313131 ++ (be_bytes 4 228 ++ (be_bytes 4 36 ++ (be_bytes 4 64 ++ (be_bytes 4 offset
    ++ (replicate 8 0xFF ++ le_bytes 4 0xFFFFFFDC)))))))))

-- The second slot has a component b, with its sum, 816; a magic with no well-formed header; a component a; a component b with another sum.

abbrev fine : List ℕ
fine = image (summed 0x62 816) 64

abbrev untaken : List ℕ
untaken = image (0x4C ∷ 0x41 ∷ 0x52 ∷ 0x43 ∷ 0x48 ∷ 0x49 ∷ 0x56 ∷ 0x45 ∷ replicate 56 0xFF) 64

abbrev alike : List ℕ
alike = image (component 0x61) 64

abbrev wrong : List ℕ
wrong = image (summed 0x62 817) 64

-- Refused by 8; and with a magic at a place of a region from 65 on, which 12 would be given for.

abbrev unaligned : List ℕ
unaligned = image (component 0x62) 65

abbrev unaligned_untaken : List ℕ
unaligned_untaken = image (0xFF ∷ 0x4C ∷ 0x41 ∷ 0x52 ∷ 0x43 ∷ 0x48 ∷ 0x49 ∷ 0x56 ∷ 0x45 ∷ replicate 55 0xFF) 65

-- 12 comes with the place 128, from the image's start; so do the edits. 8 comes before 12, 9 and 10; 11 comes with place 0.
checked : (strict_check untaken ≡ Err (record { number = 12; place = 128 })) × (strict_check alike ≡ Err (record { number = 11; place = 0 }))
    × (strict_check unaligned_untaken ≡ Err (record { number = 8; place = 0 }))
    × (untaken_places (region_bytes unaligned_untaken (record { start = 65; end = 192; align = 64 })) 64 ≡ 64 ∷ [])
    × (strict_check fine ≡ Ok (record { count = 2; places = padded 1024 0 (64 ∷ 128 ∷ []) }))
unfolding opened
checked = (refl, refl, refl, refl, refl)

-- With one component allowed the check refuses by 13; with two and three it says the same, in as many places. So do edits: where b is to be added
-- beside a, and where b is replaced and removed.

abbrev half : List ℕ
half = image (replicate 64 0xFF) 64

limited : (strict_check_up_to 1 fine ≡ Err (record { number = 13; place = 0 }))
    × (strict_check_up_to 2 fine ≡ Ok (record { count = 2; places = 64 ∷ 128 ∷ [] }))
    × (strict_check_up_to 3 fine ≡ Ok (record { count = 2; places = 64 ∷ 128 ∷ 0 ∷ [] }))
    × (strict_check_up_to 256 fine ≡ Ok (record { count = 2; places = padded 256 0 (64 ∷ 128 ∷ []) }))
unfolding opened
limited = (refl, refl, refl, refl)

added_limited : ((image_add_up_to 1 half (0x62 ∷ []) 0x50 (7 ∷ [])).answer ≡ Err (refusal_by 13))
    × (image_add_up_to 2 half (0x62 ∷ []) 0x50 (7 ∷ []) ≡ record { answer = Ok 128; image = fine })
    × ((image_add_up_to 256 half (0x62 ∷ []) 0x50 (7 ∷ [])).answer ≡ Ok 128)
unfolding opened
added_limited = (refl, refl, refl)

edited_limited : ((image_replace_up_to 1 fine (0x62 ∷ []) (7 ∷ [])).answer ≡ Err (refusal_by 13))
    × ((image_remove_up_to 1 fine (0x62 ∷ [])).answer ≡ Err (refusal_by 13))
    × ((image_replace_up_to 256 fine (0x62 ∷ []) (7 ∷ [])).answer ≡ Ok 128) × ((image_remove_up_to 256 fine (0x62 ∷ [])).answer ≡ Ok 128)
unfolding opened
edited_limited = (refl, refl, refl, refl)

abbrev twelve : Result ℕ Refusal
twelve = Err (record { number = 12; place = 128 })

edited : ((image_add untaken [] 0x50 []).answer ≡ twelve) × ((image_replace untaken [] []).answer ≡ twelve) × ((image_remove untaken []).answer ≡ twelve)
    × ((image_add alike [] 0x50 []).answer ≡ Err (refusal_by 11)) × ((image_add unaligned [] 0x50 []).answer ≡ Err (refusal_by 8))
    × ((image_replace alike [] []).answer ≡ Err (refusal_by 11)) × ((image_remove alike []).answer ≡ Err (refusal_by 11))
    × ((image_add fine [] 0x50 []).answer ≡ Err (refusal_by 14)) × ((image_remove fine (0x62 ∷ [])).answer ≡ Ok 128)
unfolding opened
edited = (refl, refl, refl, refl, refl, refl, refl, refl, refl)

stepped : (w : Bool) → (image_step w unaligned 1 ≡ Err (refusal_by 8)) × (image_step w fine 0 ≡ Err (refusal_by 9))
    × (image_step w fine 192 ≡ Ok None)
unfolding opened
stepped true = (refl, refl, refl)
stepped false = (refl, refl, refl)

found : (w : Bool)
    → (image_find w unaligned [] ≡ Err (refusal_by 8)) × (image_find w fine [] ≡ Err (refusal_by 10)) × (image_content w fine (0x62 ∷ []) ≡ 7 ∷ [])
unfolding opened
found true = (refl, refl, refl)
found false = (refl, refl, refl)

twice : (image_find true alike (0x61 ∷ []) ≡ Err (refusal_by 11)) × (image_content true alike (0x61 ∷ []) ≡ [])
    × (image_content false alike (0x61 ∷ []) ≡ 7 ∷ [])
unfolding opened
twice = (refl, refl, refl)

-- Request 5: b with a wrong sum is found by neither lookup and has no parts at its place; neither walk lists it, and the strict check and the edits
-- refuse with its place.
summed_wrong : (strict_check wrong ≡ Err (record { number = 12; place = 128 })) × ((image_add wrong [] 0x50 []).answer ≡ twelve)
    × ((image_replace wrong (0x61 ∷ []) []).answer ≡ twelve)
    × ((image_remove wrong (0x61 ∷ [])).answer ≡ twelve) × (name_at wrong 128 ≡ []) × (content_at wrong 128 ≡ [])
unfolding opened
summed_wrong = (refl, refl, refl, refl, refl, refl)

unlisted : (w : Bool) → (image_find w wrong (0x62 ∷ []) ≡ Err (refusal_by 10)) × (image_content w wrong (0x62 ∷ []) ≡ [])
    × (image_step w wrong 128 ≡ Ok None)
    × (image_content w wrong (0x61 ∷ []) ≡ 7 ∷ [])
unfolding opened
unlisted true = (refl, refl, refl, refl)
unlisted false = (refl, refl, refl, refl)

-- Plans: 8 before 10, and 11 before 18.
planned : (image_stage unaligned [] ≡ Err (refusal_by 8)) × (image_payload unaligned [] ≡ Err (refusal_by 8)) × (image_stage alike (0x61 ∷ []) ≡ Err (refusal_by 11))
    × (image_payload alike (0x61 ∷ []) ≡ Err (refusal_by 11))
    × (image_stage fine (0x61 ∷ []) ≡ Err (refusal_by 18)) × (image_payload fine (0x61 ∷ []) ≡ Err (refusal_by 18))
unfolding opened planning
planned = (refl, refl, refl, refl, refl, refl)

parts : (name_at fine 128 ≡ 0x62 ∷ []) × (content_at fine 128 ≡ 7 ∷ []) × (name_at fine 192 ≡ []) × (name_at fine 0 ≡ []) × (content_at unaligned 128 ≡ [])
unfolding opened
parts = (refl, refl, refl, refl, refl)

-- Worked values: plans of a small whole image, and what it is refused by.
use Rattle.std.specs.Prelude.{Ok, Err}
use Prim.Native.Nat.{ℕ}
use mathlib.Core.Path.{◌≡◌, refl}
use mathlib.Core.List.{List, [], ◌∷◌, ◌++◌}
use lib.ListN.{replicate}
use lib.Count.{ones, ones_in}
use Rattle.bytes_read.specs.Number.{le, be_bytes, le_bytes}
use Rattle.bytes_read.specs.Bytes.{part_of}
use Rattle.bytes_read.specs.Lists.{filter, padded}
use Rattle.walk.specs.Walk.{place_count_below, places, magic_at, magic_inside, unless, guarded_pick, or_else, first, step, next_place, follow, steps, listing_from}
use Rattle.walk_lookup.specs.Lookup.{bears, only_or_refused}
use Rattle.region.specs.Region.{region_bytes, refusal_by}
use Rattle.region.specs.Refusals.{length_fits}
use Rattle.master_header.specs.Master.{header_at, address_fits, bootblock_fits, align_fits, offset_fits, master_tests, refusal_number, master}
use Rattle.load_segment.specs.LoadSegment.{source_fits, len_fits, target_fits, load_tests, ends_before, disjoint_targets}
use Rattle.load_stage.specs.Stage.{stage_tests, stage_answer, stage_of, stage_in}
use Rattle.load_payload.specs.Payload.{code_type, entry_type, segment_at, bss_tests, params_tests, type_tests, record_tests, disjoint_from_all, record_list_tests}
use Rattle.load_payload.specs.Payload.{segments_from, payload_tests, unused_segment, payload_plan, payload_answer, payload_of, payload_in}
use Rattle.load_segment.proofs.Bench.{named}
use Rattle.load_stage.proofs.Worked.{header}
use Rattle.load_payload.proofs.Worked.{code, entry}
use Rattle.image_load.specs.ImageLoad.{image_stage, image_payload}
use Rattle.component.proofs.Opened.{judge_definitions}

-- A stage named s at 0 and a payload named p at 128; the region ends at 256, where the master header stands, and P after it. P's lowest byte is given.
abbrev image : ℕ → List ℕ
image p = named 0x73 0x10 (header 1 0x77 0x1000 4 0x100 ++ replicate 4 0)
    ++ (replicate 56 0xFF
    ++ (named 0x70 0x20 (code 0x1000 0x100 ++ entry)
    ++ (replicate 32 0xFF
    ++ (be_bytes 4 0x4F524243 ++ (be_bytes 4 0x31313131 ++
    (be_bytes 4 292 ++ (be_bytes 4 36 ++ (be_bytes 4 64 ++ (be_bytes 4 0 ++ (replicate 8 0 ++ (p ∷ 0xFF ∷ 0xFF ∷ 0xFF ∷ [])))))))))))

worked_plans :
    (image_stage (image 0xDC) (0x73 ∷ []) ≡ Ok (record { compression = 1; entry = 0x77; load = 0x1000; source = 68; len = 4; memlen = 0x100 }))
    × (image_payload (image 0xDC) (0x70 ∷ []) ≡ Ok (record {
      count = 2;
      segments = record { kind = code_type; compression = 0; source = 168; load = 0x1000; len = 0; memlen = 0x100 }
          ∷ record { kind = entry_type; compression = 0; source = 0; load = 0x1000; len = 0; memlen = 0 }
          ∷ replicate 14 unused_segment;
    }))
    -- the master header's refusal, the lookup's, and the type's
    × (image_stage (image 0xDD) (0x73 ∷ []) ≡ Err (refusal_by 2))
    × (image_payload (image 0xDD) (0x70 ∷ []) ≡ Err (refusal_by 2))
    × (image_stage (image 0xDC) [] ≡ Err (refusal_by 10))
    × (image_payload (image 0xDC) [] ≡ Err (refusal_by 10))
    × (image_stage (image 0xDC) (0x70 ∷ []) ≡ Err (refusal_by 18))
    × (image_payload (image 0xDC) (0x73 ∷ []) ≡ Err (refusal_by 18))
unfolding judge_definitions ones ones_in le le_bytes part_of filter place_count_below places magic_at magic_inside unless guarded_pick or_else first step next_place
    follow steps
    listing_from bears only_or_refused region_bytes length_fits header_at address_fits bootblock_fits align_fits offset_fits master_tests refusal_number master source_fits
    len_fits
    target_fits load_tests stage_tests stage_answer stage_of stage_in segment_at bss_tests params_tests type_tests record_tests ends_before disjoint_targets disjoint_from_all
    record_list_tests segments_from payload_tests padded payload_plan payload_answer payload_of payload_in
worked_plans = (refl, refl, refl, refl, refl, refl, refl, refl)

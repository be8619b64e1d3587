-- Worked values: plans of small payloads, read by the definitions (document 01, "Load plans"), and its bench cases.
use Prim.Native.Nat.{ℕ, zero, suc, ◌-◌, ◌^◌}
use mathlib.Core.Path.{◌≡◌, refl}
use mathlib.Core.Bool.{Bool, true}
use mathlib.Core.List.{List, [], ◌∷◌, ◌++◌, map}
use lib.ListN.{replicate}
use lib.Dec.{eqb}
use Rattle.bytes_read.specs.Number.{be, le, be_bytes, le_bytes}
use Rattle.bytes_read.specs.Bytes.{part_of}
use Rattle.bytes_read.specs.Tests.{all_true}
use Rattle.bytes_read.specs.Lists.{filter, padded}
use Rattle.walk.specs.Walk.{place_count_below, places, magic_at, magic_inside, unless, guarded_pick, or_else, first}
use Rattle.walk.specs.Walk.{step, next_place, follow, steps, listing_from}
use Rattle.walk_lookup.specs.Lookup.{bears, only_or_refused}
use Rattle.std.specs.Prelude.{Ok, Err}
use Rattle.region.specs.Region.{region_bytes, refusal_by}
use Rattle.load_segment.specs.LoadSegment.{source_fits, len_fits, target_fits, load_tests, ends_before, disjoint_targets}
use Rattle.load_segment.proofs.Bench.{component, image, twice, region, number}
use Rattle.load_payload.specs.Payload.{code_type, data_type, bss_type, params_type, entry_type, segment_at, bss_tests, params_tests, type_tests, record_tests}
use Rattle.load_payload.specs.Payload.{disjoint_from_all, record_list_tests, segments_from, payload_tests, unused_segment}
use Rattle.load_payload.specs.Payload.{payload_plan, payload_answer, payload_of, payload_in}
use Rattle.component.proofs.Opened.{judge_definitions}

-- The types as bytes in flash: CODE, DATA, "BSS ", PARA and ENTR.
types : map (le_bytes 4) (code_type ∷ data_type ∷ bss_type ∷ params_type ∷ entry_type ∷ [])
    ≡ (0x43 ∷ 0x4F ∷ 0x44 ∷ 0x45 ∷ []) ∷ (0x44 ∷ 0x41 ∷ 0x54 ∷ 0x41 ∷ []) ∷ (0x42 ∷ 0x53 ∷ 0x53 ∷ 0x20 ∷ []) ∷ (0x50 ∷ 0x41 ∷ 0x52 ∷ 0x41 ∷ []) ∷
    (0x45 ∷ 0x4E ∷ 0x54 ∷ 0x52 ∷ []) ∷ []
unfolding le_bytes
types = refl

-- The bytes of a record: type, compression, offset, load_addr, len, mem_len.
abbrev pub segment : ℕ → ℕ → ℕ → ℕ → ℕ → ℕ → List ℕ
segment k c o a n m = le_bytes 4 k ++ (be_bytes 4 c ++ (be_bytes 4 o ++ (be_bytes 8 a ++ (be_bytes 4 n ++ be_bytes 4 m))))

-- Records. The sources are empty and at the content's start, which is byte 40 of the component, unless the case is about them.

abbrev pub code : ℕ → ℕ → List ℕ
code a m = segment code_type 0 40 a 0 m

abbrev pub bss : ℕ → ℕ → List ℕ
bss a m = segment bss_type 0 0 a 0 m

abbrev pub entry : List ℕ
entry = segment entry_type 0 0 0x1000 0 0

-- n records that are no ENTRY.
abbrev many : ℕ → List ℕ
many zero = []
many (suc n) = segment params_type 0 40 0 0 0 ++ many n

-- Payloads, each with the number that it is refused by, or 0.
abbrev payloads : List (ℕ × List ℕ)
payloads =
    -- document 01's bench cases: the BSS after the CODE, and one byte before its end
    (0, code 0x1000 0x100 ++ (bss 0x1100 16 ++ entry))
    ∷ (26, code 0x1000 0x100 ++ (bss 0x10FF 16 ++ entry))
    -- up to 2^64, and one byte past it
    ∷ (0, bss (2 ^ 64 - 16) 16 ++ entry)
    ∷ (25, bss (2 ^ 64 - 16) 17 ++ entry)
    ∷ (0, code (2 ^ 64 - 16) 16 ++ entry)
    ∷ (25, code (2 ^ 64 - 16) 17 ++ entry)
    -- the BSS before the CODE, and one byte into it; none at all, within it; the later record is refused
    ∷ (0, code 0x1000 0x100 ++ (bss 0xFF0 16 ++ entry))
    ∷ (26, code 0x1000 0x100 ++ (bss 0xFF0 17 ++ entry))
    ∷ (0, code 0x1000 0x100 ++ (bss 0x1080 0 ++ entry))
    ∷ (26, code 0x1000 0x100 ++ (bss 0x1100 16 ++ (segment data_type 0 40 0x110F 0 1 ++ entry)))
    -- no record, a record cut short, no ENTRY; what follows the ENTRY is not read
    ∷ (19, [])
    ∷ (19, replicate 27 0)
    ∷ (19, code 0x1000 0x100)
    ∷ (0, entry ++ replicate 28 0)
    -- an unknown type, and CODE read big-endian
    ∷ (20, replicate 28 0)
    ∷ (20, segment 0x434F4445 0 40 0x1000 0 0 ++ entry)
    -- compression: CODE and PARAMS by 22; BSS and ENTRY do not use it
    ∷ (22, segment code_type 3 0 0x1000 9 0 ++ entry)
    ∷ (22, segment params_type 3 40 0 0 0 ++ entry)
    ∷ (0, segment bss_type 3 0 0x1000 9 0 ++ segment entry_type 3 0 0 9 9)
    -- a source from the content's start to its end; one byte before it; one byte past it, even if empty
    ∷ (0, segment code_type 0 40 0x1000 56 56 ++ entry)
    ∷ (23, segment code_type 0 39 0x1000 0 0 ++ entry)
    ∷ (23, segment code_type 0 40 0x1000 57 57 ++ entry)
    ∷ (0, segment params_type 0 96 0 0 0 ++ entry)
    ∷ (23, segment params_type 0 97 0 0 0 ++ entry)
    -- more bytes than memory: CODE and DATA uncompressed alone
    ∷ (24, segment code_type 0 40 0x1000 2 1 ++ entry)
    ∷ (24, segment data_type 0 40 0x1000 2 1 ++ entry)
    ∷ (0, segment data_type 1 40 0x1000 2 1 ++ entry)
    ∷ (0, segment params_type 0 40 0x1000 2 1 ++ entry)
    -- the ENTRY as the sixteenth record, and none among sixteen, at the content's end or before it
    ∷ (0, many 15 ++ entry)
    ∷ (21, many 16)
    ∷ (21, many 16 ++ entry)
    -- the order: 20 before 22, 22 before 23, 23 before 24, 24 before 25, 25 before 26
    ∷ (20, segment 0x434F4445 3 39 0x1000 0 0 ++ entry)
    ∷ (22, segment code_type 3 39 0x1000 0 0 ++ entry)
    ∷ (23, segment code_type 0 39 0x1000 2 1 ++ entry)
    ∷ (24, segment code_type 0 40 (2 ^ 64 - 2) 4 3 ++ entry)
    ∷ (25, code (2 ^ 64 - 16) 16 ++ (bss (2 ^ 64 - 2) 3 ++ entry))
    -- the first record that is refused: 26 of the second before 20 of the third
    ∷ (26, code 0x1000 0x100 ++ (bss 0x1000 1 ++ replicate 28 0))
    ∷ []

abbrev agrees : ℕ × List ℕ → Bool
agrees (n, s) = eqb (number (payload_of (component 0x20) s)) n

worked_payloads : all_true (map agrees payloads) ≡ true
unfolding be le be_bytes le_bytes source_fits len_fits target_fits load_tests segment_at bss_tests params_tests type_tests record_tests
    ends_before disjoint_targets disjoint_from_all record_list_tests segments_from payload_tests payload_plan payload_answer payload_of
worked_payloads = refl

-- The type comes first.
other_payload : payload_of (component 0x10) [] ≡ Err (refusal_by 18)
unfolding payload_tests payload_answer payload_of
other_payload = refl

abbrev plain_payload : List ℕ
plain_payload =
    segment code_type 1 152 0x1000 4 0x100 ++ (segment params_type 2 150 0x77 3 0x99 ++ (bss 0x1100 16 ++ (segment entry_type 7 8 0x1004 9 9 ++ replicate 8 0)))

-- What is reported of each type.
read_payload : payload_in (image 0x20 plain_payload) (region 288) (0x70 ∷ []) ≡ Ok (record {
  count = 4;
  segments = record { kind = code_type; compression = 1; source = 216; load = 0x1000; len = 4; memlen = 0x100 }
      ∷ record { kind = params_type; compression = 2; source = 214; load = 0; len = 3; memlen = 0 }
      ∷ record { kind = bss_type; compression = 0; source = 0; load = 0x1100; len = 0; memlen = 16 }
      ∷ record { kind = entry_type; compression = 0; source = 0; load = 0x1004; len = 0; memlen = 0 }
      ∷ replicate 12 unused_segment;
})
unfolding judge_definitions le le_bytes part_of filter place_count_below places magic_at magic_inside unless guarded_pick or_else first
    step next_place follow steps listing_from bears only_or_refused region_bytes
    source_fits len_fits target_fits load_tests segment_at bss_tests params_tests type_tests record_tests
    ends_before disjoint_targets disjoint_from_all record_list_tests segments_from payload_tests padded payload_plan payload_answer payload_of payload_in
read_payload = refl

-- A name that no component has, and one that two components have: the lookup's refusal is the plan's, before the type is looked at.
refused_lookups :
    (payload_in (twice 0x10) (region 168) (0x71 ∷ []) ≡ Err (refusal_by 10))
    × (payload_in (twice 0x10) (region 168) (0x70 ∷ []) ≡ Err (refusal_by 11))
unfolding judge_definitions le le_bytes part_of filter place_count_below places magic_at magic_inside unless guarded_pick or_else first
    step next_place follow steps listing_from bears only_or_refused region_bytes payload_in
refused_lookups = (refl, refl)

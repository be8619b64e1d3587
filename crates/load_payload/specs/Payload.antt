-- Payload plans (document 01, "Load plans"): a component of type 0x20. Its content s is a list of records, 28 bytes each, up to the first ENTRY.
-- The content begins at the place `at` of the image; offsets are counted from the place o.
use Rattle.std.specs.Prelude.{ℕ, zero, suc, ◌+◌, List, [], ◌∷◌, ◌++◌, Bool, true, false, cond, length, leb, eqb, Result}
use Rattle.std.specs.List.{list_all}
use Rattle.bytes_read.specs.Number.{be, le}
use Rattle.bytes_read.specs.Lists.{padded}
use Rattle.region.specs.Refusals.{Test, test, first_failed}
use Rattle.region.specs.Region.{unless_refused, and_then}
use Rattle.cbfs_types.specs.declared.Refusal.{Refusal}
use Rattle.cbfs_types.specs.declared.Region.{Region}
use Rattle.cbfs_types.specs.declared.Taken.{Taken}
use Rattle.region_read.specs.RegionRead.{find_in, content_found_in}
use Rattle.load_segment.specs.LoadSegment.{content_place, compression_fits, source_fits, target_fits, load_tests, disjoint_targets}
use Rattle.cbfs_types.specs.declared.Segment.{Segment}
use Rattle.cbfs_types.specs.declared.PayloadPlan.{PayloadPlan}

-- Where segment offsets are counted from, in the image: the component's header.
abbrev pub origin : Taken → ℕ
origin t = t.place

-- A record, 28 bytes from p on: type, compression, offset, load_addr, len, mem_len. The type alone is little-endian.

abbrev pub type_at : List ℕ → ℕ → ℕ
type_at s p = le 4 s p

abbrev pub compression_at : List ℕ → ℕ → ℕ
compression_at s p = be 4 s (p + 4)

abbrev pub source_at : List ℕ → ℕ → ℕ → ℕ
source_at s o p = o + be 4 s (p + 8)

abbrev pub load_at : List ℕ → ℕ → ℕ
load_at s p = be 8 s (p + 12)

abbrev pub len_at : List ℕ → ℕ → ℕ
len_at s p = be 4 s (p + 20)

abbrev pub memlen_at : List ℕ → ℕ → ℕ
memlen_at s p = be 4 s (p + 24)

-- The five types, distinguished by their number: as bytes CODE, DATA, "BSS ", PARA and ENTR.

abbrev pub code_type : ℕ
code_type = 0x45444F43

abbrev pub data_type : ℕ
data_type = 0x41544144

abbrev pub bss_type : ℕ
bss_type = 0x20535342

abbrev pub params_type : ℕ
params_type = 0x41524150

abbrev pub entry_type : ℕ
entry_type = 0x52544E45

-- What the type k chooses: one for CODE and DATA, one each for BSS, PARAMS and ENTRY, and one for any other number.
abbrev pub by_type : {A : Type 0} → ℕ → A → A → A → A → A → A
by_type k loaded bss params entry other =
    cond (eqb k code_type) loaded
    (cond (eqb k data_type) loaded
    (cond (eqb k bss_type) bss
    (cond (eqb k params_type) params
    (cond (eqb k entry_type) entry other))))

-- What each type reports: the fields that it uses, and 0 for the others. An unknown type is never reported.

abbrev pub loaded_segment : List ℕ → ℕ → ℕ → Segment
loaded_segment s o p =
    record { kind = type_at s p; compression = compression_at s p; source = source_at s o p; load = load_at s p; len = len_at s p; memlen = memlen_at s p }

abbrev pub bss_segment : List ℕ → ℕ → Segment
bss_segment s p = record { kind = type_at s p; compression = 0; source = 0; load = load_at s p; len = 0; memlen = memlen_at s p }

abbrev pub params_segment : List ℕ → ℕ → ℕ → Segment
params_segment s o p = record { kind = type_at s p; compression = compression_at s p; source = source_at s o p; load = 0; len = len_at s p; memlen = 0 }

abbrev pub entry_segment : List ℕ → ℕ → Segment
entry_segment s p = record { kind = type_at s p; compression = 0; source = 0; load = load_at s p; len = 0; memlen = 0 }

abbrev pub unknown_segment : List ℕ → ℕ → Segment
unknown_segment s p = record { kind = type_at s p; compression = 0; source = 0; load = 0; len = 0; memlen = 0 }

unfoldable pub segment_at : List ℕ → ℕ → ℕ → Segment
segment_at s o p = by_type (type_at s p) (loaded_segment s o p) (bss_segment s p) (params_segment s o p) (entry_segment s p) (unknown_segment s p)

-- The tests that each type asks for, in the order of their refusals. The content is the l bytes from `at` on.

unfoldable pub bss_tests : Segment → List Test
bss_tests x = test 25 (target_fits x.load x.memlen) ∷ []

unfoldable pub params_tests : ℕ → ℕ → Segment → List Test
params_tests at l x = test 22 (compression_fits x.compression) ∷ test 23 (source_fits at l x.source x.len) ∷ []

unfoldable pub type_tests : ℕ → ℕ → Segment → List Test
type_tests at l x = by_type x.kind (load_tests at l x) (bss_tests x) (params_tests at l x) [] (test 20 false ∷ [])

-- The tests of the record at p: 19, 20, and those of its type.
unfoldable pub record_tests : List ℕ → ℕ → ℕ → ℕ → List Test
record_tests s at o p = test 19 (leb (p + 28) (length s)) ∷ type_tests at (length s) (segment_at s o p)

-- 26: the target of y and those of the segments xs share no byte.
unfoldable pub disjoint_from_all : Segment → List Segment → Bool
disjoint_from_all y xs = list_all (λ x. disjoint_targets x y) xs

-- The list ends with the first ENTRY.
abbrev pub is_entry : Segment → Bool
is_entry x = eqb x.kind entry_type

-- How many segments a plan holds.
abbrev pub segment_limit : ℕ
segment_limit = 16

-- The tests record by record, from p on: k more records may come, after those of the segments xs. One more is refused by 21, before its 19.
unfoldable pub record_list_tests : List ℕ → ℕ → ℕ → ℕ → ℕ → List Segment → List Test
record_list_tests s at o zero p xs = test 21 false ∷ []
record_list_tests s at o (suc k) p xs =
    record_tests s at o p
    ++ (test 26 (disjoint_from_all (segment_at s o p) xs)
    ∷ cond (is_entry (segment_at s o p)) [] (record_list_tests s at o k (p + 28) (xs ++ (segment_at s o p ∷ []))))

-- The segments from p on, up to the first ENTRY, k at most.
unfoldable pub segments_from : List ℕ → ℕ → ℕ → ℕ → List Segment
segments_from s o zero p = []
segments_from s o (suc k) p = segment_at s o p ∷ cond (is_entry (segment_at s o p)) [] (segments_from s o k (p + 28))

-- The tests of a component of type k: 18, then record by record 19 to 26 with 21 before 19.
unfoldable pub payload_tests : ℕ → List ℕ → ℕ → ℕ → List Test
payload_tests k s at o = test 18 (eqb k 0x20) ∷ record_list_tests s at o segment_limit 0 []

abbrev pub unused_segment : Segment
unused_segment = record { kind = 0; compression = 0; source = 0; load = 0; len = 0; memlen = 0 }

-- The plan: the segments in the payload's order, ENTRY included, unused ones zero, and their count.
unfoldable pub payload_plan : List Segment → PayloadPlan
payload_plan xs = record { count = length xs; segments = padded segment_limit unused_segment xs }

-- The plan by the number n of the first test that fails.
unfoldable pub payload_answer : ℕ → List Segment → Result PayloadPlan Refusal
payload_answer n xs = unless_refused n (payload_plan xs)

-- The plan of the records in s.
abbrev pub records_plan : List ℕ → ℕ → ℕ → Result PayloadPlan Refusal
records_plan s at o = payload_answer (first_failed (record_list_tests s at o segment_limit 0 [])) (segments_from s o segment_limit 0)

-- The plan of a component t, whose content is s.
unfoldable pub payload_of : Taken → List ℕ → Result PayloadPlan Refusal
payload_of t s = payload_answer (first_failed (payload_tests t.header.kind s (content_place t) (origin t))) (segments_from s (origin t) segment_limit 0)

-- The payload plan of a name: 10 and 11 by the guarded lookup, then 18, then the records.
unfoldable pub payload_in : List ℕ → Region → List ℕ → Result PayloadPlan Refusal
payload_in i g name = and_then (find_in true i g name) (λ t. payload_of t (content_found_in true i g name))

-- Stage plans (document 01, "Load plans"): a component of type 0x10. Its content s begins with 28 bytes, little-endian; the binary follows.
use Rattle.std.specs.Prelude.{ℕ, ◌+◌, List, ◌∷◌, true, length, leb, eqb, Result}
use Rattle.bytes_read.specs.Number.{le}
use Rattle.region.specs.Refusals.{Test, test, first_failed}
use Rattle.region.specs.Region.{unless_refused, and_then}
use Rattle.cbfs_types.specs.declared.Refusal.{Refusal}
use Rattle.cbfs_types.specs.declared.Region.{Region}
use Rattle.cbfs_types.specs.declared.Taken.{Taken}
use Rattle.region_read.specs.RegionRead.{find_in, content_found_in}
use Rattle.load_segment.specs.LoadSegment.{content_place, load_tests}
use Rattle.cbfs_types.specs.declared.Segment.{Segment}
use Rattle.cbfs_types.specs.declared.StagePlan.{StagePlan}

-- The 28 bytes: compression, entry, load, len, memlen. The entry is not checked.

abbrev pub entry_point : List ℕ → ℕ
entry_point s = le 8 s 4

-- What is loaded: the binary, which follows the 28 bytes. The content begins at the place `at` of the image.
abbrev pub binary_at : List ℕ → ℕ → Segment
binary_at s at = record { kind = 0; compression = le 4 s 0; source = at + 28; load = le 8 s 12; len = le 4 s 20; memlen = le 4 s 24 }

-- The tests in the order of their refusals, of a component of type k: 18, 19, and 22 to 25.
unfoldable pub stage_tests : ℕ → List ℕ → ℕ → List Test
stage_tests k s at = test 18 (eqb k 0x10) ∷ test 19 (leb 28 (length s)) ∷ load_tests at (length s) (binary_at s at)

-- The plan. The zeroed range is the memlen bytes from load on.
abbrev pub stage_plan : ℕ → Segment → StagePlan
stage_plan e x = record { compression = x.compression; entry = e; load = x.load; source = x.source; len = x.len; memlen = x.memlen }

-- The plan by the number n of the first test that fails.
unfoldable pub stage_answer : ℕ → List ℕ → ℕ → Result StagePlan Refusal
stage_answer n s at = unless_refused n (stage_plan (entry_point s) (binary_at s at))

-- The plan of a component t, whose content is s.
unfoldable pub stage_of : Taken → List ℕ → Result StagePlan Refusal
stage_of t s = stage_answer (first_failed (stage_tests t.header.kind s (content_place t))) s (content_place t)

-- The stage plan of a name: 10 and 11 by the guarded lookup, then 18, 19 and 22 to 25.
unfoldable pub stage_in : List ℕ → Region → List ℕ → Result StagePlan Refusal
stage_in i g name = and_then (find_in true i g name) (λ t. stage_of t (content_found_in true i g name))

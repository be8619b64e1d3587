-- What stages and payloads share: the component that a plan is of, and tests 22 to 26 (document 01, "Load plans" and "Refusal numbers").
use Rattle.std.specs.Prelude.{ℕ, ◌+◌, ◌^◌, List, [], ◌∷◌, Bool, true, cond, ◌||◌, leb, eqb}
use Rattle.bytes_read.specs.Tests.{all_true}
use Rattle.region.specs.Refusals.{Test, test}
use Rattle.cbfs_types.specs.declared.Taken.{Taken}
use Rattle.cbfs_types.specs.declared.Segment.{Segment}

-- Where the content of a component begins, in the image.
abbrev pub content_place : Taken → ℕ
content_place t = t.place + t.header.offset

-- 22: the compression is 0 to 2.
abbrev pub compression_fits : ℕ → Bool
compression_fits c = leb c 2

-- 23: the n bytes from p on lie in the l bytes from `at` on. Where n is 0, p still lies there or at the end.
unfoldable pub source_fits : ℕ → ℕ → ℕ → ℕ → Bool
source_fits at l p n = all_true (leb at p ∷ leb (p + n) (at + l) ∷ [])

-- 24: at compression 0, the n bytes of the source are no more than the m bytes in memory.
unfoldable pub len_fits : ℕ → ℕ → ℕ → Bool
len_fits c n m = cond (eqb c 0) (leb n m) true

-- 25: the m bytes from the address a on do not pass 2^64.
unfoldable pub target_fits : ℕ → ℕ → Bool
target_fits a m = leb (a + m) (2 ^ 64)

-- The tests of what is loaded, a stage or a segment, in the order of their refusals. Its source lies in the l bytes from `at` on.
unfoldable pub load_tests : ℕ → ℕ → Segment → List Test
load_tests at l x =
    test 22 (compression_fits x.compression)
    ∷ test 23 (source_fits at l x.source x.len)
    ∷ test 24 (len_fits x.compression x.len x.memlen)
    ∷ test 25 (target_fits x.load x.memlen)
    ∷ []

-- The target of x ends where that of y begins, or before it.
unfoldable pub ends_before : Segment → Segment → Bool
ends_before x y = leb (x.load + x.memlen) y.load

-- 26: two targets share no byte. A target of 0 bytes, which PARAMS and ENTRY have too, overlaps nothing.
unfoldable pub disjoint_targets : Segment → Segment → Bool
disjoint_targets x y = eqb x.memlen 0 || (eqb y.memlen 0 || (ends_before x y || ends_before y x))

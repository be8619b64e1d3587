-- Worked values: tests 22 to 26 on both sides of each bound, and where two neighbours of the order fail at once.
use Prim.Native.Nat.{ℕ, ◌-◌, ◌^◌}
use mathlib.Core.Path.{◌≡◌, refl}
use mathlib.Core.Bool.{true, false}
use mathlib.Core.List.{[], ◌∷◌, map}
use Rattle.region.specs.Refusals.{first_failed}
use Rattle.load_segment.specs.LoadSegment.{source_fits, len_fits, target_fits, load_tests, ends_before, disjoint_targets}
use Rattle.cbfs_types.specs.declared.Segment.{Segment}

-- What is loaded, of a content of 10 bytes at place 100: compression, source, len, load and memlen.
abbrev loaded : ℕ → ℕ → ℕ → ℕ → ℕ → Segment
loaded c p n a m = record { kind = 0; compression = c; source = p; load = a; len = n; memlen = m }

abbrev number : Segment → ℕ
number x = first_failed (load_tests 100 10 x)

-- 22: 2 and 3, and with 23. 23: up to the end, past it, before the start, even if empty, and with 24. 24: len and memlen, compressed, and with 25.
-- 25: past 2^64 and up to it.
numbers : map number (
    loaded 2 100 10 0x1000 10
    ∷ loaded 3 100 10 0x1000 10
    ∷ loaded 3 99 10 0x1000 10
    ∷ loaded 0 101 10 0x1000 10
    ∷ loaded 0 99 10 0x1000 10
    ∷ loaded 0 110 0 0x1000 0
    ∷ loaded 0 111 0 0x1000 0
    ∷ loaded 0 99 10 0x1000 9
    ∷ loaded 0 100 10 0x1000 9
    ∷ loaded 1 100 10 0x1000 9
    ∷ loaded 0 100 10 (2 ^ 64 - 8) 9
    ∷ loaded 1 100 10 (2 ^ 64 - 8) 9
    ∷ loaded 1 100 10 (2 ^ 64 - 8) 8
    ∷ []
    ) ≡ 0 ∷ 22 ∷ 22 ∷ 23 ∷ 23 ∷ 0 ∷ 23 ∷ 23 ∷ 24 ∷ 0 ∷ 24 ∷ 25 ∷ 0 ∷ []
unfolding source_fits len_fits target_fits load_tests
numbers = refl

-- 26: bytes 8 to 16 beside those that touch them, one byte in common at either end, equal ones, nested ones, and targets of 0 bytes.
targets : map (disjoint_targets (loaded 0 0 0 8 8)) (
    loaded 0 0 0 0 8
    ∷ loaded 0 0 0 16 8
    ∷ loaded 0 0 0 0 9
    ∷ loaded 0 0 0 15 8
    ∷ loaded 0 0 0 8 8
    ∷ loaded 0 0 0 9 1
    ∷ loaded 0 0 0 9 0
    ∷ []
    ) ≡ true ∷ true ∷ false ∷ false ∷ false ∷ false ∷ true ∷ []
unfolding ends_before disjoint_targets
targets = refl

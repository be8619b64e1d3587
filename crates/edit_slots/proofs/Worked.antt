-- Worked values over the region of bench image A, whose components stand at 0 (cal/12, up to 140) and at 192 (cal/13, up to 256): by its places, and by others.
use mathlib.Core.Path.{◌≡◌, refl}
use mathlib.Core.List.{[], ◌∷◌}
use Rattle.bytes_read.specs.Number.{be, be_bytes}
use Rattle.bench_image.specs.BenchImage.{larchive, cal, head, slot0, slot192, region, region_a}
use Rattle.walk.specs.Walk.{place_count_below, next_place}
use Rattle.strict_check.specs.StrictCheck.{has_name}
use Rattle.edit_slots.specs.SlotsByPlaces.{run, slot_from, span_end, runs_between, slot_among}
use Rattle.std.specs.Prelude.{Some, None}
use Rattle.component.proofs.Opened.{judge_definitions}

ends : span_end region_a 0 ∷ span_end region_a 192 ∷ span_end region_a 5000 ∷ [] ≡ 140 ∷ 256 ∷ 5000 ∷ []
unfolding be be_bytes larchive cal head slot0 slot192 region
ends = refl

-- By the places of both, of one, of none, and by one behind the region's end.
between : runs_between region_a 64 0 (0 ∷ 192 ∷ []) ∷ runs_between region_a 64 0 (192 ∷ []) ∷ runs_between region_a 64 0 []
    ∷ runs_between region_a 64 0 (5000 ∷ []) ∷ []
    ≡ (run 0 0 ∷ run 192 192 ∷ run 256 3072 ∷ []) ∷ (run 0 192 ∷ run 256 3072 ∷ []) ∷ (run 0 3072 ∷ [])
    ∷ (run 0 5000 ∷ run 3072 3072 ∷ []) ∷ []
unfolding be be_bytes larchive cal head slot0 slot192 region place_count_below next_place runs_between
between = refl

-- cal/12's slot goes up to the next place, whichever that is; cal/13's up to the end. A place without a component is passed over.
slots : slot_among region_a (cal 0x32) (0 ∷ 192 ∷ []) ∷ slot_among region_a (cal 0x32) (0 ∷ [])
    ∷ slot_among region_a (cal 0x33) (64 ∷ 192 ∷ []) ∷ slot_among region_a (cal 0x34) (0 ∷ 192 ∷ []) ∷ []
    ≡ Some (slot_from (run 0 192) 0xFFFFFFFF) ∷ Some (slot_from (run 0 3072) 0xFFFFFFFF)
    ∷ Some (slot_from (run 192 3072) 0xFFFFFFFF) ∷ None ∷ []
unfolding judge_definitions larchive cal head slot0 slot192 region has_name slot_among
slots = refl

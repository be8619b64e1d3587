-- The code's own type for a map whose areas are still to be copied. It says no more than Fmap, and can be left out of the reading.
use Rattle.std.specs.Prelude.{◌≤◌, ◌≡◌, List, Result, Ok, Err, MatchResult}
use Rattle.bytes_read.specs.Lists.{padded}
use Rattle.cbfs_types.specs.declared.Area.{Area}
use Rattle.cbfs_types.specs.declared.FlashMap.{FlashMap}
use Rattle.cbfs_types.specs.declared.Refusal.{Refusal}
use Rattle.fmap_area.specs.Area.{unused_area}
use Rattle.fmap.specs.Fmap.{areas_at, area_limit}
use Rattle.fmap.specs.declared.areas.Areas.{Areas}
use Rattle.fmap.specs.declared.MapHeader.{MapHeader}

-- The areas that are left.
abbrev pub areas_left : Areas → List Area
areas_left a = areas_at a.s.now a.count a.from

-- The map of the header h.
abbrev pub with_areas : MapHeader → FlashMap
with_areas h = record { minor = h.minor; base = h.base; count = h.areas.count; areas = padded area_limit unused_area (areas_left h.areas) }

-- What is answered is m: h is the header of the map, which has no more areas than fit; or the refusal is m's.
abbrev pub IsHeaderOf : Result FlashMap Refusal → Result MapHeader Refusal → Type 0
IsHeaderOf m r = MatchResult r (λ h. (h.areas.count ≤ area_limit) × (m ≡ Ok (with_areas h))) (λ e. m ≡ Err e)

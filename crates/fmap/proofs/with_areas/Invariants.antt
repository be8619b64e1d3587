use mathlib.Core.Path.{◌≡◌}
use Rattle.bytes_read.specs.Lists.{padded}
use Rattle.fmap_area.specs.Area.{unused_area}
use Rattle.fmap.specs.Fmap.{areas_at, area_limit}
use Rattle.fmap.proofs.with_areas.Given as goal

-- The first i areas are stored, and the other records are not used.
abbrev pub invariant-loop-i : goal.invariant-loop-i
invariant-loop-i l = l.all ≡ padded area_limit unused_area (areas_at l.h.areas.s.now l.i l.h.areas.from)

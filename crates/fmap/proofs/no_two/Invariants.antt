use mathlib.Core.Path.{◌≡◌}
use mathlib.Core.Bool.{Bool}
use Rattle.bytes_read.specs.Lists.{any, no_two}
use Rattle.cbfs_types.specs.declared.Area.{Area}
use Rattle.fmap.specs.Header.{areas_left}
use Rattle.fmap.specs.declared.areas.Areas.{Areas}
use Rattle.fmap.proofs.no_two.Given as goal

-- The areas that are left decide.
abbrev pub invariant-loop-a : goal.invariant-loop-a
invariant-loop-a g l =
    (goal.iterator-loop-a g).can_next l.areas × (goal.iterator-loop-a g).is_finite l.areas
    × ((t : Area → Area → Bool) → ((a : Area) (later : Areas) (b : Bool) → goal.F-post g l.meets a later b → b ≡ any (t a) (areas_left later))
    → no_two t (areas_left l.fn.areas) ≡ no_two t (areas_left l.areas))

use mathlib.Core.Path.{◌≡◌}
use Rattle.region.specs.Refusals.{first_failed}
use Rattle.region.specs.Region.{unless_refused}
use Rattle.fmap.specs.Fmap.{each_area_tests}
use Rattle.fmap.specs.Header.{areas_left}
use Rattle.fmap.proofs.check_each_area.Given as goal

-- The areas that are left decide.
abbrev pub invariant-loop-a : goal.invariant-loop-a
invariant-loop-a l =
    unless_refused (first_failed (each_area_tests l.areas.s.now l.size (areas_left l.areas))) (tt {0})
    ≡ unless_refused (first_failed (each_area_tests l.areas.s.now l.size (areas_left l.a-iterator))) (tt {0})

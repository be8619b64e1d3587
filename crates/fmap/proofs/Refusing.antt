-- Laws of the tests of areas in turn, by the first that fails.
use Prim.Native.Nat.{ℕ}
use mathlib.Core.Path.{◌≡◌, refl}
use mathlib.Core.Bool.{true}
use mathlib.Core.List.{List, [], ◌∷◌}
use Rattle.std.proofs.Common.{Ok, Err}
use Rattle.region.specs.Refusals.{first_failed}
use Rattle.region.specs.Region.{unless_refused}
use Rattle.region.proofs.Orders.{numbered}
use Rattle.region.proofs.Answered.{part_refused, part_passed}
use Rattle.cbfs_types.specs.declared.Area.{Area}
use Rattle.cbfs_types.specs.declared.Refusal.{Refusal}
use Rattle.fmap_area.specs.Area.{area_tests}
use Rattle.fmap.specs.Fmap.{each_area_tests}

-- The areas in turn: the first of them, a, was judged, or none is left.

area_numbered : (s : List ℕ) (n : ℕ) (a : Area) → numbered (area_tests s n a) ≡ true
unfolding area_tests
area_numbered s n a = refl

module _ (s : List ℕ) (n : ℕ) {l xs : List Area} {a : Area} (e : l ≡ a ∷ xs) where
  pub each_refused : {r : Refusal} → Err r ≡ unless_refused (first_failed (area_tests s n a)) (tt {0})
      → Err r ≡ unless_refused (first_failed (each_area_tests s n l)) (tt {0})
  unfolding each_area_tests
  each_refused f = rw e (part_refused tt tt (area_tests s n a) (each_area_tests s n xs) f)

  pub each_passed : Ok (tt {0}) ≡ unless_refused (first_failed (area_tests s n a)) (tt {0})
      → unless_refused (first_failed (each_area_tests s n l)) (tt {0}) ≡ unless_refused (first_failed (each_area_tests s n xs)) (tt {0})
  unfolding each_area_tests
  each_passed f = rw e (part_passed tt tt (area_tests s n a) (each_area_tests s n xs) (area_numbered s n a) f)

pub each_end : (s : List ℕ) (n : ℕ) {l : List Area} → l ≡ [] → Ok (tt {0}) ≡ unless_refused (first_failed (each_area_tests s n l)) (tt {0})
unfolding each_area_tests
each_end s n e = rw e

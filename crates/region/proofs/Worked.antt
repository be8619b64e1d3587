-- Worked values: test 1 on both sides of both bounds. Such images are not computed byte by byte.
use Prim.Native.Nat.{ℕ}
use mathlib.Core.Path.{◌≡◌}
use mathlib.Core.Bool.{true, false}
use mathlib.Core.List.{List}
use lib.ListN.{length}
use Rattle.region.specs.Refusals.{length_fits}

module _ (i : List ℕ) where
  too_short : length i ≡ 63 → length_fits i ≡ false
  unfolding length_fits
  too_short e = rw e

  shortest : length i ≡ 64 → length_fits i ≡ true
  unfolding length_fits
  shortest e = rw e

  longest : length i ≡ 16777216 → length_fits i ≡ true
  unfolding length_fits
  longest e = rw e

  too_long : length i ≡ 16777217 → length_fits i ≡ false
  unfolding length_fits
  too_long e = rw e

-- Laws of the master header's tests.
use Prim.Native.Nat.{ℕ, ◌+◌, ◌-◌, ◌≤◌}
use native.Mathlib.Omega.{arith}
use mathlib.Core.Path.{◌≡◌, ◌∙◌}
use mathlib.Core.Bool.{true}
use mathlib.Core.List.{List, [], ◌∷◌}
use lib.Dec.{leb}
use lib.ListN.{length, take, drop, get_or}
use borrow.Author.Tests.{leb-true}
use Rattle.bytes_read.specs.Number.{be}
use Rattle.bytes_read.proofs.Numbers.{be_within}
use Rattle.bytes_read.proofs.Passing.{passes}
use Rattle.region.specs.Refusals.{length_fits}
use Rattle.master_header.specs.Master.{address, header_distance, field, header_at, address_fits}

-- Where test 2 is passed, 36 bytes follow where the header stands: its own 32, and P.
pub header_inside : (i : List ℕ) → address_fits i ≡ true → (header_distance i ≤ length i) × (header_at i + 36 ≤ length i)
unfolding address_fits header_at
header_inside i e = (b, omega (arith, b, leb-true (address i) 0xFFFFFFDC (d 1)))
  where
    d : (k : ℕ) → get_or (leb 0xFFFF0000 (address i) ∷ leb (address i) 0xFFFFFFDC ∷ leb (header_distance i) (length i) ∷ []) k true ≡ true
    d k = passes k (leb 0xFFFF0000 (address i) ∷ leb (address i) 0xFFFFFFDC ∷ leb (header_distance i) (length i) ∷ []) e

    b : header_distance i ≤ length i
    b = leb-true (header_distance i) (length i) (d 2)

-- A number of the header, read in its 32 bytes.
pub number_read : (i : List ℕ) (at k : ℕ) → at ≡ header_at i → k ≤ 28 → be 4 (take (at + 32 - at) (drop at i)) k ≡ field i k
number_read i at k e h = let n : at + 32 - at ≡ 32 = omega arith in rw n (be_within 4 i at 32 k (omega arith) ∙ rw e)

-- Test 1.
pub length_bounds : (i : List ℕ) → length_fits i ≡ true → (64 ≤ length i) × (length i ≤ 16777216)
unfolding length_fits
length_bounds i e = (leb-true _ _ (l 0), leb-true _ _ (l 1))
  where
    l : (k : ℕ) → get_or (leb 64 (length i) ∷ leb (length i) 16777216 ∷ []) k true ≡ true
    l k = passes k (leb 64 (length i) ∷ leb (length i) 16777216 ∷ []) e

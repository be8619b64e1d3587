-- Laws of a region's bytes.
use Prim.Native.Nat.{ℕ, ◌+◌, ◌-◌, ◌≤◌, ◌<◌}
use native.Mathlib.Omega.{arith}
use mathlib.Core.Path.{◌≡◌, refl, sym}
use mathlib.Core.Bool.{Bool, true, false, cond}
use mathlib.Core.List.{List, []}
use lib.ListN.{length, take, drop, length-take, length-drop}
use borrow.Author.Tests.{leb-true}
use Rattle.bytes_read.specs.Bytes.{fits, part_of}
use Rattle.bytes_read.proofs.Splice.{part_in}
use Rattle.region.specs.Region.{region_bytes}
use Rattle.cbfs_types.specs.declared.Region.{Region}

-- A region that ends before its start is empty.
pub bytes_backward : (i : List ℕ) (g : Region) → g.end < g.start → [] ≡ region_bytes i g
unfolding region_bytes part_of
bytes_backward i g h = let z : g.end - g.start ≡ 0 = omega arith in rw z (sym (go (fits i g.start 0)))
  where
    go : (b : Bool) → ◌≡◌ {A = List ℕ} (cond b [] []) []
    go true = refl
    go false = refl

-- One that fits the image is its part from start to end.
pub bytes_fit : (i : List ℕ) (g : Region) → g.start ≤ g.end → g.end ≤ length i → region_bytes i g ≡ take (g.end - g.start) (drop g.start i)
unfolding region_bytes
bytes_fit i g h k = sym (part_in i g.start (g.end - g.start) (omega arith))

-- What lies in a region lies in the image.
pub bytes_inside : (i : List ℕ) (g : Region) (p : ℕ) → p < length (region_bytes i g) → (g.start + length (region_bytes i g) ≡ g.end) × (g.end ≤ length i)
unfolding region_bytes part_of
bytes_inside i g p h = go (fits i g.start (g.end - g.start)) refl h
  where
    go : (b : Bool) → fits i g.start (g.end - g.start) ≡ b → p < length (cond b (take (g.end - g.start) (drop g.start i)) [])
        → (g.start + length (cond b (take (g.end - g.start) (drop g.start i)) []) ≡ g.end) × (g.end ≤ length i)
    go false e k = absurd (omega arith)
    go true e k =
        let f : g.start + (g.end - g.start) ≤ length i = leb-true _ _ e in
        let l = length-take (g.end - g.start) (drop g.start i) in
        let d = length-drop g.start i in
        (omega (arith, l, d), omega (arith, l, d))

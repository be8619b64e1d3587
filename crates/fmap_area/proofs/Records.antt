-- Laws of an area's record: the area at p where its 42 bytes lie in s, and an unused one where they do not.
use Prim.Native.Nat.{ℕ, ◌+◌, ◌-◌, ◌≤◌, ◌<◌}
use native.Mathlib.Nat.{add-zero}
use native.Mathlib.Omega.{arith}
use mathlib.Core.Path.{◌≡◌, ◌∙◌}
use mathlib.Core.List.{List}
use lib.ListN.{length, take, drop}
use borrow.Author.Tests.{le-leb, lt-leb}
use Rattle.bytes_read.specs.Number.{le}
use Rattle.bytes_read.proofs.Numbers.{le_within}
use Rattle.fmap_area.specs.Area.{area_at, unused_area, area_in}

pub area_in_lem : (s : List ℕ) (p : ℕ) → p + 42 ≤ length s → area_in s p ≡ area_at s p
unfolding area_in
area_in_lem s p h = rw (le-leb (p + 42) (length s) h)

pub area_out : (s : List ℕ) (p : ℕ) → length s < p + 42 → area_in s p ≡ unused_area
unfolding area_in
area_out s p h = rw (lt-leb (p + 42) (length s) h)

-- The record at p by itself, and the area whose numbers are read in it.
abbrev pub record_at : List ℕ → ℕ → List ℕ
record_at s p = take (p + 42 - p) (drop p s)

pub record_cut : (s : List ℕ) (p : ℕ) {o z f : ℕ} → p + 42 ≤ length s → o ≡ le 4 (record_at s p) 0 → z ≡ le 4 (record_at s p) 4 → f ≡ le 2 (record_at s p) 40
    → record { offset = o; size = z; flags = f; name = p + 8 } ≡ area_in s p
unfolding area_at
record_cut s p h e f g =
    let cut : (w i : ℕ) → i + w ≤ 42 → le w (record_at s p) i ≡ le w s (p + i) = λ w i l. le_within w s p (p + 42 - p) i (omega arith) in
    rw (area_in_lem s p h, e ∙ cut 4 0 (omega arith), f ∙ cut 4 4 (omega arith), g ∙ cut 2 40 (omega arith), add-zero p)

-- What is known of every image, and of every map that is read (document 01, "Flash map").
use Prim.Native.Nat.{ℕ, ◌+◌, ◌*◌, ◌≤◌, ◌<◌}
use native.Mathlib.Nat.{zero-add}
use native.Mathlib.Omega.{arith}
use native.Mathlib.Decide.{dec_lt}
use mathlib.Core.Path.{◌≡◌, refl, sym}
use mathlib.Core.Logic.{inl, inr}
use mathlib.Core.List.Memᴰ
use mathlib.Core.List.{List, Memᴰ}
use lib.ListN.{length, take, drop}
use Rattle.bytes_read.proofs.SameBytes.{eq_true, eq_refl}
use Rattle.bytes_read.proofs.Tested.{any_some, two_none}
use Rattle.std.proofs.Common.{Ok, Err}
use Rattle.region.specs.Refusals.{first_failed}
use Rattle.region.specs.Region.{refusal_by}
use Rattle.cbfs_types.specs.declared.FlashMap.{FlashMap}
use Rattle.cbfs_types.specs.declared.Refusal.{Refusal}
use Rattle.fmap_area.specs.Names.{area_name_at, FitAreaName}
use Rattle.fmap_area.specs.Area.{unused_area, same_name, cross, contains_map, AreaInside, DisjointOrNested, FmapAreaContains}
use Rattle.fmap_area.proofs.Facts.{extent, fit, flipped, uncrossed, fmap-area, differing}
use Rattle.fmap_signature.specs.Signatures.{signature, has_signature, signature_at, signatures_from, signatures}
use Rattle.fmap.specs.Fmap.{map_place, area_of, nareas, map_end, fmap_tests, map_of, fmap_by, fmap}
use Rattle.fmap_signature.proofs.Searching.{signature_sound, signature_complete}
use Rattle.fmap.proofs.Counting.{areas_length}
use Rattle.fmap.proofs.Reading.{header_passed}
use Rattle.region.proofs.Answered.{refusal_given}
use Rattle.fmap.proofs.Accepting.{areas, nth, accepted, count_is, long, area_is, area_past, each, all_tests_pass}

-- A refusal has its number, which is not 0, and reports place 0.
pub refusal_zero : (i : List ℕ) (r : Refusal) → fmap i ≡ Err r → (r.number ≡ 0 → ⊥) × (r ≡ refusal_by r.number)
unfolding fmap fmap_by
refusal_zero i r h =
    let (z, e) = refusal_given (map_of i (map_place i)) (first_failed (fmap_tests i (signatures i))) h in
    rw e (z, refl)

module _ (i : List ℕ) (m : FlashMap) (ok : fmap i ≡ Ok m) where
  -- Exactly one signature stands at a multiple of 64: at the map's place.
  pub only_signature : (q : ℕ) × (map_place i ≡ 64 * q) × (take 8 (drop (map_place i) i) ≡ signature)
      × ((r : ℕ) → take 8 (drop (64 * r) i) ≡ signature → 64 * r ≡ map_place i)
  unfolding signature_at has_signature
  only_signature =
      let e = (accepted i m ok).one in
      let (q, m, y) = signature_sound i 0 (map_place i) (rw e (Memᴰ.head refl)) in
      (q, omega arith, eq_true _ _ y, λ r f. Memᴰ.eq_of_singleton (rw e at (again r f)))
    where
      again : (r : ℕ) → take 8 (drop (64 * r) i) ≡ signature → Memᴰ (64 * r) (signatures_from i 0)
      again r f =
          let z : 0 + 64 * r ≡ 64 * r = zero-add (64 * r) in
          rw z at (signature_complete i r 0 (rw (z, f) (eq_refl signature)))

  -- The map has 1 to 256 areas, and lies in the image.
  pub map_inside : (1 ≤ m.count) × (m.count ≤ 256) × (map_place i + 56 + 42 * m.count ≤ length i)
  map_inside =
      let h = header_passed i (map_place i) (length i) (accepted i m ok).header in
      let e = count_is i m ok in
      (omega (arith, h.some_area), omega (arith, h.no_more), omega (arith, h.within))

  -- Each area lies in the image, and is not empty.
  pub areas_inside : (k : ℕ) → k < m.count → AreaInside (length i) (area_of m k)
  areas_inside k h = rw (area_is i m ok k h) (extent (length i) (nth i k) (each i m ok k h).1)

  -- Each area's name is fit.
  pub names_fit : (k : ℕ) → k < m.count → FitAreaName (area_name_at i (area_of m k).name)
  names_fit k h = rw (area_is i m ok k h) (fit (drop (nth i k).name i) (each i m ok k h).0)

  -- Different areas bear different names.
  pub names_differ : (j k : ℕ) → j < m.count → k < m.count
      → area_name_at i (area_of m j).name ≡ area_name_at i (area_of m k).name → j ≡ k
  names_differ j k f h e = by (dec_lt j k) (dec_lt k j)
    where
      same : area_name_at i (nth i j).name ≡ area_name_at i (nth i k).name
      same = rw (area_is i m ok j f, area_is i m ok k h) at e

      differ : (j k : ℕ) → j < k → k < m.count → area_name_at i (nth i j).name ≡ area_name_at i (nth i k).name → ⊥
      differ j k l h = differing i (nth i j) (nth i k) (two_none unused_area (same_name i) (areas i) (all_tests_pass i m ok).0 j k l (long i m ok k h))

      by : Dec (j < k) → Dec (k < j) → j ≡ k
      by (yes l) d = absurd (differ j k l h same)
      by (no g) (yes l) = absurd (differ k j l f (sym same))
      by (no g) (no o) = omega arith

  -- Any two areas are disjoint, or one holds the other.
  pub disjoint_or_nested : (j k : ℕ) → j < m.count → k < m.count → DisjointOrNested (area_of m j) (area_of m k)
  disjoint_or_nested j k f h = rw (area_is i m ok j f, area_is i m ok k h) (by (dec_lt j k) (dec_lt k j))
    where
      disjoint : (j k : ℕ) → j < k → k < m.count → DisjointOrNested (nth i j) (nth i k)
      disjoint j k l h = uncrossed (nth i j) (nth i k) (two_none unused_area cross (areas i) (all_tests_pass i m ok).1 j k l (long i m ok k h))

      by : Dec (j < k) → Dec (k < j) → DisjointOrNested (nth i j) (nth i k)
      by (yes l) d = disjoint j k l h
      by (no g) (yes l) = flipped (nth i k) (nth i j) (disjoint k j l f)
      by (no g) (no o) = let e : j ≡ k = omega arith in rw e (inr (inl (omega arith, omega arith)))

  -- An area is named FMAP and holds the whole map.
  pub map-area : (k : ℕ) × (k < m.count) × FmapAreaContains i (map_place i) (map_end i (map_place i)) (area_of m k)
  map-area =
      let (k, h, y) = any_some unused_area (contains_map i (map_place i) (map_end i (map_place i))) (areas i) (all_tests_pass i m ok).2 in
      let l : k < m.count = omega (arith, count_is i m ok, areas_length i (nareas i (map_place i)) (map_place i + 56), h) in
      (k, l, rw (area_is i m ok k l) (fmap-area i (map_place i) (map_end i (map_place i)) (nth i k) y))

  -- Past the count every record is zero.
  pub unused_zero : (k : ℕ) → m.count ≤ k → area_of m k ≡ unused_area
  unused_zero = area_past i m ok

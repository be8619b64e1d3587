-- Laws of what the reader answers, by the parts of the tests.
use Prim.Native.Nat.{ℕ, ◌+◌, ◌≤◌}
use native.Mathlib.Omega.{arith}
use mathlib.Core.Path.{◌≡◌, refl, sym, ◌∙◌}
use mathlib.Core.Bool.{true, false}
use mathlib.Core.List.{List, [], ◌∷◌, ◌++◌}
use lib.ListN.{length, get_or}
use lib.Dec.{leb}
use borrow.Author.Tests.{leb-true, lt-leb, le-leb}
use Rattle.std.proofs.Common.{Ok, Err}
use Rattle.bytes_read.proofs.Passing.{passes}
use Rattle.bytes_read.specs.Lists.{padded}
use Rattle.region.specs.Refusals.{Test, test, first_failed, length_fits}
use Rattle.region.specs.Region.{refusal_by, unless_refused}
use Rattle.region.proofs.Orders.{numbered, all_passed, first_both}
use Rattle.cbfs_types.specs.declared.Area.{Area}
use Rattle.cbfs_types.specs.declared.Refusal.{Refusal}
use Rattle.fmap_area.specs.Area.{unused_area, area_tests}
use Rattle.fmap_signature.specs.Signatures.{signatures, signature_answer}
use Rattle.fmap.specs.Fmap.{minor, base, nareas, map_end, areas_at, areas_of, area_limit, count_fits, signature_tests, map_header_tests, each_area_tests}
use Rattle.fmap.specs.Fmap.{all_areas_tests, map_tests, fmap_tests, map_of, map_at, fmap_by, fmap}
use Rattle.region.proofs.Answered.{value_given, part_refused, part_passed, refused_too, passed_too}

-- A header that is not refused: the map fits the bytes, and has 1 to 256 areas.

header_numbered : (s : List ℕ) (at l : ℕ) → numbered (map_header_tests s at l) ≡ true
unfolding map_header_tests
header_numbered s at l = refl

pub each_area_numbered : (s : List ℕ) (l : ℕ) (xs : List Area) → numbered (each_area_tests s l xs) ≡ true
unfolding each_area_tests area_tests
each_area_numbered s l [] = refl
each_area_numbered s l (a ∷ xs) = each_area_numbered s l xs

pub record HeaderPassed (s : List ℕ) (at l : ℕ) : Type 0 where
  pub within : map_end s at ≤ length s
  pub some_area : 1 ≤ nareas s at
  pub no_more : nareas s at ≤ area_limit

pub header_passed : (s : List ℕ) (at l : ℕ) → first_failed (map_header_tests s at l) ≡ 0 → HeaderPassed s at l
unfolding map_header_tests count_fits
header_passed s at l e = record {
  within = leb-true _ _ (p 0);
  some_area = leb-true 1 (nareas s at) (passes 0 (leb 1 (nareas s at) ∷ leb (nareas s at) area_limit ∷ []) (p 3));
  no_more = leb-true (nareas s at) area_limit (passes 1 (leb 1 (nareas s at) ∷ leb (nareas s at) area_limit ∷ []) (p 3));
}
  where
    p : (k : ℕ) → (get_or (map_header_tests s at l) k (test 1 true)).passed ≡ true
    p = all_passed (map_header_tests s at l) refl e

-- The map at a place, by its three parts: the header, the areas in turn, all areas. Each part that was tried refuses, or it is passed.
module _ (s : List ℕ) (at l : ℕ) where
  -- A map that is not refused passes each part.
  pub not_refused : first_failed (map_tests s at l) ≡ 0 → (first_failed (map_header_tests s at l) ≡ 0)
      × (first_failed (each_area_tests s l (areas_of s at)) ≡ 0) × (first_failed (all_areas_tests s at (areas_of s at)) ≡ 0)
  unfolding map_tests
  not_refused e =
      let t = each_area_tests s l (areas_of s at) in
      let u = all_areas_tests s at (areas_of s at) in
      let a = first_both (map_header_tests s at l) (t ++ u) (header_numbered s at l) e in
      let b = first_both t u (each_area_numbered s l (areas_of s at)) a.1 in
      (a.0, b.0, b.1)

  pub header_refused : {r : Refusal} → Err r ≡ unless_refused (first_failed (map_header_tests s at l)) (tt {0}) → map_at s at l ≡ Err r
  unfolding map_at map_tests
  header_refused e =
      sym (part_refused tt (map_of s at) (map_header_tests s at l) (each_area_tests s l (areas_of s at) ++ all_areas_tests s at (areas_of s at)) e)

  module _ {z : Unit {0}} (h : Ok z ≡ unless_refused (first_failed (map_header_tests s at l)) (tt {0})) where
    pub header_is : HeaderPassed s at l
    header_is = header_passed s at l (value_given tt _ (sym h)).0

    -- Of n areas.
    module _ {n : ℕ} (c : n ≡ nareas s at) where
      abbrev each : List Test
      each = each_area_tests s l (areas_at s n (at + 56))

      abbrev all : List Test
      all = all_areas_tests s at (areas_at s n (at + 56))

      after : map_at s at l ≡ unless_refused (first_failed (each ++ all)) (map_of s at)
      unfolding map_at map_tests
      after = rw c (part_passed tt (map_of s at) (map_header_tests s at l) (each_area_tests s l (areas_of s at) ++ all_areas_tests s at (areas_of s at))
          (header_numbered s at l) h)

      pub each_area_refused : {r : Refusal} → Err r ≡ unless_refused (first_failed each) (tt {0}) → map_at s at l ≡ Err r
      each_area_refused e = after ∙ sym (part_refused tt (map_of s at) each all e)

      module _ {y : Unit {0}} (k : Ok y ≡ unless_refused (first_failed each) (tt {0})) where
        then : map_at s at l ≡ unless_refused (first_failed all) (map_of s at)
        then = after ∙ part_passed tt (map_of s at) each all (each_area_numbered s l (areas_at s n (at + 56))) k

        pub all_areas_refused : {r : Refusal} → Err r ≡ unless_refused (first_failed all) (tt {0}) → map_at s at l ≡ Err r
        all_areas_refused e = then ∙ sym (refused_too tt (map_of s at) (first_failed all) e)

        pub map_read : {x : Unit {0}} → Ok x ≡ unless_refused (first_failed all) (tt {0}) → {m b : ℕ} → m ≡ minor s at → b ≡ base s at
            → map_at s at l ≡ Ok (record { minor = m; base = b; count = n; areas = padded area_limit unused_area (areas_at s n (at + 56)) })
        unfolding map_of
        map_read e f g = then ∙ sym (passed_too tt (map_of s at) (first_failed all) e) ∙ rw (c, f, g)

-- What is answered for an image: its length, its signatures, and the map at the only one.

pub unfit_length : (i : List ℕ) → length_fits i ≡ false → fmap i ≡ Err (refusal_by 1)
unfolding fmap fmap_by fmap_tests
unfit_length i h = rw h

module _ (i : List ℕ) (h : length_fits i ≡ true) where
  pub not_one_signature : {r : Refusal} → Err r ≡ signature_answer (signatures i) → fmap i ≡ Err r
  unfolding fmap fmap_by fmap_tests signature_tests
  not_one_signature {r} e = go (signatures i) e
    where
      go : (ps : List ℕ) → Err r ≡ signature_answer ps → fmap_by i ps ≡ Err r
      go [] f = let z : r ≡ refusal_by 27 = cc in rw (h, z)
      go (p ∷ []) f = absurd (cc)
      go (p ∷ q ∷ ps) f =
          let z : r ≡ refusal_by 28 = cc in
          rw (h, z, le-leb 1 (length (p ∷ q ∷ ps)) (omega arith), lt-leb (length (p ∷ q ∷ ps)) 1 (omega arith))

  pub one_signature : {p : ℕ} → Ok p ≡ signature_answer (signatures i) → fmap i ≡ map_at i p (length i)
  unfolding fmap fmap_by fmap_tests signature_tests map_at
  one_signature {p} e = go (signatures i) e
    where
      go : (ps : List ℕ) → Ok p ≡ signature_answer ps → fmap_by i ps ≡ map_at i p (length i)
      go [] f = absurd (cc)
      go (q ∷ []) f = let z : q ≡ p = cc in rw (h, z)
      go (q ∷ o ∷ ps) f = absurd (cc)

-- What the tests of an accepted map say, each as a fact.
use Prim.Native.Nat.{ℕ, zero, suc, ◌+◌, ◌≤◌, ◌<◌}
use native.Mathlib.Omega.{arith}
use mathlib.Core.Path.{◌≡◌, refl, sym, ap, ◌∙◌}
use mathlib.Core.Bool.{true}
use mathlib.Core.List.{List, [], ◌∷◌}
use lib.ListN.{length, drop, get_or}
use borrow.Author.Tests.{leb-true}
use Rattle.std.proofs.Common.{Ok}
use Rattle.bytes_read.specs.Lists.{any, no_two}
use Rattle.bytes_read.proofs.Padding.{padded_nth, padded_past}
use Rattle.region.specs.Refusals.{Test, test, first_failed, length_fits}
use Rattle.region.proofs.Orders.{all_passed, first_both}
use Rattle.cbfs_types.specs.declared.Area.{Area}
use Rattle.fmap_area.specs.Names.{area_name_fits}
use Rattle.fmap_area.specs.Area.{unused_area, same_name, extent_fits, cross, contains_map, area_tests}
use Rattle.fmap_signature.specs.Signatures.{signatures, first_or}
use Rattle.fmap.specs.Fmap.{map_place, area_of, nareas, map_end, areas_of}
use Rattle.fmap.specs.Fmap.{area_limit, signature_tests, map_header_tests, each_area_tests, all_areas_tests, map_tests}
use Rattle.fmap.specs.Fmap.{fmap_tests, map_of, fmap_by, fmap}
use Rattle.cbfs_types.specs.declared.FlashMap.{FlashMap}
use Rattle.fmap.proofs.Counting.{areas_length}
use Rattle.region.proofs.Answered.{value_given}
use Rattle.fmap.proofs.Reading.{not_refused}

-- What the tests say of an image whose map m is read.
pub record Accepted (i : List ℕ) (m : FlashMap) : Type 0 where
  pub one : signatures i ≡ map_place i ∷ []
  pub header : first_failed (map_header_tests i (map_place i) (length i)) ≡ 0
  pub area_tests_lem : first_failed (each_area_tests i (length i) (areas_of i (map_place i))) ≡ 0
  pub all_tests : first_failed (all_areas_tests i (map_place i) (areas_of i (map_place i))) ≡ 0
  pub answer : m ≡ map_of i (map_place i)

pub singleton : (ps : List ℕ) → 1 ≤ length ps → length ps ≤ 1 → ps ≡ first_or 0 ps ∷ []
singleton [] h k = absurd (omega arith)
singleton (p ∷ []) h k = refl
singleton (p ∷ q ∷ ps) h k = absurd (omega arith)

pub accepted : (i : List ℕ) (m : FlashMap) → fmap i ≡ Ok m → Accepted i m
unfolding fmap fmap_by fmap_tests signature_tests
accepted i m h = record {
  one = singleton (signatures i) (leb-true _ _ (p 1)) (leb-true _ _ (p 2));
  header = parts.0;
  area_tests_lem = parts.1;
  all_tests = parts.2;
  answer = sym zero.1;
}
  where
    zero : (first_failed (fmap_tests i (signatures i)) ≡ 0) × (map_of i (map_place i) ≡ m)
    zero = value_given (map_of i (map_place i)) (first_failed (fmap_tests i (signatures i))) h

    before : List Test
    before = test 1 (length_fits i) ∷ signature_tests (signatures i)

    both : (first_failed before ≡ 0) × (first_failed (map_tests i (map_place i) (length i)) ≡ 0)
    both = first_both before (map_tests i (map_place i) (length i)) refl zero.0

    p : (k : ℕ) → (get_or before k (test 1 true)).passed ≡ true
    p = all_passed before refl both.0

    parts : (first_failed (map_header_tests i (map_place i) (length i)) ≡ 0) × (first_failed (each_area_tests i (length i) (areas_of i (map_place i))) ≡ 0)
        × (first_failed (all_areas_tests i (map_place i) (areas_of i (map_place i))) ≡ 0)
    parts = not_refused i (map_place i) (length i) both.1

pub each_area : (s : List ℕ) (l : ℕ) (xs : List Area) → first_failed (each_area_tests s l xs) ≡ 0 → (k : ℕ) → k < length xs
    → (area_name_fits (drop (get_or xs k unused_area).name s) ≡ true) × (extent_fits l (get_or xs k unused_area) ≡ true)
unfolding each_area_tests area_tests
each_area s l [] e k h = absurd (omega arith)
each_area s l (a ∷ xs) e zero h = let b = first_both (area_tests s l a) (each_area_tests s l xs) refl e in
    (all_passed (area_tests s l a) refl b.0 0, all_passed (area_tests s l a) refl b.0 1)
each_area s l (a ∷ xs) e (suc k) h = each_area s l xs (first_both (area_tests s l a) (each_area_tests s l xs) refl e).1 k (omega arith)

abbrev pub areas : List ℕ → List Area
areas i = areas_of i (map_place i)

abbrev pub nth : List ℕ → ℕ → Area
nth i k = get_or (areas i) k unused_area

module _ (i : List ℕ) (m : FlashMap) (ok : fmap i ≡ Ok m) where
  pub count_is : m.count ≡ nareas i (map_place i)
  unfolding map_of
  count_is = ap (λ (x : FlashMap). x.count) (accepted i m ok).answer

  pub long : (k : ℕ) → k < m.count → k < length (areas i)
  long k h = omega (arith, count_is, areas_length i (nareas i (map_place i)) (map_place i + 56))

  pub area_is : (k : ℕ) → k < m.count → area_of m k ≡ nth i k
  unfolding map_of
  area_is k h = ap (λ (x : FlashMap). area_of x k) (accepted i m ok).answer ∙ padded_nth area_limit unused_area (areas i) k (long k h)

  pub area_past : (k : ℕ) → m.count ≤ k → area_of m k ≡ unused_area
  unfolding map_of
  area_past k h =
      ap (λ (x : FlashMap). area_of x k) (accepted i m ok).answer
      ∙ padded_past area_limit unused_area (areas i) k (omega (arith, count_is, areas_length i (nareas i (map_place i)) (map_place i + 56)))

  pub each : (k : ℕ) → k < m.count → (area_name_fits (drop (nth i k).name i) ≡ true) × (extent_fits (length i) (nth i k) ≡ true)
  each k h = each_area i (length i) (areas i) (accepted i m ok).area_tests_lem k (long k h)

  pub all_tests_pass : (no_two (same_name i) (areas i) ≡ true) × (no_two cross (areas i) ≡ true)
      × (any (contains_map i (map_place i) (map_end i (map_place i))) (areas i) ≡ true)
  unfolding all_areas_tests
  all_tests_pass = (p 0, p 1, p 2)
    where
      p : (k : ℕ) → (get_or (all_areas_tests i (map_place i) (areas i)) k (test 1 true)).passed ≡ true
      p = all_passed (all_areas_tests i (map_place i) (areas i)) refl (accepted i m ok).all_tests

-- What the tests on an area, or on two, say: each as a fact.
use Prim.Native.Nat.{ℕ}
use mathlib.Core.Path.{◌≡◌, refl, sym, ◌∙◌}
use mathlib.Core.Logic.{inl, inr}
use mathlib.Core.Bool.{Bool, true, false, not, ◌||◌, true≢false}
use mathlib.Core.List.{List, [], ◌∷◌}
use lib.ListN.{length, get_or}
use lib.Dec.{leb}
use borrow.Author.Tests.{leb-true}
use Rattle.bytes_read.specs.Tests.{all_true}
use Rattle.bytes_read.proofs.Passing.{passes}
use Rattle.bytes_read.proofs.SameBytes.{eq_true, eq_refl}
use Rattle.bytes_read.specs.Printable.{printable_prefix}
use Rattle.bytes_read.proofs.Printable.{all_prefix}
use Rattle.fmap_area.specs.Names.{FitAreaName, area_name_tests, area_name_fits, area_name_of, area_name_at}
use Rattle.fmap_area.specs.Area.{AreaInside, Disjoint, Contains, DisjointOrNested, FmapAreaContains, end_of, area_has_name, same_name, extent_fits, disjoint}
use Rattle.fmap_area.specs.Area.{contains, cross, fmap_area_tests, contains_map}
use Rattle.cbfs_types.specs.declared.Area.{Area}

pub extent : (l : ℕ) (a : Area) → extent_fits l a ≡ true → AreaInside l a
unfolding extent_fits
extent l a e = record { some_byte = leb-true 1 a.size (p 0); within = leb-true (end_of a) l (p 1) }
  where
    p : (k : ℕ) → get_or (leb 1 a.size ∷ leb (end_of a) l ∷ []) k true ≡ true
    p k = passes k (leb 1 a.size ∷ leb (end_of a) l ∷ []) e

pub fit : (f : List ℕ) → area_name_fits f ≡ true → FitAreaName (area_name_of f)
unfolding area_name_of area_name_fits area_name_tests
fit f e =
    rw e (record { some_byte = leb-true 1 (length (printable_prefix f)) (p 0); most = leb-true (length (printable_prefix f)) 31 (p 1); letters = all_prefix f })
  where
    p : (k : ℕ) → get_or (area_name_tests f (printable_prefix f)) k true ≡ true
    p k = passes k (area_name_tests f (printable_prefix f)) e

-- Two areas.

pub flipped : (a b : Area) → DisjointOrNested a b → DisjointOrNested b a
flipped a b (inl (inl h)) = inl (inr h)
flipped a b (inl (inr h)) = inl (inl h)
flipped a b (inr (inl h)) = inr (inr h)
flipped a b (inr (inr h)) = inr (inl h)

pub no_byte_shared : (a b : Area) → disjoint a b ≡ true → Disjoint a b
unfolding disjoint
no_byte_shared a b e = go (leb (end_of a) b.offset) refl e
  where
    go : (t : Bool) → leb (end_of a) b.offset ≡ t → t || leb (end_of b) a.offset ≡ true → Disjoint a b
    go true q f = inl (leb-true _ _ q)
    go false q f = inr (leb-true _ _ f)

pub within : (a b : Area) → contains a b ≡ true → Contains a b
unfolding contains
within a b e = (leb-true a.offset b.offset (p 0), leb-true (end_of b) (end_of a) (p 1))
  where
    p : (k : ℕ) → get_or (leb a.offset b.offset ∷ leb (end_of b) (end_of a) ∷ []) k true ≡ true
    p k = passes k (leb a.offset b.offset ∷ leb (end_of b) (end_of a) ∷ []) e

pub uncrossed : (a b : Area) → cross a b ≡ false → DisjointOrNested a b
unfolding cross
uncrossed a b e = go (disjoint a b) refl (contains a b) refl (contains b a) refl e
  where
    go : (x : Bool) → disjoint a b ≡ x → (y : Bool) → contains a b ≡ y → (z : Bool) → contains b a ≡ z → all_true (not x ∷ not y ∷ not z ∷ []) ≡ false
        → DisjointOrNested a b
    go true p y q z r f = inl (no_byte_shared a b p)
    go false p true q z r f = inr (inl (within a b q))
    go false p false q true r f = inr (inr (within b a r))
    go false p false q false r f = absurd (true≢false f)

pub fmap-area : (s : List ℕ) (at e : ℕ) (a : Area) → contains_map s at e a ≡ true → FmapAreaContains s at e a
unfolding contains_map fmap_area_tests area_has_name
fmap-area s at e a h = record { name = eq_true _ _ (p 0); from = leb-true _ _ (p 1); end = leb-true _ _ (p 2) }
  where
    p : (k : ℕ) → get_or (fmap_area_tests s at e a) k true ≡ true
    p k = passes k (fmap_area_tests s at e a) h

-- Areas that do not have the same name.
pub differing : (s : List ℕ) (a b : Area) → same_name s a b ≡ false → area_name_at s a.name ≡ area_name_at s b.name → ⊥
unfolding area_has_name
differing s a b e q = true≢false (sym (rw q (eq_refl (area_name_at s b.name))) ∙ e)

-- Laws of the areas of a map, as they are taken one by one, and of their 256 records.
use Prim.Native.Nat.{ℕ, zero, suc, ◌+◌, ◌*◌, ◌-◌, ◌≤◌, ◌<◌}
use native.Mathlib.Omega.{arith}
use mathlib.Core.Path.{◌≡◌, refl, sym, ap, ◌∙◌}
use mathlib.Core.Bool.{Bool, true, false, ◌||◌}
use mathlib.Core.List.{List, [], ◌∷◌, ◌++◌}
use lib.ListN.{length, set, replicate}
use Rattle.std.specs.List.{list_any}
use Rattle.bytes_read.specs.Lists.{any, no_two, padded}
use Rattle.bytes_read.proofs.Padding.{padded_none, padded-set}
use Rattle.cbfs_types.specs.declared.Area.{Area}
use Rattle.fmap_area.specs.Area.{area_at, unused_area, area_in}
use Rattle.fmap_area.proofs.Records.{area_in_lem}
use Rattle.fmap.specs.Fmap.{areas_at, area_limit}

-- No area is left; or the first of k areas that lie in the bytes was read at p, as a.

pub areas_none : (s : List ℕ) (k p : ℕ) → k ≡ 0 → areas_at s k p ≡ []
unfolding areas_at
areas_none s k p e = rw e

areas_suc : (s : List ℕ) (j p : ℕ) → areas_at s (suc j) p ≡ area_at s p ∷ areas_at s j (p + 42)
unfolding areas_at
areas_suc s j p = refl

pub areas_next : (s : List ℕ) (k p : ℕ) (a : Area) → (k ≡ 0 → ⊥) → p + 42 * k ≤ length s → a ≡ area_in s p → areas_at s k p ≡ a ∷ areas_at s (k - 1) (p + 42)
areas_next s k p a h w e = go (k - 1) (omega arith)
  where
    go : (j : ℕ) → k ≡ suc j → areas_at s k p ≡ a ∷ areas_at s j (p + 42)
    go j q = rw (q, e, area_in_lem s p (omega arith)) (areas_suc s j p)

-- How many there are.
pub areas_length : (s : List ℕ) (k p : ℕ) → length (areas_at s k p) ≡ k
unfolding areas_at
areas_length s zero p = refl
areas_length s (suc k) p = ap suc (areas_length s k (p + 42))

-- A test that holds of some element, as the library has it.
pub any_is : {A : Type 0} (f : A → Bool) (xs : List A) → list_any f xs ≡ any f xs
any_is f [] = refl
any_is f (x ∷ xs) = ap (λ (b : Bool). f x || b) (any_is f xs)

-- A relation that holds of no two elements, of which x is the first.
module _ {A : Type 0} (t : A → A → Bool) {l xs : List A} {x : A} (e : l ≡ x ∷ xs) {b : Bool} (f : b ≡ any (t x) xs) where
  pub two_here : b ≡ true → no_two t l ≡ false
  unfolding no_two
  two_here y = rw (e, ← f, y)

  pub two_not : b ≡ false → no_two t l ≡ no_two t xs
  unfolding no_two
  two_not y = rw (e, ← f, y)

pub two_end : {A : Type 0} (t : A → A → Bool) {l : List A} → l ≡ [] → no_two t l ≡ true
unfolding no_two
two_end t e = rw e

-- One more at the end.
areas_last : (s : List ℕ) (k p : ℕ) → areas_at s (suc k) p ≡ areas_at s k p ++ (area_at s (p + 42 * k) ∷ [])
unfolding areas_at
areas_last s zero p = let e : p ≡ p + 42 * 0 = omega arith in ap (λ (q : ℕ). area_at s q ∷ []) e
areas_last s (suc k) p =
    let e : p + 42 + 42 * k ≡ p + 42 * suc k = omega arith in
    ap (λ (l : List Area). area_at s p ∷ l) (areas_last s k (p + 42) ∙ ap (λ (q : ℕ). areas_at s k (p + 42) ++ (area_at s q ∷ [])) e)

-- The records, of which the first i are stored.

pub padded_start : (s : List ℕ) (from : ℕ) {u : Area} → u ≡ unused_area → replicate area_limit u ≡ padded area_limit unused_area (areas_at s 0 from)
padded_start s from e = padded_none area_limit unused_area e ∙ ap (padded area_limit unused_area) (sym (areas_none s 0 from refl))

pub padded-next : (s : List ℕ) (from i p : ℕ) {l : List Area} {a : Area} → i < area_limit → p ≡ from + 42 * i
    → l ≡ padded area_limit unused_area (areas_at s i from)
    → a ≡ area_in s p → p + 42 ≤ length s
    → set l i a ≡ padded area_limit unused_area (areas_at s (i + 1) from)
padded-next s from i p {l} {a} h q e f w =
    let n : length (areas_at s i from) ≡ i = areas_length s i from in
    let o : i + 1 ≡ suc i = omega arith in
    rw (e, f, area_in_lem s p w, q, o, areas_last s i from)
    (rw n at (padded-set area_limit unused_area (areas_at s i from) (area_at s (from + 42 * i)) (omega arith)))

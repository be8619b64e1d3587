-- What may be taken at places, and the places of a region.
use Prim.Native.Nat.{ℕ, suc, ◌+◌, ◌*◌, ◌≤◌, ◌<◌}
use native.Mathlib.Nat.{lt_of_mul-lt-mul_right, mul-le-mul_right}
use native.Mathlib.Omega.{arith}
use mathlib.Core.Path.{◌≡◌, refl, sym, ap, ◌∙◌}
use mathlib.Core.List.Memᴰ
use mathlib.Core.List.{List, [], ◌∷◌, Memᴰ}
use mathlib.Core.Logic.{◌⊎◌, inl, inr}
use mathlib.Core.Bool.{Bool, true, false}
use Rattle.std.specs.Prelude.{Option, Some, None}
use lib.ListN.{length}
use Rattle.component.specs.Component.{Component}
use Rattle.bytes_read.specs.Lists.{filter}
use Rattle.walk.specs.Walk.{Entry, Pick, place_count_below, all_places, prepend, picked, Place}
use Rattle.walk.proofs.Places.{below_ge, below_lt, mem_places, places_mem}

pub mem_picked : (pick : Pick) (ps : List ℕ) (t : Entry) → Memᴰ t (picked pick ps) → Memᴰ t.place ps × (pick t.place ≡ Some t.component)
unfolding picked prepend
mem_picked pick [] t m = absurd (Memᴰ.not-nil m)
mem_picked pick (p ∷ ps) t m = go (pick p) refl m (λ m'. mem_picked pick ps t m')
  where
    Goal : Type 0
    Goal = Memᴰ t.place (p ∷ ps) × (pick t.place ≡ Some t.component)

    later : Memᴰ t.place ps × (pick t.place ≡ Some t.component) → Goal
    later (m', e) = (Memᴰ.tail m', e)

    go : (o : Option Component) → pick p ≡ o → Memᴰ t (prepend p o (picked pick ps))
        → (Memᴰ t (picked pick ps) → Memᴰ t.place ps × (pick t.place ≡ Some t.component)) → Goal
    go None q m' ih = later (ih m')
    go (Some c) q m' ih = by (Memᴰ.cases_cons m')
      where
        by : (t ≡ record { place = p; component = c }) ⊎ Memᴰ t (picked pick ps) → Goal
        by (inl e) = (Memᴰ.head (ap (λ (u : Entry). u.place) e), rw e q)
        by (inr n) = later (ih n)

pub picked_mem : (pick : Pick) (ps : List ℕ) (p : ℕ) (c : Component) → Memᴰ p ps → pick p ≡ Some c
    → Memᴰ (record { place = p; component = c }) (picked pick ps)
unfolding picked prepend
picked_mem pick [] p c m e = absurd (Memᴰ.not-nil m)
picked_mem pick (x ∷ xs) p c m e = go (Memᴰ.cases_cons m) (λ m'. picked_mem pick xs p c m' e)
  where
    T : Entry
    T = record { place = p; component = c }

    later : (o : Option Component) → Memᴰ T (picked pick xs) → Memᴰ T (prepend x o (picked pick xs))
    later None n = n
    later (Some g) n = Memᴰ.tail n

    go : (p ≡ x) ⊎ Memᴰ p xs → (Memᴰ p xs → Memᴰ T (picked pick xs)) → Memᴰ T (prepend x (pick x) (picked pick xs))
    go (inl q) ih = rw (← q, e) (Memᴰ.head refl)
    go (inr n) ih = later (pick x) (ih n)

-- All places of the region: those below its end, and no others.
module _ (r : List ℕ) (a : ℕ) (pos : 0 < a) where
  pub listed_place : (p : ℕ) → Memᴰ p (all_places r a) → Place a p × (p < length r)
  listed_place p m =
      let (i, lt, e) = mem_places a (place_count_below a (length r)) 0 p m in
      let k : suc i * a ≤ place_count_below a (length r) * a = mul-le-mul_right {m = suc i} {n = place_count_below a (length r)} a lt in
      ((i, omega arith), omega (arith, below_lt a pos (length r)))

  pub place_listed : (p : ℕ) → Place a p → p < length r → Memᴰ p (all_places r a)
  place_listed p (i, e) h =
      let k : i < place_count_below a (length r) =
      lt_of_mul-lt-mul_right a {m = i} {n = place_count_below a (length r)} (omega (arith, below_ge a pos (length r))) in
      Memᴰ.cast {b = 0 + i * a} (omega arith) (places_mem a (place_count_below a (length r)) 0 i k)

filter_out : (test : ℕ → Bool) (p : ℕ) (o : Option Component) (l : List Entry) → test p ≡ false
    → filter (λ t. test t.place) (prepend p o l) ≡ filter (λ t. test t.place) l
unfolding filter prepend
filter_out test p None l e = refl
filter_out test p (Some c) l e = rw e

filter_in : (test : ℕ → Bool) (p : ℕ) (o : Option Component) (l : List Entry) → test p ≡ true
    → filter (λ t. test t.place) (prepend p o l) ≡ prepend p o (filter (λ t. test t.place) l)
unfolding filter prepend
filter_in test p None l e = refl
filter_in test p (Some c) l e = rw e

-- Picks that agree where a test of the place holds give the same, as far as the test holds.
pub picked-filter : (test : ℕ → Bool) (pick pick' : Pick) (ps : List ℕ) → ((p : ℕ) → Memᴰ p ps → test p ≡ true → pick' p ≡ pick p)
    → filter (λ t. test t.place) (picked pick' ps) ≡ filter (λ t. test t.place) (picked pick ps)
unfolding picked
picked-filter test pick pick' [] h = refl
picked-filter test pick pick' (p ∷ ps) h = go (test p) refl (picked-filter test pick pick' ps (λ x m e. h x (Memᴰ.tail m) e))
  where
    go : (b : Bool) → test p ≡ b → filter (λ t. test t.place) (picked pick' ps) ≡ filter (λ t. test t.place) (picked pick ps)
        → filter (λ t. test t.place) (prepend p (pick' p) (picked pick' ps)) ≡ filter (λ t. test t.place) (prepend p (pick p) (picked pick ps))
    go true e ih = rw (h p (Memᴰ.head refl) e, filter_in test p (pick p) (picked pick' ps) e, filter_in test p (pick p) (picked pick ps) e, ih)
    go false e ih = filter_out test p (pick' p) (picked pick' ps) e ∙ ih ∙ sym (filter_out test p (pick p) (picked pick ps) e)

-- Picks that agree at the places take the same there.
pub picked_same : (pick pick' : Pick) (ps : List ℕ) → ((p : ℕ) → Memᴰ p ps → pick' p ≡ pick p) → picked pick' ps ≡ picked pick ps
unfolding picked
picked_same pick pick' [] h = refl
picked_same pick pick' (p ∷ ps) h = rw (h p (Memᴰ.head refl), picked_same pick pick' ps (λ x m. h x (Memᴰ.tail m)))

-- An image and its region's bytes: what the one says of the other.
use Rattle.std.specs.Prelude.{Ok}
use Prim.Native.Nat.{ℕ, ◌+◌, ◌-◌, ◌<◌}
use native.Mathlib.Nat.{add-sub_cancel_left}
use native.Mathlib.Omega.{arith}
use native.Mathlib.Decide.{dec_lt}
use mathlib.Core.Path.{◌≡◌, refl, sym, ap, subst, ◌∙◌}
use mathlib.Core.List.Memᴰ
use mathlib.Core.List.{List, [], ◌∷◌, map, Memᴰ}
use mathlib.Core.Logic.{◌⊎◌, inl, inr}
use mathlib.Core.Bool.{Bool, true, false, cond}
use lib.ListN.{length, get_or, drop, length-take, length-drop, get_or-eq_default}
use lib.Seq.{get_or-take, get_or-drop}
use borrow.Author.Tests.{le-leb, lt-ltb}
use Rattle.bytes_read.specs.Lists.{any, filter}
use Rattle.walk.specs.Walk.{Entry, next_place}
use Rattle.walk_lookup.specs.Lookup.{lookup_refused, lookup_gives, lookup_of}
use Rattle.strict_rules.specs.Slots.{in_slots}
use Rattle.region.specs.Region.{region_bytes}
use Rattle.cbfs_types.specs.declared.Region.{Region}
use Rattle.region.proofs.Regions.{bytes_fit}
use Rattle.master_header.specs.Master.{master}
use Rattle.master_header.proofs.Facts.{Known, known}
use Rattle.region_read.specs.RegionRead.{taken_in}
use Rattle.image_claims.specs.Corruption.{placed, region_listing, entries, LookupGives, LookupRefuses, in_image_slots}

-- Lists through a map.

pub mem_map : {h : Entry → Entry} (l : List Entry) (y : Entry) → Memᴰ y (map h l) → (x : Entry) × Memᴰ x l × (y ≡ h x)
mem_map [] y m = absurd (Memᴰ.not-nil m)
mem_map {h} (x ∷ l) y m = go (Memᴰ.cases_cons m) (λ n. mem_map l y n)
  where
    go : (y ≡ h x) ⊎ Memᴰ y (map h l) → (Memᴰ y (map h l) → (z : Entry) × Memᴰ z l × (y ≡ h z)) → (z : Entry) × Memᴰ z (x ∷ l) × (y ≡ h z)
    go (inl e) ih = (x, Memᴰ.head refl, e)
    go (inr n) ih = let (z, k, e) = ih n in (z, Memᴰ.tail k, e)

pub map_mem : (h : Entry → Entry) (l : List Entry) (x : Entry) → Memᴰ x l → Memᴰ (h x) (map h l)
map_mem h [] x m = absurd (Memᴰ.not-nil m)
map_mem h (z ∷ l) x m = go (Memᴰ.cases_cons m) (λ n. map_mem h l x n)
  where
    go : (x ≡ z) ⊎ Memᴰ x l → (Memᴰ x l → Memᴰ (h x) (map h l)) → Memᴰ (h x) (h z ∷ map h l)
    go (inl e) ih = Memᴰ.head {x = h z} (ap h e)
    go (inr n) ih = Memᴰ.tail (ih n)

-- Tests that agree on a list keep the same of it, through a map.
pub filter_map : (f g : Entry → Bool) (h : Entry → Entry) (l : List Entry) → ((x : Entry) → Memᴰ x l → f (h x) ≡ g x)
    → filter f (map h l) ≡ map h (filter g l)
unfolding filter
filter_map f g h [] e = refl
filter_map f g h (x ∷ l) e = go (g x) refl (filter_map f g h l (λ y m. e y (Memᴰ.tail m)))
  where
    go : (b : Bool) → g x ≡ b → filter f (map h l) ≡ map h (filter g l)
        → cond (f (h x)) (h x ∷ filter f (map h l)) (filter f (map h l)) ≡ map h (cond (g x) (x ∷ filter g l) (filter g l))
    go true q ih = rw (e x (Memᴰ.head refl), q, ih)
    go false q ih = rw (e x (Memᴰ.head refl), q, ih)

pub any-map : (f : Entry → Bool) (h : Entry → Entry) (l : List Entry) → ((x : Entry) → f (h x) ≡ f x) → any f (map h l) ≡ any f l
any-map f h [] e = refl
any-map f h (x ∷ l) e = rw (e x, any-map f h l e)

-- An image i that is read, its region g, and images x that are as long.
module _ (i : List ℕ) (g : Region) (read : master i ≡ Ok g) where
  facts : Known i g
  facts = known i g read

  pub bytes_length : (x : List ℕ) → length x ≡ length i → length (region_bytes x g) ≡ g.end - g.start
  bytes_length x e = rw (bytes_fit x g facts.forward (omega (arith, facts.inside)), length-take, length-drop) (omega (arith, facts.inside, facts.forward))

  pub bytes_at : (x : List ℕ) (k : ℕ) → length x ≡ length i → k < g.end - g.start → get_or (region_bytes x g) k 0 ≡ get_or x (g.start + k) 0
  bytes_at x k e h =
      rw (bytes_fit x g facts.forward (omega (arith, facts.inside))) (get_or-take (g.end - g.start) (drop g.start x) k 0 h ∙ get_or-drop g.start x k 0)

  -- In the region a byte lies in a slot of the set as it does in the region's bytes, where the set is identified by places from the region's start.
  pub slot_inner : (set : ℕ → Bool) (x : List ℕ) (k : ℕ) → k < g.end - g.start
      → in_image_slots set x g (g.start + k) ≡ in_slots (λ p. set (g.start + p)) (region_bytes x g) g.align k
  slot_inner set x k h = rw (le-leb g.start (g.start + k) (omega arith), lt-ltb (g.start + k) g.end (omega arith), add-sub_cancel_left g.start k)

  -- Bytes that two images share stand in both regions.
  pub same_bytes : (x y : List ℕ) → length x ≡ length i → length y ≡ length i → (k : ℕ)
      → (k < g.end - g.start → get_or x (g.start + k) 0 ≡ get_or y (g.start + k) 0)
      → get_or (region_bytes x g) k 0 ≡ get_or (region_bytes y g) k 0
  same_bytes x y e f k h = go (dec_lt k (g.end - g.start))
    where
      go : Dec (k < g.end - g.start) → get_or (region_bytes x g) k 0 ≡ get_or (region_bytes y g) k 0
      go (yes l) = bytes_at x k e l ∙ h l ∙ sym (bytes_at y k f l)
      go (no n) =
          get_or-eq_default (region_bytes x g) 0 (omega (arith, bytes_length x e))
          ∙ sym (get_or-eq_default (region_bytes y g) 0 (omega (arith, bytes_length y f)))

  -- What is reported of a component depends on its image by the region's length alone.
  pub same_taken : (x : List ℕ) → length x ≡ length i → (t : Entry) → taken_in x g t ≡ taken_in i g t
  unfolding next_place
  same_taken x e t = rw (bytes_length x e, bytes_length i refl)

-- Whatever a listed component is, it comes from the region's listing.
pub through : (w : Bool) (g : Region) (x : List ℕ) (P : Entry → Type 0) → ((t : Entry) → Memᴰ t (region_listing w x g) → P (placed g t))
    → (t : Entry) → Memᴰ t (entries w x g) → P t
through w g x P h t m = let (u, n, e) = mem_map (region_listing w x g) t m in subst P (sym e) (h u n)

-- What a lookup of the region's bytes gives, the lookup of the image gives.
pub gives_there : (i : List ℕ) (g : Region) → master i ≡ Ok g → (w : Bool) (t : Entry)
    → lookup_of w (region_bytes i g) g.align t.component.name ≡ lookup_gives t → LookupGives w i (placed g t)
gives_there i g read w t e = record { taken = taken_in i g t; found = rw (read, e); place = refl; header = refl; content = rw (read, e) }

pub refuses_there : (i : List ℕ) (g : Region) → master i ≡ Ok g → (w : Bool) (name : List ℕ) (n : ℕ)
    → lookup_of w (region_bytes i g) g.align name ≡ lookup_refused n → LookupRefuses w i name n
refuses_there i g read w name n e = (rw (read, e), rw (read, e))

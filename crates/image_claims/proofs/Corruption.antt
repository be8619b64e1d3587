-- Demand 3 for a whole image, from the same for a region's bytes.
use Rattle.std.specs.Prelude.{Ok}
use Prim.Native.Nat.{ℕ, ◌+◌, ◌-◌, ◌≤◌, ◌<◌}
use native.Mathlib.Omega.{arith}
use mathlib.Core.Path.{◌≡◌, refl, sym, ap, ◌∙◌}
use mathlib.Core.List.{List, map, Memᴰ}
use mathlib.Core.Bool.{Bool, true, false, cond, not, ◌&&◌}
use lib.ListN.{length}
use lib.Dec.{leb}
use borrow.Author.Tests.{le-ltb}
use Rattle.bytes_read.specs.Lists.{any, filter}
use Rattle.walk.specs.Walk.{Entry, entry_end, guarded_listing}
use Rattle.walk_lookup.specs.Lookup.{lookup_refused, lookup_gives, bears, only_or_refused, guarded_lookup}
use Rattle.walk.proofs.Members.{given}
use Rattle.strict_rules.specs.Strict.{Accepted}
use Rattle.strict_rules.specs.Slots.{in_slots, CorruptedRegion, CorruptionContainedInRegion}
use Rattle.strict_rules.proofs.Accepting.{corrupting, walks_agree}
use Rattle.strict_rules.proofs.Bearing.{lone}
use Rattle.region.specs.Region.{region_bytes}
use Rattle.cbfs_types.specs.declared.Region.{Region}
use Rattle.master_header.specs.Master.{master}
use Rattle.master_header.proofs.Facts.{known, same_region}
use Rattle.image_find.specs.ImageFind.{guarded_find}
use Rattle.image_claims.specs.Corruption.{placed, guarded_entries, LookupGives, LookupRefuses, in_image_slots, listed_from_image_slots, CorruptedImage}
use Rattle.image_claims.specs.Corruption.{named_from_slots}
use Rattle.image_claims.specs.Corruption.{CorruptionContainedInImage}
use Rattle.image_claims.proofs.Images.{map_mem, filter_map, any-map, bytes_length, same_bytes, slot_inner, same_taken, through, gives_there}
use Rattle.image_claims.proofs.Images.{refuses_there}
use Rattle.image_claims.proofs.Theorems.{guarded_listing_is_steps, listed_parts}

-- An image that the strict check accepts, its region, any set of its slots, and the image with these slots corrupted.
module _ (i : List ℕ) (g : Region) (read : master i ≡ Ok g) (acc : Accepted (region_bytes i g) g.align) (set : ℕ → Bool) (i' : List ℕ)
    (sp : CorruptedImage set i g i') where
  -- The set by places from the region's start.
  abbrev inner : ℕ → Bool
  inner p = set (g.start + p)

  corrupted : CorruptedRegion inner (region_bytes i g) g.align (region_bytes i' g)
  corrupted = record {
    same_length = bytes_length i g read i' sp.same_length ∙ sym (bytes_length i g read i refl);
    other_bytes = λ k e. same_bytes i g read i' i sp.same_length refl k (λ h. sp.other_bytes (g.start + k) (slot_inner i g read set i k h ∙ e));
  }

  kept : CorruptionContainedInRegion inner (region_bytes i g) g.align (region_bytes i' g)
  kept = corrupting (region_bytes i g) g.align (omega (arith, (known i g read).least)) acc inner (region_bytes i' g) corrupted

  -- Past the region nothing is corrupted, so the header is read as before.
  outside : (b c : Bool) → b && false && c ≡ false
  outside true c = refl
  outside false c = refl

  read' : master i' ≡ Ok g
  read' = same_region i i' g read sp.same_length (λ j h. sp.other_bytes j (rw (le-ltb j g.end h) (outside (leb g.start j) _)))

  -- An entry of either listing stands in the region, and in a slot of the set as its place in the region does.
  slot_from_start : (x : List ℕ) → length x ≡ length i → (t : Entry) → Memᴰ t (guarded_listing (region_bytes x g) g.align)
      → listed_from_image_slots set i g (placed g t) ≡ in_slots inner (region_bytes i g) g.align t.place
  slot_from_start x e t m = slot_inner i g read set i t.place (omega (arith, (given true (region_bytes x g) g.align t m).inside, bytes_length i g read x e))

  -- No other component of the accepted image has the name.
  alone : (t : Entry) → Memᴰ t (guarded_listing (region_bytes i g) g.align)
      → guarded_lookup (region_bytes i g) g.align t.component.name ≡ lookup_gives t
  unfolding only_or_refused
  alone t m = rw (lone (guarded_listing (region_bytes i g) g.align) (rw (← walks_agree (region_bytes i g) g.align acc) acc.names_are_distinct) t m)

  same_bears : (name : List ℕ) (t : Entry) → bears name (placed g t) ≡ bears name t
  unfolding bears
  same_bears name t = refl

  -- What is listed from a corrupted slot and bears the name, on the image and on its region's bytes.
  same_named : (name : List ℕ) → named_from_slots set i g i' name ≡ any (bears name)
      (filter (λ t. in_slots inner (region_bytes i g) g.align t.place) (guarded_listing (region_bytes i' g) g.align))
  same_named name =
      let k =
      filter_map (listed_from_image_slots set i g) (λ t. in_slots inner (region_bytes i g) g.align t.place) (placed g)
      (guarded_listing (region_bytes i' g) g.align) (slot_from_start i' sp.same_length) in
      ap (any (bears name)) k ∙ any-map (bears name) (placed g)
      (filter (λ t. in_slots inner (region_bytes i g) g.align t.place) (guarded_listing (region_bytes i' g) g.align)) (same_bears name)

  -- What the guarded lookup of an untouched component's name answers on the corrupted region.
  looked : (t : Entry) → Memᴰ t (guarded_listing (region_bytes i g) g.align) → listed_from_image_slots set i g (placed g t) ≡ false
      → guarded_lookup (region_bytes i' g) g.align t.component.name ≡ cond (named_from_slots set i g i' t.component.name) (lookup_refused 11)
      (lookup_gives t)
  looked t m f = kept.lookup t m (sym (slot_from_start i refl t m) ∙ f) ∙ rw (same_named t.component.name)

  as_before : (t : Entry) → Memᴰ t (guarded_listing (region_bytes i g) g.align) → listed_from_image_slots set i g (placed g t) ≡ false
      → named_from_slots set i g i' t.component.name ≡ false
      → LookupGives true i' (placed g t) × (guarded_find i' t.component.name ≡ guarded_find i t.component.name)
  as_before t m f n =
      let l : guarded_lookup (region_bytes i' g) g.align t.component.name ≡ lookup_gives t = rw n at (looked t m f) in
      (gives_there i' g read' true t l, rw (read, read', l, alone t m) (ap Ok (same_taken i g read i' sp.same_length t)))

  -- Demand 3, whole.
  pub corruption_contained : CorruptionContainedInImage set i g i'
  corruption_contained = record {
    steps = guarded_listing_is_steps i' g read';
    read = read';
    parts = listed_parts i' g read' true;
    listed = through true g i (λ t. listed_from_image_slots set i g t ≡ false → Memᴰ t (guarded_entries i' g))
        (λ t m f. map_mem (placed g) (guarded_listing (region_bytes i' g) g.align) t (kept.listed t m (sym (slot_from_start i refl t m) ∙ f)));
    other_components = kept_rest i' sp.same_length ∙ ap (map (placed g)) kept.other_components ∙ sym (kept_rest i refl);
    inside = through true g i' (λ t. listed_from_image_slots set i g t ≡ true → (j : ℕ) → t.place ≤ j → j < entry_end t → in_image_slots set i g j ≡ true)
        (λ t m f j lo hi. within t m f (j - g.start) j (omega arith) lo hi);
    before = through true g i (LookupGives true i) (λ t m. gives_there i g read true t (alone t m));
    lookup = through true g i (λ t. listed_from_image_slots set i g t ≡ false → named_from_slots set i g i' t.component.name ≡ false
        → LookupGives true i' t × (guarded_find i' t.component.name ≡ guarded_find i t.component.name)) as_before;
    refused =
        through true g i (λ t. listed_from_image_slots set i g t ≡ false → named_from_slots set i g i' t.component.name ≡ true
        → LookupRefuses true i' t.component.name 11)
        (λ t m f r. refuses_there i' g read' true t.component.name 11 (rw r at (looked t m f)));
  }
    where
      kept_rest : (x : List ℕ) → length x ≡ length i
          → filter (λ t. not (listed_from_image_slots set i g t)) (guarded_entries x g)
          ≡ map (placed g) (filter (λ t. not (in_slots inner (region_bytes i g) g.align t.place)) (guarded_listing (region_bytes x g) g.align))
      kept_rest x e = filter_map (λ t. not (listed_from_image_slots set i g t)) (λ t. not (in_slots inner (region_bytes i g) g.align t.place)) (placed g)
          (guarded_listing (region_bytes x g) g.align) (λ t m. ap not (slot_from_start x e t m))

      within : (t : Entry) → Memᴰ t (guarded_listing (region_bytes i' g) g.align) → listed_from_image_slots set i g (placed g t) ≡ true → (k j : ℕ)
          → j ≡ g.start + k
          → g.start + t.place ≤ j → j < entry_end (placed g t) → in_image_slots set i g j ≡ true
      within t m f k j e lo hi =
          let v = given true (region_bytes i' g) g.align t m in
          rw e (slot_inner i g read set i k (omega (arith, v.fits, bytes_length i g read i' sp.same_length))
          ∙ kept.inside t m (sym (slot_from_start i' sp.same_length t m) ∙ f) k (omega arith) (omega arith))

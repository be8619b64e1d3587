-- What is proved of whole images, over the definitions that the contracts of the public calls cite.
use Rattle.std.specs.Prelude.{Result, Ok}
use Rattle.cbfs_types.specs.declared.Refusal.{Refusal}
use Prim.Native.Nat.{ℕ, ◌+◌, ◌-◌, ◌*◌, ◌%◌, ◌^◌, ◌≤◌, ◌<◌}
use native.Mathlib.Nat.{mul-mod_left, add-sub_cancel_left}
use native.Mathlib.Omega.{arith}
use mathlib.Core.Path.{◌≡◌, refl, sym, subst, ◌∙◌}
use mathlib.Core.List.{List, map, Memᴰ}
use mathlib.Core.Logic.{◌↔◌}
use mathlib.Core.Bool.{Bool, true, false, true≢false}
use lib.ListN.{drop}
use borrow.Author.Tests.{eq-eqb}
use Rattle.component.specs.Names.{name_fits}
use Rattle.component.proofs.Judging.{judge_name}
use Rattle.walk.specs.Walk.{Entry, place_count_below, plain_listing, guarded_listing, Rounded}
use Rattle.cbfs_types.specs.declared.Taken.{Taken}
use Rattle.walk.proofs.Members.{Given, given}
use Rattle.walk.proofs.Rounding.{rounded}
use Rattle.walk_lookup.specs.Lookup.{LookupResult, lookup_refused, lookup_gives, lookup_of, FirstBearer, OnlyBearer}
use Rattle.walk_lookup.proofs.Bearers.{first_bearer, only_bearer}
use Rattle.region.specs.Region.{region_bytes, and_then}
use Rattle.cbfs_types.specs.declared.Region.{Region}
use Rattle.master_header.specs.Master.{master}
use Rattle.master_header.proofs.Facts.{Known, known, align_power}
use Rattle.edit_rules.specs.Table.{UnfitName}
use Rattle.edit_rules.proofs.Exactly.{name_words}
use Rattle.region_read.specs.RegionRead.{step_in, is_step_start, taken_in, find_answer_in, from_place, Walked}
use Rattle.region_read.proofs.Numbers as Numbers
use Rattle.region_read.proofs.Listing as Listing
use Rattle.image_walk.specs.ImageWalk.{image_step, plain_step, guarded_step}
use Rattle.image_find.specs.ImageFind.{image_find, plain_find, plain_content, guarded_find, guarded_content, image_content}
use Rattle.image_claims.specs.Corruption.{placed, region_listing, entries, PartsAt}
use Rattle.image_claims.proofs.Images.{bytes_length, through}

-- An image i that is read, and its region g.
module _ (i : List ℕ) (g : Region) (read : master i ≡ Ok g) where
  facts : Known i g
  facts = known i g read

  listing_is_steps : (w : Bool) → Walked (image_step w i) g.start (map (taken_in i g) (region_listing w i g))
  listing_is_steps w = subst (λ (m : Result Region Refusal). Walked (λ n. and_then m (λ h. step_in w i h n)) g.start (map (taken_in i g) (region_listing w i g))) (sym read)
      (Listing.listing_walked w i g (omega (arith, facts.least)) facts.forward facts.inside)

  -- The plain listing is the plain steps from offset to none left, each next one from the number that the last one gave.
  pub plain_listing_is_steps : Walked (plain_step i) g.start (map (taken_in i g) (plain_listing (region_bytes i g) g.align))
  plain_listing_is_steps = listing_is_steps false

  -- The guarded listing likewise.
  pub guarded_listing_is_steps : Walked (guarded_step i) g.start (map (taken_in i g) (guarded_listing (region_bytes i g) g.align))
  guarded_listing_is_steps = listing_is_steps true

  -- What a lookup found is a component of its listing, its place counted from the image's start, and its content.
  pub found_entry : (w : Bool) (name : List ℕ) (t : Taken) → image_find w i name ≡ Ok t
      → (e : Entry) × (lookup_of w (region_bytes i g) g.align name ≡ lookup_gives e) × (taken_in i g e ≡ t) × (image_content w i name ≡ e.component.content)
  found_entry w name t f = go (lookup_of w (region_bytes i g) g.align name) refl (rw read at f)
    where
      go : (o : LookupResult) → lookup_of w (region_bytes i g) g.align name ≡ o → find_answer_in i g o ≡ Ok t
          → (e : Entry) × (lookup_of w (region_bytes i g) g.align name ≡ lookup_gives e) × (taken_in i g e ≡ t) × (image_content w i name ≡ e.component.content)
      go (lookup_refused n) q f' = let z : ◌≡◌ {A = ℕ} 0 1 = cc in absurd (omega arith)
      go (lookup_gives e) q f' = (e, q, (cc), rw (read, q))

  -- The plain lookup gives the first bearer in the plain listing.
  pub plain_lookup_gives_first : (name : List ℕ) (t : Taken) → plain_find i name ≡ Ok t
      → (e : Entry) × FirstBearer name (plain_listing (region_bytes i g) g.align) e × (taken_in i g e ≡ t) × (plain_content i name ≡ e.component.content)
  plain_lookup_gives_first name t f = let (e, q, u, c) = found_entry false name t f in
      (e, first_bearer name (plain_listing (region_bytes i g) g.align) e q, u, c)

  -- The guarded lookup gives the only bearer in the guarded listing.
  pub guarded_lookup_gives_only : (name : List ℕ) (t : Taken) → guarded_find i name ≡ Ok t
      → (e : Entry) × OnlyBearer name (guarded_listing (region_bytes i g) g.align) e × (taken_in i g e ≡ t) × (guarded_content i name ≡ e.component.content)
  guarded_lookup_gives_only name t f = let (e, q, u, c) = found_entry true name t f in
      (e, only_bearer name (guarded_listing (region_bytes i g) g.align) e q, u, c)

  -- "An unfit one is simply borne by nobody": no listed component has such a name.
  pub unfit_name_has_no_bearer : (w : Bool) (name : List ℕ) → UnfitName name → (t : Entry) → Memᴰ t (entries w i g) → t.component.name ≡ name → ⊥
  unfit_name_has_no_bearer w name u = through w g i (λ t. t.component.name ≡ name → ⊥)
      (λ t m e. true≢false (sym (fit t m) ∙ (name_words t.component.name).1 (rw e u)))
    where
      fit : (t : Entry) → Memᴰ t (region_listing w i g) → name_fits t.component.name ≡ true
      fit t m = (judge_name (drop t.place (region_bytes i g)) t.component (given w (region_bytes i g) g.align t m).judged).0

  -- Places, counted from the region's start, are document 01's multiples of align in the region.
  pub places_are_multiples : (p : ℕ) → p < g.end → (is_step_start g p ≡ true) ↔ ((g.start ≤ p) × (p % g.align ≡ 0))
  places_are_multiples p h = Numbers.places_are_multiples g p facts.whole h

  -- align is a power of two, and the rounding to places is to its first multiple at or after a number.
  pub rounds_to_places : (k : ℕ) × (g.align ≡ 2 ^ k) × ((n : ℕ) → Rounded g.align n (place_count_below g.align n * g.align))
  rounds_to_places = let (k, e) = align_power i g read in (k, e, λ n. rw e (rounded k n))

  -- The name and the content of a component that a walk lists are those that name_at and content_at give at its place.
  pub listed_parts : (w : Bool) (t : Entry) → Memᴰ t (entries w i g) → PartsAt i t
  unfolding from_place
  listed_parts w = through w g i (PartsAt i) (λ t m. at_place t (given w (region_bytes i g) g.align t m))
    where
      at_place : (t : Entry) → Given (region_bytes i g) g.align t → PartsAt i (placed g t)
      at_place t v = let part = from_start t v in (rw (read, part, v.judged), rw (read, part, v.judged))
        where
          from_start : (t : Entry) → Given (region_bytes i g) g.align t → from_place i g (g.start + t.place) ≡ drop t.place (region_bytes i g)
          from_start t v = rw (fits, add-sub_cancel_left g.start t.place)
            where
              short : t.place < g.end - g.start
              short = omega (arith, v.inside, bytes_length i g read i refl)

              multiple : (g.start + t.place - g.start) % g.align ≡ 0
              multiple = let (k, e) = v.at in rw (add-sub_cancel_left g.start t.place, e) (mul-mod_left k g.align)

              fits : is_step_start g (g.start + t.place) ≡ true
              fits = sym (Numbers.fit_place g (g.start + t.place) (omega arith) (omega (arith, short)) (λ q. omega (arith, short))) ∙ eq-eqb _ 0 multiple

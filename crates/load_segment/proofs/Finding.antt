-- The component that the guarded lookup finds: where its content stands in the image.
use Prim.Native.Nat.{ℕ, ◌+◌, ◌-◌, ◌≤◌}
use native.Mathlib.Omega.{arith}
use mathlib.Core.Path.{◌≡◌, refl, sym, ap, subst, ◌∙◌}
use mathlib.Core.Bool.{Bool, true}
use mathlib.Core.List.{List, [], ◌∷◌, Memᴰ}
use lib.ListN.{length, take, drop, length-drop}
use lib.Seq.{length-take-le, get_or-take, drop-drop}
use Rattle.std.specs.Prelude.{Ok, Err}
use Rattle.bytes_read.specs.Bytes.{part_of}
use Rattle.bytes_read.proofs.Splice.{part_in}
use Rattle.component.proofs.Judging.{judge_name, judge_content, window}
use Rattle.bytes_read.specs.Lists.{filter}
use Rattle.walk.specs.Walk.{Entry, pick_of, listing, guarded_listing}
use Rattle.walk_lookup.specs.Lookup.{LookupResult, lookup_refused, lookup_gives, bears, only_or_refused, lookup_of}
use Rattle.cbfs_types.specs.declared.Taken.{Taken}
use Rattle.walk.proofs.Members.{Given, given}
use Rattle.walk_lookup.proofs.Answers.{lookup_member}
use Rattle.region.specs.Region.{region_bytes, refusal_by}
use Rattle.cbfs_types.specs.declared.Region.{Region}
use Rattle.cbfs_types.specs.declared.Refusal.{Refusal}
use Rattle.region.proofs.Regions.{bytes_fit, bytes_inside}
use Rattle.region_read.specs.RegionRead.{taken_in, find_answer_in, find_in, content_found_in, content_found}
use Rattle.load_segment.specs.LoadSegment.{content_place}
use Rattle.load_segment.specs.Accepted.{ContentInside}

-- A part of the first n bytes is a part of the whole.
pub part_of-first : (l : List ℕ) (n k m : ℕ) → k + m ≤ n → n ≤ length l → take m (drop k (take n l)) ≡ take m (drop k l)
part_of-first l n k m h f = window m k (take n l) l (omega (arith, length-take-le n l f)) (λ j b c. get_or-take n l (k + j) 0 (omega arith))

-- The content of a component that was found is the part of the image that its numbers give.
pub record Located (i s : List ℕ) (t : Taken) : Type 0 where
  pub content : part_of i (content_place t) t.header.len ≡ s
  pub length_is : length s ≡ t.header.len
  pub within : content_place t + t.header.len ≤ length i

pub inside : (i s : List ℕ) (t : Taken) → Located i s t → ContentInside i s t
inside i s t place = record {
  part = subst (λ (n : ℕ). s ≡ part_of i (content_place t) n) (sym place.length_is) (sym place.content);
  within = omega (arith, place.within, place.length_is);
}

-- A part of the region's bytes is a part of the image.
pub in_image : (i : List ℕ) (g : Region) (k m : ℕ) → g.start + length (region_bytes i g) ≡ g.end → g.end ≤ length i → k + m ≤ length (region_bytes i g)
    → take m (drop k (region_bytes i g)) ≡ take m (drop (g.start + k) i)
in_image i g k m e f h =
    let n : ℕ = g.end - g.start in
    let d : n ≤ length (drop g.start i) = rw length-drop (omega arith) in
    ap (λ (x : List ℕ). take m (drop k x)) (bytes_fit i g (omega arith) f)
    ∙ part_of-first (drop g.start i) n k m (omega arith) d
    ∙ ap (λ (x : List ℕ). take m x) (drop-drop k g.start i)

-- So is the content of every component that either walk lists, and its name.
module _ (i : List ℕ) (g : Region) (w : Bool) where
  module _ (e : Entry) (m : Memᴰ e (listing (pick_of w (region_bytes i g) g.align) (region_bytes i g) g.align)) where
    a : Given (region_bytes i g) g.align e
    a = given w (region_bytes i g) g.align e m

    ends : (g.start + length (region_bytes i g) ≡ g.end) × (g.end ≤ length i)
    ends = bytes_inside i g e.place a.inside

    -- n bytes, k bytes after the component's place.
    from_place_lem : (k n : ℕ) → e.place + k + n ≤ length (region_bytes i g)
        → take n (drop k (drop e.place (region_bytes i g))) ≡ take n (drop (g.start + e.place + k) i)
    from_place_lem k n h =
        let p : g.start + (e.place + k) ≡ g.start + e.place + k = omega arith in
        ap (λ (x : List ℕ). take n x) (drop-drop k e.place (region_bytes i g))
        ∙ in_image i g (e.place + k) n ends.0 ends.1 h
        ∙ ap (λ (x : ℕ). take n (drop x i)) p

    pub standing : Located i e.component.content (taken_in i g e)
    standing = let c = judge_content (drop e.place (region_bytes i g)) e.component a.judged in record {
      content = sym (part_in i (g.start + e.place + e.component.offset) e.component.len (omega (arith, ends, a.fits)))
          ∙ sym (c.0 ∙ from_place_lem e.component.offset e.component.len (omega (arith, a.fits)));
      length_is = c.1;
      within = omega (arith, ends, a.fits);
    }

    pub standing_name : e.component.name ≡ take (length e.component.name) (drop (g.start + e.place + 24) i)
    standing_name = let n = judge_name (drop e.place (region_bytes i g)) e.component a.judged in
        sym n.2 ∙ from_place_lem 24 (length e.component.name) (omega (arith, n.1, a.fits))

  pub located : (name : List ℕ) (t : Taken) → find_in w i g name ≡ Ok t → Located i (content_found_in w i g name) t
  located name t f = go (lookup_of w (region_bytes i g) g.align name) refl f
    where
      go : (o : LookupResult) → lookup_of w (region_bytes i g) g.align name ≡ o → find_answer_in i g o ≡ Ok t → Located i (content_found o) t
      go (lookup_refused n) q h = absurd (cc)
      go (lookup_gives e) q h =
          let z : taken_in i g e ≡ t = cc in
          subst (λ (x : Taken). Located i e.component.content x) z (standing e (lookup_member w (region_bytes i g) g.align name e q).0)

-- What a refusal of a plan says: its number is that of a test, and it reports place 0.
abbrev pub Refuses : Refusal → Type 0
Refuses r = (r.number ≡ 0 → ⊥) × (r ≡ refusal_by r.number)

-- So does a refusal of the lookup.
module _ (i : List ℕ) (g : Region) (name : List ℕ) where
  abbrev looked : LookupResult
  looked = lookup_of true (region_bytes i g) g.align name

  pub lookup_refuses : (r : Refusal) → find_in true i g name ≡ Err r → Refuses r
  unfolding only_or_refused
  lookup_refuses r f = go looked refl f
    where
      number : (l : List Entry) (n : ℕ) → only_or_refused l ≡ lookup_refused n → n ≡ 0 → ⊥
      number [] n q z = let y : 10 ≡ n = cc in omega arith
      number (x ∷ []) n q z = cc
      number (x ∷ y ∷ l) n q z = let y : 11 ≡ n = cc in omega arith

      go : (o : LookupResult) → looked ≡ o → find_answer_in i g o ≡ Err r → Refuses r
      go (lookup_refused n) q h =
          let y : refusal_by n ≡ r = cc in
          subst Refuses y (number (filter (bears name) (guarded_listing (region_bytes i g) g.align)) n q, refl)
      go (lookup_gives e) q h = absurd (cc)

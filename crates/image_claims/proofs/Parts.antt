-- What the lookups, name_at and content_at give is a part of the image.
use Rattle.std.specs.Prelude.{Some, None, Result, Ok, Err}
use Rattle.cbfs_types.specs.declared.Refusal.{Refusal}
use Prim.Native.Nat.{ℕ, ◌+◌, ◌-◌, ◌≤◌}
use native.Mathlib.Omega.{arith}
use mathlib.Core.Path.{◌≡◌, refl, sym, ap, subst, ◌∙◌}
use mathlib.Core.List.{List, []}
use mathlib.Core.Bool.{Bool, true, false, true≢false}
use lib.ListN.{length, take, drop, length-drop}
use lib.Seq.{length-take-le, drop-drop}
use Rattle.bytes_read.specs.Number.{be}
use Rattle.bytes_read.proofs.Numbers.{be_within}
use Rattle.bytes_read.proofs.Splice.{rest, part_in}
use Rattle.component.specs.Component.{judge}
use Rattle.component.specs.Table.{WellFormedHeader, component}
use Rattle.component.proofs.Judging.{short_no_magic, judge_no_magic, judge_name}
use Rattle.component.proofs.Exactly.{judge_words, none_exactly}
use Rattle.walk.specs.Walk.{Entry}
use Rattle.cbfs_types.specs.declared.Taken.{Taken}
use Rattle.walk.proofs.Members.{given as given-of}
use Rattle.walk_lookup.specs.Lookup.{lookup_gives, lookup_of}
use Rattle.walk_lookup.proofs.Answers.{lookup_member}
use Rattle.walk_lookup.proofs.Bearers.{bears_name_lem}
use Rattle.region.specs.Region.{region_bytes}
use Rattle.region.specs.Table.{FirstRowMet}
use Rattle.cbfs_types.specs.declared.Region.{Region}
use Rattle.region.proofs.Tables.{given_one}
use Rattle.master_header.specs.Master.{master}
use Rattle.master_header.specs.Table.{region, master_rows}
use Rattle.master_header.proofs.Facts.{Known, known}
use Rattle.master_header.proofs.Exactly.{master_read, master_refused}
use Rattle.region_read.specs.RegionRead.{is_step_start, taken_in, from_place}
use Rattle.region_read.proofs.Numbers as Numbers
use Rattle.load_segment.proofs.Finding.{part_of-first, in_image, standing, standing_name}
use Rattle.image_find.specs.ImageFind.{image_find, image_content, name_at, content_at}
use Rattle.image_claims.specs.Corruption.{placed, region_listing}
use Rattle.image_claims.specs.Parts.{FoundParts, StandsAt, PartsGiven, NoParts}
use Rattle.image_claims.proofs.Images.{bytes_length, map_mem}
use Rattle.image_claims.proofs.Refusing.{nine}
use Rattle.image_claims.proofs.Theorems.{listed_parts, found_entry}

-- The part of the image from a place up to the region's end, and the component c that is judged there.
module _ (i : List ℕ) (g : Region) (read : master i ≡ Ok g) (p : ℕ) (lo : g.start ≤ p) (hi : p ≤ g.end) where
  facts : Known i g
  facts = known i g read

  abbrev s : List ℕ
  s = take (g.end - p) (drop p i)

  place_part : drop (p - g.start) (region_bytes i g) ≡ s
  place_part =
      let l : length (region_bytes i g) ≡ g.end - g.start = bytes_length i g read i refl in
      let n : length (region_bytes i g) - (p - g.start) ≡ g.end - p = omega arith in
      let q : g.start + (p - g.start) ≡ p = omega arith in
      sym (rest (region_bytes i g) (p - g.start))
      ∙ in_image i g (p - g.start) (length (region_bytes i g) - (p - g.start)) (omega (arith, facts.forward)) facts.inside (omega arith)
      ∙ rw (n, q)

  deep : g.end - p ≤ length (drop p i)
  deep = rw length-drop (omega (arith, facts.inside))

  length_s : length s ≡ g.end - p
  length_s = length-take-le (g.end - p) (drop p i) deep

  window_of : (k n : ℕ) → k + n ≤ length s → (p + k + n ≤ length i) × (take n (drop k s) ≡ take n (drop (p + k) i))
  window_of k n h = (
    omega (arith, length_s, facts.inside),
    part_of-first (drop p i) (g.end - p) k n (omega (arith, length_s)) deep ∙ ap (λ (x : List ℕ). take n x) (drop-drop k p i),
  )

  number_of : (k : ℕ) → k + 4 ≤ length s → be 4 s k ≡ be 4 i (p + k)
  number_of k h = be_within 4 i p (g.end - p) k (omega (arith, length_s))

  given : (n : ℕ) → WellFormedHeader s n → name_at i p ≡ (component s n).name → content_at i p ≡ (component s n).content → PartsGiven i p n
  given n w e d =
      let o : be 4 s 20 ≡ be 4 i (p + 20) = number_of 20 (omega (arith, w.header_fits)) in
      let l : be 4 s 8 ≡ be 4 i (p + 8) = number_of 8 (omega (arith, w.header_fits)) in
      let u = window_of 24 n (omega (arith, w.in_field, w.span_fits)) in
      let v = window_of (be 4 s 20) (be 4 s 8) w.span_fits in
      record { name = (u.0, e ∙ u.1); content = rw (← o, ← l) (v.0, d ∙ v.1) }

-- name_at and content_at at any number, on any image: parts exactly where a component stands.
module _ (i : List ℕ) (p : ℕ) where
  -- The part of the image that is judged.
  abbrev judged : List ℕ
  judged = take ((region i).end - p) (drop p i)

  is_read : FirstRowMet (master_rows i) 0 → master i ≡ Ok (region i)
  is_read z = go (master i) refl
    where
      go : (m : Result Region Refusal) → master i ≡ m → master i ≡ Ok (region i)
      go (Ok g) e = (master_read i g e).1
      go (Err x) e = absurd ((master_refused i x e).0 (given_one (master_rows i) x.number 0 (master_refused i x e).1 z))

  -- A number to step from lies in the region or at its end, and the part from there on is the judged one.
  from_place_lem : master i ≡ Ok (region i) → is_step_start (region i) p ≡ true → from_place i (region i) p ≡ judged
  unfolding from_place
  from_place_lem e q = let f = Numbers.fit_from (region i) p q in rw q (place_part i (region i) e p f.0 f.1)

  pub parts_given : (n : ℕ) → StandsAt i p n → PartsGiven i p n
  parts_given n a =
      let e = is_read a.not_refused in
      let q = fits e (is_step_start (region i) p) refl in
      let f = Numbers.fit_from (region i) p q in
      let j : judge (from_place i (region i) p) ≡ Some (component judged n) = rw (from_place_lem e q) (judge_words judged n a.header) in
      given i (region i) e p f.0 f.1 n a.header (rw (e, j)) (rw (e, j))
    where
      fits : master i ≡ Ok (region i) → (b : Bool) → is_step_start (region i) p ≡ b → b ≡ true
      fits e true q = refl
      fits e false q = absurd (a.at_place ((nine i p e).0 q))

  pub parts_empty : ((n : ℕ) → StandsAt i p n → ⊥) → NoParts i p
  unfolding from_place
  parts_empty h = go (master i) refl
    where
      none_there : master i ≡ Ok (region i) → judge (from_place i (region i) p) ≡ None → NoParts i p
      none_there e j = (rw (e, j), rw (e, j))

      by : (g : Region) → master i ≡ Ok g → master i ≡ Ok (region i) → (b : Bool) → is_step_start (region i) p ≡ b → NoParts i p
      by g m e false q =
          let w : from_place i (region i) p ≡ [] = rw q in
          none_there e (rw w (judge_no_magic [] (short_no_magic [] (omega arith))))
      by g m e true q = none_there e (rw (from_place_lem e q) ((none_exactly judged).1 (λ n w. h n (record {
        not_refused = (master_read i g m).0;
        at_place = λ c. true≢false (sym q ∙ (nine i p e).1 c);
        header = w;
      }))))

      go : (m : Result Region Refusal) → master i ≡ m → NoParts i p
      go (Ok g) m = by g m (master_read i g m).1 (is_step_start (region i) p) refl
      go (Err x) m = (rw m, rw m)

-- Both lookups.
pub found_parts : (i : List ℕ) (g : Region) → master i ≡ Ok g → (w : Bool) (name : List ℕ) (t : Taken) → image_find w i name ≡ Ok t → FoundParts w i name t
found_parts i g read w name t f = let (e, q, u, c) = found_entry i g read w name t f in subst (FoundParts w i name) u (go e q c)
  where
    go : (e : Entry) → lookup_of w (region_bytes i g) g.align name ≡ lookup_gives e → image_content w i name ≡ e.component.content
        → FoundParts w i name (taken_in i g e)
    go e q c =
        let m = lookup_member w (region_bytes i g) g.align name e q in
        let n : e.component.name ≡ name = bears_name_lem name e m.1 in
        let l = standing i g w e m.0 in
        let v = given-of w (region_bytes i g) g.align e m.0 in
        let k = judge_name (drop e.place (region_bytes i g)) e.component v.judged in
        let a = listed_parts i g read w (placed g e) (map_mem (placed g) (region_listing w i g) e m.0) in
        record {
          content = (l.within, c ∙ sym l.content ∙ sym (part_in i (g.start + e.place + e.component.offset) e.component.len l.within));
          content_there = a.1 ∙ sym c;
          name_part = (omega (arith, l.within, k.1), sym n ∙ standing_name i g w e m.0);
          name_there = a.0 ∙ n;
        }

-- Demand 2 on edits for a whole image, from the same for a region's bytes.
use Rattle.std.specs.Prelude.{Ok}
use Prim.Native.Nat.{ℕ, ◌+◌, ◌-◌, ◌^◌, ◌≤◌, ◌<◌}
use native.Mathlib.Omega.{arith}
use native.Mathlib.Decide.{dec_lt}
use mathlib.Core.Path.{◌≡◌, refl, sym, ap, subst, ◌∙◌}
use mathlib.Core.List.{List, [], ◌∷◌, map, Memᴰ}
use mathlib.Core.Bool.{Bool, true, false, cond, not, ◌&&◌, true≢false}
use lib.ListN.{length, get_or}
use lib.Dec.{eqb, ltb, leb}
use borrow.Author.Tests.{leb-true, eq-eqb, ne_eqb, eqb-true, eqb-false, lt-ltb, le-ltb, ltb-true, ltb-false}
use Rattle.walk.specs.Walk.{Entry, entry_end, plain_listing, guarded_listing, Place}
use Rattle.walk.proofs.Members.{given}
use Rattle.walk_lookup.proofs.Answers.{lookup_member}
use Rattle.walk_lookup.specs.Lookup.{LookupResult, lookup_refused, lookup_gives, lookup_of}
use Rattle.region.specs.Region.{region_bytes}
use Rattle.cbfs_types.specs.declared.Region.{Region}
use Rattle.master_header.specs.Master.{master}
use Rattle.master_header.proofs.Facts.{Known, known, same_region}
use Rattle.strict_rules.specs.Strict.{component_limit, Accepted}
use Rattle.bytes_read.proofs.Tested.{both_true}
use Rattle.strict_rules.specs.Slots.{in_slots_of, in_slots}
use Rattle.edit_rules.specs.Edit.{AllBytes, BytesAt, span_bytes, insert_entry, replace_entry, remove_entry, add, replace, remove}
use Rattle.edit_rules.proofs.Outcomes.{Finds, Others, Added, Replaced, Removed}
use Rattle.edit_rules.proofs.Theorems.{add_accepted, add_done}
use Rattle.edit_rules.proofs.Exactly.{fits_run_exactly, Undone, add_undone}
use Rattle.edit_write.specs.EditWrite.{add_in, replace_in, remove_in}
use Rattle.edit_write.proofs.Around.{Around, add_around, replace_around, remove_around, done_place, replace_promise, remove_promise}
use Rattle.region_read.specs.RegionRead.{taken_in, find_answer_in}
use Rattle.image_find.specs.ImageFind.{image_find, image_content}
use Rattle.image_edit.specs.ImageEdit.{image_remove}
use Rattle.image_claims.specs.Corruption.{AcceptedImage, placed, entries, guarded_entries, LookupGives, LookupRefuses, in_image_slots}
use Rattle.image_claims.specs.EditsDone.{new_entry, EditLeaves, AddDone, ReplaceDone, RemoveDone}
use Rattle.image_claims.proofs.Images.{filter_map, bytes_length, bytes_at, slot_inner, same_taken, through, gives_there, refuses_there}
use Rattle.image_claims.proofs.Accepting.{strict_check_accepts}

-- Places counted from another start compare as before.

same_eqb : (s n m : ℕ) → eqb (s + n) (s + m) ≡ eqb n m
same_eqb s n m = go (eqb n m) refl
  where
    go : (b : Bool) → eqb n m ≡ b → eqb (s + n) (s + m) ≡ b
    go true e = eq-eqb (s + n) (s + m) (ap (λ (k : ℕ). s + k) (eqb-true n m e))
    go false e = ne_eqb (s + n) (s + m) (λ q. eqb-false n m e (omega arith))

same_ltb : (s n m : ℕ) → ltb (s + n) (s + m) ≡ ltb n m
same_ltb s n m = go (ltb n m) refl
  where
    go : (b : Bool) → ltb n m ≡ b → ltb (s + n) (s + m) ≡ b
    go true e = lt-ltb (s + n) (s + m) (omega (arith, ltb-true n m e))
    go false e = le-ltb (s + n) (s + m) (omega (arith, ltb-false n m e))

-- So do the listings of an image with one component put in, changed or left out.

insert_placed : (g : Region) (t : Entry) (l : List Entry) → map (placed g) (insert_entry t l) ≡ insert_entry (placed g t) (map (placed g) l)
unfolding insert_entry
insert_placed g t [] = refl
insert_placed g t (u ∷ us) = rw (same_ltb g.start t.place u.place) (go (ltb t.place u.place) (insert_placed g t us))
  where
    go : (b : Bool) → map (placed g) (insert_entry t us) ≡ insert_entry (placed g t) (map (placed g) us)
        → map (placed g) (cond b (t ∷ u ∷ us) (u ∷ insert_entry t us)) ≡ cond b (placed g t ∷ placed g u ∷ map (placed g) us)
        (placed g u ∷ insert_entry (placed g t) (map (placed g) us))
    go true ih = refl
    go false ih = rw ih

replace-placed : (g : Region) (t : Entry) (l : List Entry) → map (placed g) (replace_entry t l) ≡ replace_entry (placed g t) (map (placed g) l)
unfolding replace_entry
replace-placed g t [] = refl
replace-placed g t (u ∷ us) = rw (same_eqb g.start u.place t.place, ← replace-placed g t us) (go (eqb u.place t.place))
  where
    go : (b : Bool) → placed g (cond b t u) ∷ map (placed g) (replace_entry t us) ≡ cond b (placed g t) (placed g u) ∷ map (placed g) (replace_entry t us)
    go true = refl
    go false = refl

remove-placed : (g : Region) (p : ℕ) (l : List Entry) → map (placed g) (remove_entry p l) ≡ remove_entry (g.start + p) (map (placed g) l)
remove-placed g p l =
    sym (filter_map (λ u. not (eqb u.place (g.start + p))) (λ u. not (eqb u.place p)) (placed g) l (λ u m. ap not (same_eqb g.start u.place p)))

-- Sets of slots that agree.
same_within : (f h : ℕ → Bool) (e : ℕ) (l : List Entry) (i : ℕ) → ((q : ℕ) → f q ≡ h q) → in_slots_of f e l i ≡ in_slots_of h e l i
unfolding in_slots_of
same_within f h e [] i q = refl
same_within f h e (t ∷ ts) i q = rw (q t.place, same_within f h e ts i q)

-- An image i that is read, its region g, and an image i' with y for its region's bytes.
module _ (i : List ℕ) (g : Region) (read : master i ≡ Ok g) (y i' : List ℕ) (ar : Around i g y i') where
  facts : Known i g
  facts = known i g read

  read' : master i' ≡ Ok g
  read' = same_region i i' g read ar.same_length ar.after

  -- What stands in the region's bytes stands in the image.
  bytes_there : (p : ℕ) (s : List ℕ) → BytesAt (region_bytes i' g) p s → BytesAt i' (g.start + p) s
  bytes_there p s (h, at) =
      let l = bytes_length i g read i' ar.same_length in (
        omega (arith, l, facts.forward, facts.inside, ar.same_length),
        λ k b.
            let e : g.start + p + k ≡ g.start + (p + k) = omega arith in
            rw e (sym (bytes_at i g read i' (p + k) ar.same_length (omega arith))) ∙ at k b,
      )

  -- A lookup of the region's bytes that answers as before does so on the image.
  same_lookup : (w : Bool) (n : List ℕ) → lookup_of w (region_bytes i' g) g.align n ≡ lookup_of w (region_bytes i g) g.align n
      → (image_find w i' n ≡ image_find w i n) × (image_content w i' n ≡ image_content w i n)
  same_lookup w n e = (rw (read, read', e) (go (lookup_of w (region_bytes i g) g.align n)), rw (read, read', e))
    where
      go : (o : LookupResult) → find_answer_in i' g o ≡ find_answer_in i g o
      go (lookup_refused m) = refl
      go (lookup_gives t) = ap Ok (same_taken i g read i' ar.same_length t)

  others : (name : List ℕ) → Others (region_bytes i g) g.align name (region_bytes i' g) → (w : Bool) (n : List ℕ) → (n ≡ name → ⊥)
      → (image_find w i' n ≡ image_find w i n) × (image_content w i' n ≡ image_content w i n)
  others name o true n h = same_lookup true n (o.guardedly n h)
  others name o false n h = same_lookup false n (o.plainly n h)

  -- A byte of the image's region, and of its bytes.
  inner_same : (k : ℕ) → k < g.end - g.start → get_or (region_bytes i' g) k 0 ≡ get_or (region_bytes i g) k 0 → get_or i' (g.start + k) 0 ≡ get_or i (g.start + k) 0
  inner_same k h e = sym (bytes_at i g read i' k ar.same_length h) ∙ e ∙ bytes_at i g read i k refl h

  untouched : (name : List ℕ) → Others (region_bytes i g) g.align name (region_bytes i' g)
      → (t : Entry) → Memᴰ t (guarded_entries i g) → (t.component.name ≡ name → ⊥) → (j : ℕ) → t.place ≤ j → j < entry_end t → get_or i' j 0 ≡ get_or i j 0
  untouched name o = through true g i (λ t. (t.component.name ≡ name → ⊥) → (j : ℕ) → t.place ≤ j → j < entry_end t → get_or i' j 0 ≡ get_or i j 0)
      (λ t m h j lo hi. go t m h (j - g.start) j (omega arith) lo hi)
    where
      go : (t : Entry) → Memᴰ t (guarded_listing (region_bytes i g) g.align) → (t.component.name ≡ name → ⊥) → (k j : ℕ) → j ≡ g.start + k
          → g.start + t.place ≤ j → j < entry_end (placed g t) → get_or i' j 0 ≡ get_or i j 0
      go t m h k j e lo hi = rw e (by (dec_lt k (g.end - g.start)))
        where
          by : Dec (k < g.end - g.start) → get_or i' (g.start + k) 0 ≡ get_or i (g.start + k) 0
          by (yes l) = inner_same k l (o.untouched t m h k (omega arith) (omega arith))
          by (no n) = ar.after (g.start + k) (omega (arith, facts.forward))

  -- The slot at p, of an image s that is as long.
  slot_there : (s : List ℕ) (p k : ℕ) → k < g.end - g.start
      → in_image_slots (λ q. eqb q (g.start + p)) s g (g.start + k) ≡ in_slots (λ q. eqb q p) (region_bytes s g) g.align k
  slot_there s p k h =
      slot_inner i g read (λ q. eqb q (g.start + p)) s k h
      ∙ same_within (λ q. eqb (g.start + q) (g.start + p)) (λ q. eqb q p) (length (region_bytes s g)) (guarded_listing (region_bytes s g) g.align) k
      (λ q. same_eqb g.start q p)

  outside : (s : List ℕ) (p : ℕ) → ((k : ℕ) → in_slots (λ q. eqb q p) (region_bytes s g) g.align k ≡ false
      → get_or (region_bytes i' g) k 0 ≡ get_or (region_bytes i g) k 0)
      → (j : ℕ) → in_image_slots (λ q. eqb q (g.start + p)) s g j ≡ false → get_or i' j 0 ≡ get_or i j 0
  outside s p same j e = low (dec_lt j g.start)
    where
      high : (k : ℕ) → j ≡ g.start + k → Dec (j < g.end) → get_or i' j 0 ≡ get_or i j 0
      high k q (no n) = ar.after j (omega arith)
      high k q (yes l) = let h : k < g.end - g.start = omega arith in rw q (inner_same k h (same k (sym (slot_there s p k h) ∙ rw q at e)))

      low : Dec (j < g.start) → get_or i' j 0 ≡ get_or i j 0
      low (yes l) = ar.before j l
      low (no n) = high (j - g.start) (omega arith) (dec_lt j g.end)

  -- What an edit leaves, where its slot lies in the image s.
  leaves : (name : List ℕ) (p : ℕ) (s : List ℕ) → Accepted (region_bytes i' g) g.align → Others (region_bytes i g) g.align name (region_bytes i' g)
      → ((k : ℕ) → in_slots (λ q. eqb q p) (region_bytes s g) g.align k ≡ false → get_or (region_bytes i' g) k 0 ≡ get_or (region_bytes i g) k 0)
      → EditLeaves i g name (g.start + p) s i'
  leaves name p s acc o same = record {
    read = read';
    accepted = (strict_check_accepts i').1 (g, record { read = read'; acc = acc });
    others = others name o;
    untouched = untouched name o;
    same_length = ar.same_length;
    outside = outside s p same;
  }

  -- What both lookups of the region's bytes give, both lookups of the image give.
  there : (t : Entry) → Finds (region_bytes i' g) g.align t.component.name t → (w : Bool) → LookupGives w i' (placed g t)
  there t f true = gives_there i' g read' true t f.guardedly
  there t f false = gives_there i' g read' false t f.plainly

  -- Bytes from n on that are 0xFF, of the slot at p of an image s.
  ones_there : (s : List ℕ) (p n : ℕ) → ((k : ℕ) → in_slots (λ q. eqb q p) (region_bytes s g) g.align k ≡ true → n ≤ k → get_or (region_bytes i' g) k 0 ≡ 255)
      → (j : ℕ) → in_image_slots (λ q. eqb q (g.start + p)) s g j ≡ true → g.start + n ≤ j → get_or i' j 0 ≡ 255
  ones_there s p n same j e h = go (j - g.start) (omega arith) (dec_lt j g.end)
    where
      go : (k : ℕ) → j ≡ g.start + k → Dec (j < g.end) → get_or i' j 0 ≡ 255
      go k q (yes l) =
          let f : k < g.end - g.start = omega arith in
          rw q (sym (bytes_at i g read i' k ar.same_length f) ∙ same k (sym (slot_there s p k f) ∙ rw q at e) (omega arith))
      go k q (no m) = absurd (true≢false (sym e ∙ past (leb g.start j) _ (le-ltb j g.end (omega arith))))
        where
          past : (b c : Bool) {d : Bool} → d ≡ false → b && d && c ≡ false
          past true c z = rw z
          past false c z = refl

  -- A byte of a slot lies in the region.
  slot_start : (set : ℕ → Bool) (j : ℕ) → in_image_slots set i g j ≡ true → g.start ≤ j
  slot_start set j e = let b = both_true (leb g.start j && ltb j g.end) _ e in
      leb-true g.start j (both_true (leb g.start j) (ltb j g.end) b.0).0

-- The edits of an image that is read, each at the place g .start + p.
module _ (i : List ℕ) (g : Region) (read : master i ≡ Ok g) where
  abbrev r : List ℕ
  r = region_bytes i g

  big : 8 ≤ g.align
  big = omega (arith, (known i g read).least)

  -- Add.
  module _ (name : List ℕ) (kind : ℕ) (content : List ℕ) where
    abbrev i₁ : List ℕ
    i₁ = (add_in i g name kind content).image

    ar₁ : Around i g (add component_limit r g.align name kind content).bytes i₁
    ar₁ = add_around i g name kind content

    -- What remove takes away again.
    undone : (p : ℕ) → Undone r g.align p name (add component_limit r g.align name kind content).bytes
        → ((image_remove i₁ name).answer ≡ Ok (g.start + p)) × ((w : Bool) → entries w (image_remove i₁ name).image g ≡ entries w i g)
    undone p u = (rw (back, ar₁.region, u.done_again), λ w. rw back (same w))
      where
        back : master i₁ ≡ Ok g
        back = read' i g read (add component_limit r g.align name kind content).bytes i₁ ar₁

        region : region_bytes (remove_in i₁ g name).image g ≡ (remove component_limit (add component_limit r g.align name kind content).bytes
            g.align name).bytes
        region = (remove_around i₁ g name).region ∙ ap (λ (y : List ℕ). (remove component_limit y g.align name).bytes) ar₁.region

        same : (w : Bool) → entries w (remove_in i₁ g name).image g ≡ entries w i g
        same true = rw region (ap (map (placed g)) u.guardedly)
        same false = rw region (ap (map (placed g)) u.plainly)

    pub add_there : kind < 256 ^ 4 → (q : ℕ) → (add_in i g name kind content).answer ≡ Ok q → AcceptedImage i g × AddDone i g name kind content q i₁
    add_there typed q e =
        let (p, h, d) = done_place i g (add component_limit r g.align name kind content) q e in
        let acc = add_accepted r g.align name kind content p d in (
          record { read = read; acc = acc },
          subst (λ (m : ℕ). AddDone i g name kind content m i₁) h
              (go p acc (rw ar₁.region (add_done r g.align big name kind content p typed d)) (add_undone r g.align big name kind content p typed d)),
        )
      where
        go : (p : ℕ) → Accepted r g.align → Added r g.align name kind content p (region_bytes i₁ g)
            → Undone r g.align p name (add component_limit r g.align name kind content).bytes
            → AddDone i g name kind content (g.start + p) i₁
        go p acc a u = record {
          leaves = leaves i g read _ i₁ ar₁ name p i₁ a.accepted a.others (λ k f. sym (a.slot.other_bytes k f));
          there = there i g read _ i₁ ar₁ (new_entry p name kind content) a.finds;
          written = bytes_there i g read _ i₁ ar₁ p (span_bytes name kind content) a.written;
          listed = listed;
          free = (
            p,
            refl,
            there_place,
            (fits_run_exactly r g.align (omega (arith, big)) small acc p (length (span_bytes name kind content)) there_place).0 a.held,
          );
          lowest = λ q pl f. let l =
              a.least q ((fits_run_exactly r g.align (omega (arith, big)) small acc q (length (span_bytes name kind content)) pl).1 f) in
              omega arith;
          erased = λ j k l. ones_there i g read _ i₁ ar₁ i₁ p (p + length (span_bytes name kind content)) a.erased j k (omega arith);
          undone = undone p u;
        }
          where
            there_place : Place g.align p
            there_place =
                let m = lookup_member true (region_bytes i₁ g) g.align name (new_entry p name kind content) a.finds.guardedly in
                (given true (region_bytes i₁ g) g.align (new_entry p name kind content) m.0).at

            small : length r ≤ 0xFFFFFFFF
            small = omega (arith, bytes_length i g read i refl, (known i g read).short, (known i g read).inside)

            listed : (w : Bool) → entries w i₁ g ≡ insert_entry (new_entry (g.start + p) name kind content) (entries w i g)
            listed true = ap (map (placed g)) a.guardedly ∙ insert_placed g (new_entry p name kind content) (guarded_listing r g.align)
            listed false = ap (map (placed g)) a.plainly ∙ insert_placed g (new_entry p name kind content) (plain_listing r g.align)

  -- Replace.
  pub replace_there : AllBytes i → (name content : List ℕ) (q : ℕ) → (replace_in i g name content).answer ≡ Ok q
      → ReplaceDone i g name content q (replace_in i g name content).image
  replace_there bs name content q e = let (p, h, d) = replace_promise i g big bs name content q e in
      subst (λ (m : ℕ). ReplaceDone i g name content m i₂) h (go p d)
    where
      i₂ : List ℕ
      i₂ = (replace_in i g name content).image

      ar₂ : Around i g (replace component_limit r g.align name content).bytes (replace_in i g name content).image
      ar₂ = replace_around i g name content

      go : (p : ℕ) → Replaced r g.align name content p (region_bytes (replace_in i g name content).image g)
          → ReplaceDone i g name content (g.start + p) (replace_in i g name content).image
      go p d = record {
        leaves = leaves i g read _ _ ar₂ name p i d.accepted d.others d.slot.other_bytes;
        kind = d.old.component.kind;
        was = (taken_in i g d.old, rw (read, d.was), ap (λ (m : ℕ). g.start + m) d.there, refl);
        there = there i g read _ _ ar₂ (new_entry p name d.old.component.kind content) d.finds;
        written = bytes_there i g read _ _ ar₂ p (span_bytes name d.old.component.kind content) d.written;
        listed = listed;
        erased = λ j k l. ones_there i g read _ _ ar₂ i p (p + length (span_bytes name d.old.component.kind content)) d.erased j k (omega arith);
      }
        where
          listed : (w : Bool) → entries w (replace_in i g name content).image g ≡ replace_entry (new_entry (g.start + p) name d.old.component.kind content)
              (entries w i g)
          listed true = ap (map (placed g)) d.guardedly ∙ replace-placed g (new_entry p name d.old.component.kind content) (guarded_listing r g.align)
          listed false = ap (map (placed g)) d.plainly ∙ replace-placed g (new_entry p name d.old.component.kind content) (plain_listing r g.align)

  -- Remove.
  pub remove_there : (name : List ℕ) (q : ℕ) → (remove_in i g name).answer ≡ Ok q → RemoveDone i g name q (remove_in i g name).image
  remove_there name q e = let (p, h, d) = remove_promise i g big name q e in subst (λ (m : ℕ). RemoveDone i g name m (remove_in i g name).image) h (go p d)
    where
      ar₃ : Around i g (remove component_limit r g.align name).bytes (remove_in i g name).image
      ar₃ = remove_around i g name

      go : (p : ℕ) → Removed r g.align name p (region_bytes (remove_in i g name).image g) → RemoveDone i g name (g.start + p) (remove_in i g name).image
      go p d = record {
        leaves = leaves i g read _ _ ar₃ name p i d.accepted d.others d.slot.other_bytes;
        was = (taken_in i g d.old, rw (read, d.was), ap (λ (m : ℕ). g.start + m) d.there);
        gone = gone;
        listed = listed;
        erased =
            λ j k. ones_there i g read _ _ ar₃ i p 0 (λ m f n. d.erased m f) j k (omega (arith, slot_start i g read _ _ ar₃ (λ m. eqb m (g.start + p)) j k));
      }
        where
          gone : (w : Bool) → LookupRefuses w (remove_in i g name).image name 10
          gone true = refuses_there _ g (read' i g read _ _ ar₃) true name 10 d.gone.0
          gone false = refuses_there _ g (read' i g read _ _ ar₃) false name 10 d.gone.1

          listed : (w : Bool) → entries w (remove_in i g name).image g ≡ remove_entry (g.start + p) (entries w i g)
          listed true = ap (map (placed g)) d.guardedly ∙ remove-placed g p (guarded_listing r g.align)
          listed false = ap (map (placed g)) d.plainly ∙ remove-placed g p (plain_listing r g.align)

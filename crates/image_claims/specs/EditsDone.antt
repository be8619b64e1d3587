-- Demand 2 of the order, on edits, for a whole image i whose region is g: what an edit that is done leaves in the image i', over the
-- definitions that the public calls' contracts cite. Where a Bool w chooses a walk, true is the guarded one.
use Rattle.std.specs.Prelude.{Ok, ℕ, ◌+◌, ◌≤◌, ◌<◌, ◌≡◌, Bool, true, false, length, get_or, drop, eqb}
use mathlib.Core.List.{List, Memᴰ}
use Rattle.walk.specs.Walk.{Entry, entry_end, Place}
use Rattle.cbfs_types.specs.declared.Taken.{Taken}
use Rattle.region.specs.Region.{region_bytes}
use Rattle.cbfs_types.specs.declared.Region.{Region}
use Rattle.cbfs_types.specs.declared.Directory.{Directory}
use Rattle.master_header.specs.Master.{master}
use Rattle.component.specs.Table.{checksum, sum_of}
use Rattle.edit_rules.specs.Edit.{span_bytes, insert_entry, replace_entry, remove_entry, new_component, Free, BytesAt}
use Rattle.image_walk.specs.ImageWalk.{strict_check}
use Rattle.image_find.specs.ImageFind.{image_find, image_content}
use Rattle.image_edit.specs.ImageEdit.{image_remove}
use Rattle.image_claims.specs.Corruption.{entries, guarded_entries, LookupGives, LookupRefuses, in_image_slots}

-- The component of these, at the place p.
abbrev pub new_entry : ℕ → List ℕ → ℕ → List ℕ → Entry
new_entry p name kind content = record { place = p; component = new_component name kind content }

-- What every edit of a name that is done at the place p leaves. s is the image whose slot was written: the new one for add, else the old one.
pub record EditLeaves (i : List ℕ) (g : Region) (name : List ℕ) (p : ℕ) (s i' : List ℕ) : Type 0 where
  -- "The image still passes the strict check" (document 01), with the same region.
  pub read : master i' ≡ Ok g
  pub accepted : (d : Directory) × (strict_check i' ≡ Ok d)
  -- "Every other name answers as before": any other byte string, by both lookups, refusals included.
  pub others : (w : Bool) (n : List ℕ) → (n ≡ name → ⊥) → (image_find w i' n ≡ image_find w i n) × (image_content w i' n ≡ image_content w i n)
  -- "No byte of another component has changed."
  pub untouched : (t : Entry) → Memᴰ t (guarded_entries i g) → (t.component.name ≡ name → ⊥) → (j : ℕ) → t.place ≤ j → j < entry_end t
      → get_or i' j 0 ≡ get_or i j 0
  -- "Nothing outside the slot changes (for add: outside the new slot)" (document 01), and so no byte outside the region.
  pub same_length : length i' ≡ length i
  pub outside : (j : ℕ) → in_image_slots (λ q. eqb q p) s g j ≡ false → get_or i' j 0 ≡ get_or i j 0

-- A component was added at p.
pub record AddDone (i : List ℕ) (g : Region) (name : List ℕ) (kind : ℕ) (content : List ℕ) (p : ℕ) (i' : List ℕ) : Type 0 where
  pub leaves : EditLeaves i g name p i' i'
  -- "The new content is found under its name": by both lookups, at the place p, with the type and the lengths.
  pub there : (w : Bool) → LookupGives w i' (new_entry p name kind content)
  -- The bytes of the component stand there, with its sum.
  pub written : BytesAt i' p (span_bytes name kind content)
  -- Both listings are the old ones with the component put in.
  pub listed : (w : Bool) → entries w i' g ≡ insert_entry (new_entry p name kind content) (entries w i g)
  -- "Add uses the lowest place at which the component fits a free run" (document 01): p has so many free bytes, and no place below p has.
  pub free : (q : ℕ) × (p ≡ g.start + q) × Place g.align q × Free (region_bytes i g) g.align q (length (span_bytes name kind content))
  pub lowest : (q : ℕ) → Place g.align q → Free (region_bytes i g) g.align q (length (span_bytes name kind content)) → p ≤ g.start + q
  -- "After the written span, every byte to the next component's start or the region's end is 0xFF" (document 01).
  pub erased : (j : ℕ) → in_image_slots (λ q. eqb q p) i' g j ≡ true → p + length (span_bytes name kind content) ≤ j → get_or i' j 0 ≡ 255
  -- What remove takes away again leaves both listings as they were.
  pub undone : ((image_remove i' name).answer ≡ Ok p) × ((w : Bool) → entries w (image_remove i' name).image g ≡ entries w i g)

-- The content of the component at p was replaced; its place, name and type are kept.
pub record ReplaceDone (i : List ℕ) (g : Region) (name content : List ℕ) (p : ℕ) (i' : List ℕ) : Type 0 where
  pub leaves : EditLeaves i g name p i i'
  pub kind : ℕ
  -- It stood there before, with that type.
  pub was : (t : Taken) × (image_find true i name ≡ Ok t) × (t.place ≡ p) × (t.header.kind ≡ kind)
  -- "The new content is found under its name": by both lookups, at the place p, with the type and the lengths.
  pub there : (w : Bool) → LookupGives w i' (new_entry p name kind content)
  -- The bytes of the component stand there, with its sum.
  pub written : BytesAt i' p (span_bytes name kind content)
  -- Both listings are the old ones with the one component changed.
  pub listed : (w : Bool) → entries w i' g ≡ replace_entry (new_entry p name kind content) (entries w i g)
  -- "After the written span, every byte to the next component's start or the region's end is 0xFF" (document 01).
  pub erased : (j : ℕ) → in_image_slots (λ q. eqb q p) i g j ≡ true → p + length (span_bytes name kind content) ≤ j → get_or i' j 0 ≡ 255

-- "Edits write the sum" (document 02, request 5): the n bytes from p on state their sum, no bit of which is lost; and it is not 0, which would state none.
pub record StatesSum (i : List ℕ) (p n : ℕ) : Type 0 where
  pub exact : checksum (drop p i) ≡ sum_of (drop p i) n
  pub stated : 0 < checksum (drop p i)

-- The component at p was removed.
pub record RemoveDone (i : List ℕ) (g : Region) (name : List ℕ) (p : ℕ) (i' : List ℕ) : Type 0 where
  pub leaves : EditLeaves i g name p i i'
  -- It stood there before.
  pub was : (t : Taken) × (image_find true i name ≡ Ok t) × (t.place ≡ p)
  -- "Or a removed name nowhere": by neither lookup.
  pub gone : (w : Bool) → LookupRefuses w i' name 10
  -- Both listings are the old ones with the one component left out.
  pub listed : (w : Bool) → entries w i' g ≡ remove_entry p (entries w i g)
  -- "Remove sets the whole slot to 0xFF" (document 01).
  pub erased : (j : ℕ) → in_image_slots (λ q. eqb q p) i g j ≡ true → get_or i' j 0 ≡ 255

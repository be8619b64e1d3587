-- The outcome of an edit that is done: the strict check, both listings, both lookups, and the bytes outside the slot.
use Prim.Native.Nat.{ℕ, ◌+◌, ◌^◌, ◌≤◌, ◌<◌}
use native.Mathlib.Omega.{arith}
use native.Mathlib.Decide.{dec_lt}
use mathlib.Core.Path.{◌≡◌, refl, sym, ap, ◌∙◌}
use mathlib.Core.List.{List, [], ◌∷◌, Memᴰ}
use mathlib.Core.Logic.{◌⊎◌, inl, inr}
use mathlib.Core.Bool.{Bool, true, false, not, true≢false}
use Rattle.std.specs.Prelude.{Some}
use lib.ListN.{length, get_or}
use lib.Dec.{eqb}
use borrow.Author.Tests.{eq-eqb, ne_eqb}
use Rattle.bytes_read.specs.Lists.{filter}
use Rattle.walk.specs.Walk.{Entry, entry_end, magic_at, plain_listing, guarded_listing}
use Rattle.walk_lookup.specs.Lookup.{lookup_refused, lookup_gives, only_or_refused, first_or_refused, bears, plain_lookup, guarded_lookup}
use Rattle.walk.proofs.Picks.{guarded_has_magic}
use Rattle.walk_lookup.proofs.Bearers.{bears_name_lem}
use Rattle.strict_rules.specs.Strict.{component_limit, distinct_names, Accepted, EveryMagicTaken}
use Rattle.strict_rules.specs.Slots.{in_slots, CorruptedRegion}
use Rattle.bytes_read.proofs.Tested.{filter_same, filter_comm, filter-all, length-filter, two_filter}
use Rattle.strict_rules.proofs.Frames.{mem_guarded, still_every_taken}
use Rattle.strict_rules.proofs.Slots.{Outside, same_slot, place_in_slots, guarded_rising, slot_outside}
use Rattle.strict_rules.proofs.Bearing.{lone}
use Rattle.strict_rules.proofs.Accepting.{listed_every_taken, walks_agree, accepted_context_free}
use Rattle.edit_rules.specs.Edit.{Run, EntrySlot, slot_of, free_runs, lowest_fitting, contains_magic, span_bytes, slot_filled, insert_entry, replace_entry}
use Rattle.edit_rules.specs.Edit.{remove_entry, new_component, FitsRunAt, AddPassesTo16, BytesAt}
use Rattle.edit_rules.proofs.Written.{Fit, name_fit, length_span, filled_length, filled_bytes_at, filled_ones}
use Rattle.edit_rules.proofs.Lists.{insert_replace, insert_mem, length_insert, length-replace, distinct_insert, distinct_replace, filter_insert}
use Rattle.edit_rules.proofs.Lists.{filter-replace, filter_removed, bears_not}
use Rattle.edit_rules.proofs.Filling.{FreeSlot, in_run, in_true, in_of, out_after, out_before, magic_first_byte, outside, frame, rest_same, new_listed}
use Rattle.edit_rules.proofs.Filling.{alone, new_listing, new_every_taken}
use Rattle.edit_rules.proofs.Runs.{row, Gap, mem_runs, lowest_some, lowest_least, SlotOf, slot_of_entry, slot_within, gap_slot, entry_slot_free}

-- The component of these, at p.
abbrev pub at : ℕ → List ℕ → ℕ → List ℕ → Entry
at p name kind put = record { place = p; component = new_component name kind put }

-- Both lookups give t for the name: its place, its type and its content.
pub record Finds (r' : List ℕ) (a : ℕ) (name : List ℕ) (t : Entry) : Type 0 where
  pub guardedly : guarded_lookup r' a name ≡ lookup_gives t
  pub plainly : plain_lookup r' a name ≡ lookup_gives t

-- Every other byte string, asked as a name, answers as before by both lookups, refusals included, in place, type and content; and no byte
-- of a component of another name has changed.
pub record Others (r : List ℕ) (a : ℕ) (name : List ℕ) (r' : List ℕ) : Type 0 where
  pub guardedly : (n : List ℕ) → (n ≡ name → ⊥) → guarded_lookup r' a n ≡ guarded_lookup r a n
  pub plainly : (n : List ℕ) → (n ≡ name → ⊥) → plain_lookup r' a n ≡ plain_lookup r a n
  pub untouched : (t : Entry) → Memᴰ t (guarded_listing r a) → (t.component.name ≡ name → ⊥) → (i : ℕ) → t.place ≤ i → i < entry_end t
      → get_or r' i 0 ≡ get_or r i 0

-- r' is r with the component added at p.
pub record Added (r : List ℕ) (a : ℕ) (name : List ℕ) (kind : ℕ) (put : List ℕ) (p : ℕ) (r' : List ℕ) : Type 0 where
  -- The strict check still accepts.
  pub accepted : Accepted r' a
  -- Both listings are the old one with the component put in.
  pub guardedly : guarded_listing r' a ≡ insert_entry (at p name kind put) (guarded_listing r a)
  pub plainly : plain_listing r' a ≡ insert_entry (at p name kind put) (plain_listing r a)
  pub finds : Finds r' a name (at p name kind put)
  pub others : Others r a name r'
  -- No byte outside the new slot changed.
  pub slot : CorruptedRegion (λ q. eqb q p) r' a r
  -- The component stands there, with its sum.
  pub written : BytesAt r' p (span_bytes name kind put)
  -- After the written span, every byte of the new slot is 0xFF.
  pub erased : (i : ℕ) → in_slots (λ q. eqb q p) r' a i ≡ true → p + length (span_bytes name kind put) ≤ i → get_or r' i 0 ≡ 255
  -- Nothing stood there.
  pub fresh : (u : Entry) → Memᴰ u (guarded_listing r a) → u.place ≡ p → ⊥
  -- The lowest place at which a free run holds the span.
  pub held : FitsRunAt (length (span_bytes name kind put)) (free_runs r a) p
  pub least : (q : ℕ) → FitsRunAt (length (span_bytes name kind put)) (free_runs r a) q → p ≤ q

-- r' is r with the content of the component at p replaced.
pub record Replaced (r : List ℕ) (a : ℕ) (name put : List ℕ) (p : ℕ) (r' : List ℕ) : Type 0 where
  -- What bore the name.
  pub old : Entry
  pub was : guarded_lookup r a name ≡ lookup_gives old
  pub there : old.place ≡ p
  pub accepted : Accepted r' a
  -- Both listings are the old one with the one component changed; its type is kept.
  pub guardedly : guarded_listing r' a ≡ replace_entry (at p name old.component.kind put) (guarded_listing r a)
  pub plainly : plain_listing r' a ≡ replace_entry (at p name old.component.kind put) (plain_listing r a)
  pub finds : Finds r' a name (at p name old.component.kind put)
  pub others : Others r a name r'
  -- No byte outside the slot changed.
  pub slot : CorruptedRegion (λ q. eqb q p) r a r'
  -- The component stands there, with its sum.
  pub written : BytesAt r' p (span_bytes name old.component.kind put)
  -- After the written span, every byte of the slot is 0xFF.
  pub erased : (i : ℕ) → in_slots (λ q. eqb q p) r a i ≡ true → p + length (span_bytes name old.component.kind put) ≤ i → get_or r' i 0 ≡ 255

-- r' is r with the component at p removed.
pub record Removed (r : List ℕ) (a : ℕ) (name : List ℕ) (p : ℕ) (r' : List ℕ) : Type 0 where
  pub old : Entry
  pub was : guarded_lookup r a name ≡ lookup_gives old
  pub there : old.place ≡ p
  pub accepted : Accepted r' a
  -- Both listings are the old one with the one component left out.
  pub guardedly : guarded_listing r' a ≡ remove_entry p (guarded_listing r a)
  pub plainly : plain_listing r' a ≡ remove_entry p (plain_listing r a)
  -- Neither lookup finds the name.
  pub gone : (guarded_lookup r' a name ≡ lookup_refused 10) × (plain_lookup r' a name ≡ lookup_refused 10)
  pub others : Others r a name r'
  pub slot : CorruptedRegion (λ q. eqb q p) r a r'
  -- The whole slot is 0xFF.
  pub erased : (i : ℕ) → in_slots (λ q. eqb q p) r a i ≡ true → get_or r' i 0 ≡ 255

accept : (r : List ℕ) (a : ℕ) → 0 < a → EveryMagicTaken r a → length (guarded_listing r a) ≤ component_limit → distinct_names (guarded_listing r a) ≡ true
    → Accepted r a
accept r a pos every_taken few disjoint = (accepted_context_free r a pos).1 (every_taken, few, disjoint)

find : (r' : List ℕ) (a : ℕ) → Accepted r' a → (name : List ℕ) (t : Entry) → t.component.name ≡ name → Memᴰ t (guarded_listing r' a) → Finds r' a name t
unfolding only_or_refused first_or_refused
find r' a acc name t e m = record { guardedly = rw one; plainly = rw (walks_agree r' a acc, one) }
  where
    one : filter (bears name) (guarded_listing r' a) ≡ t ∷ []
    one = rw (← e) (lone (guarded_listing r' a) (rw (walks_agree r' a acc) at acc.names_are_distinct) t m)

other : (r r' : List ℕ) (a : ℕ) → Accepted r a → Accepted r' a → (name : List ℕ)
    → ((n : List ℕ) → (n ≡ name → ⊥) → filter (bears n) (guarded_listing r' a) ≡ filter (bears n) (guarded_listing r a))
    → ((t : Entry) → Memᴰ t (guarded_listing r a) → (t.component.name ≡ name → ⊥) → (i : ℕ) → t.place ≤ i → i < entry_end t → get_or r' i 0 ≡ get_or r i 0)
    → Others r a name r'
other r r' a acc acc' name same c = record {
  guardedly = λ n h. ap only_or_refused (same n h);
  plainly = λ n h. rw (walks_agree r' a acc', walks_agree r a acc) (ap first_or_refused (same n h));
  untouched = c;
}

-- Add, into a free run.
module _ (r : List ℕ) (a : ℕ) (big : 8 ≤ a) (acc : Accepted r a) (name : List ℕ) (kind : ℕ) (put : List ℕ) (typed : kind < 256 ^ 4)
    (ok : AddPassesTo16 component_limit a name (span_bytes name kind put) (plain_listing r a))
    (x : Run) (low : lowest_fitting (length (span_bytes name kind put)) (free_runs r a) ≡ Some x) where
  abbrev pos : 0 < a
  pos = omega arith

  abbrev L : List Entry
  L = guarded_listing r a

  abbrev s : List ℕ
  s = span_bytes name kind put

  abbrev r' : List ℕ
  r' = slot_filled r x s

  same : plain_listing r a ≡ L
  same = walks_agree r a acc

  every_taken : EveryMagicTaken r a
  every_taken = listed_every_taken r a pos acc.all_taken

  fit : Fit name
  fit = name_fit name ok.passes_to_13.named

  mem : Memᴰ x (free_runs r a) × (length s ≤ 0xFFFFFFFF) × (x.from + length s ≤ x.to)
  mem = lowest_some (length s) (free_runs r a) x low

  len-fits : length put < 256 ^ 4
  len-fits = omega (arith, mem.1, length_span name kind put)

  gap : Gap a (length r) 0 L x
  gap = mem_runs r a pos 0 L (inl (0, omega arith)) (row r a pos) x (rw same at mem.0)

  free_slot : FreeSlot r a x
  free_slot = gap_slot r a pos x gap (omega (arith, mem.2, length_span name kind put))

  clear : (u : Entry) → Memᴰ u L → in_run x u.place ≡ false
  clear u m = go (gap.sides u m)
    where
      go : (entry_end u ≤ x.from) ⊎ (x.to ≤ u.place) → in_run x u.place ≡ false
      go (inl h) = out_before x u.place (omega (arith, (row r a pos).bytes u m))
      go (inr h) = out_after x u.place h

  listed : guarded_listing r' a ≡ insert_entry (at x.from name kind put) L
  listed = new_listing r a big every_taken x free_slot name kind put fit typed len-fits mem.2 ok.without_magic
      ∙ ap (insert_entry (at x.from name kind put)) (filter-all (λ t. not (in_run x t.place)) L (λ u m. ap not (clear u m)))

  accepted : Accepted r' a
  accepted = accept r' a pos (new_every_taken r a big every_taken x free_slot name kind put fit typed len-fits mem.2 ok.without_magic)
      (rw listed (omega (arith, length_insert (at x.from name kind put) L, ap length same, ok.passes_to_13.at_most)))
      (rw listed (distinct_insert (at x.from name kind put) L (rw same at ok.passes_to_13.unused) (rw same at acc.names_are_distinct)))

  member : Memᴰ (at x.from name kind put) (guarded_listing r' a)
  member = new_listed r a big every_taken x free_slot name kind put fit typed len-fits mem.2 ok.without_magic

  own : (i : ℕ) → in_run x i ≡ true → in_slots (λ q. eqb q x.from) r' a i ≡ true
  own i e =
      let b = in_true x i e in
      same_slot (λ q. eqb q x.from) (length r') (guarded_listing r' a) x.from i b.0
      (omega (arith, b.1, free_slot.inside, filled_length r x s mem.2 free_slot.inside)) free
      ∙ place_in_slots r' a pos (λ q. eqb q x.from) (at x.from name kind put) member
      ∙ eq-eqb x.from x.from refl
    where
      free : Outside (guarded_listing r' a) x.from i
      free d m lt le =
          omega (
            arith,
            ap (λ (w : Entry). w.place)
                (alone r a big every_taken x free_slot name kind put fit typed len-fits mem.2 ok.without_magic d m
                (in_of x d.place (omega arith) (omega (arith, in_true x i e)))),
          )

  -- The slot is the run.
  in_run_lem : (i : ℕ) → in_slots (λ q. eqb q x.from) r' a i ≡ true → x.from ≤ i → i < x.to
  in_run_lem i e h = let c = slot_outside r' a pos x.from i e h in
      go c.0 (omega (arith, c.1, filled_length r x s mem.2 free_slot.inside)) gap.ends (dec_lt i x.to)
    where
      go : Outside (guarded_listing r' a) x.from i → i < length r → (length r ≤ x.to) ⊎ ((d : Entry) × Memᴰ d L × (d.place ≡ x.to))
          → Dec (i < x.to) → i < x.to
      go c lt o (yes k) = k
      go c lt (inl k) (no n) = omega arith
      go c lt (inr (d, m, q)) (no n) = absurd (c d (rw listed (insert_mem (at x.from name kind put) L d m)) (omega (arith, free_slot.long)) (omega arith))

  pub added : Added r a name kind put x.from r'
  added = record {
    accepted = accepted;
    guardedly = listed;
    plainly = rw (walks_agree r' a accepted, same) listed;
    finds = find r' a accepted name (at x.from name kind put) refl member;
    others = other r r' a acc accepted name
        (λ n h. rw listed (filter_insert (bears n) (at x.from name kind put) L (bears_not n (at x.from name kind put) h)))
        (λ t m h i le lt. outside r a big every_taken x free_slot s mem.2 i (beside i (gap.sides t m) le lt));
    slot = record { same_length = sym (filled_length r x s mem.2 free_slot.inside); other_bytes = λ i e. go i e (in_run x i) refl };
    written = filled_bytes_at r x s mem.2 free_slot.inside;
    erased = λ i e h. filled_ones r x s mem.2 free_slot.inside i h (in_run_lem i e (omega arith));
    fresh = λ u m e. true≢false (sym (in_of x x.from (omega arith) free_slot.long) ∙ rw e at (clear u m));
    held = (mem.1, x, mem.0, omega arith, mem.2);
    least = λ q h. lowest_least r a pos (length s) 0 L (inl (0, omega arith)) (row r a pos) x (rw same at low) q (rw same at h);
  }
    where
      beside : {p e : ℕ} (i : ℕ) → (e ≤ x.from) ⊎ (x.to ≤ p) → p ≤ i → i < e → in_run x i ≡ false
      beside i (inl h) le lt = out_before x i (omega arith)
      beside i (inr h) le lt = out_after x i (omega arith)

      go : (i : ℕ) → in_slots (λ q. eqb q x.from) r' a i ≡ false → (b : Bool) → in_run x i ≡ b → get_or r i 0 ≡ get_or r' i 0
      go i e false c = sym (outside r a big every_taken x free_slot s mem.2 i c)
      go i e true c = absurd (true≢false (sym (own i c) ∙ e))

-- A slot that is filled anew.
module _ (r : List ℕ) (a : ℕ) (big : 8 ≤ a) (acc : Accepted r a) (name : List ℕ) (z : EntrySlot)
    (is : slot_of (length r) name (plain_listing r a) ≡ Some z) where
  abbrev pos₂ : 0 < a
  pos₂ = omega arith

  abbrev L₂ : List Entry
  L₂ = guarded_listing r a

  abbrev x : Run
  x = z.run

  same₂ : plain_listing r a ≡ L₂
  same₂ = walks_agree r a acc

  every_taken₂ : EveryMagicTaken r a
  every_taken₂ = listed_every_taken r a pos₂ acc.all_taken

  held₂ : SlotOf a (length r) name L₂ z
  held₂ = slot_of_entry r a pos₂ name 0 L₂ (row r a pos₂) z (rw same₂ at is)

  free_slot₂ : FreeSlot r a z.run
  free_slot₂ = entry_slot_free r a pos₂ name z held₂

  distinct₂ : distinct_names L₂ ≡ true
  distinct₂ = rw same₂ at acc.names_are_distinct

  named₂ : z.entry.component.name ≡ name
  named₂ = bears_name_lem name z.entry held₂.borne

  bearer : guarded_lookup r a name ≡ lookup_gives z.entry
  unfolding only_or_refused
  bearer =
      let one : filter (bears name) L₂ ≡ z.entry ∷ [] = rw (← named₂) (lone L₂ distinct₂ z.entry held₂.listed) in
      rw one

  -- Of what is listed only the bearer lies in the slot.
  mine : (u : Entry) → Memᴰ u L₂ → (u ≡ z.entry) ⊎ (in_run z.run u.place ≡ false)
  mine u m = go (held₂.sides u m)
    where
      go : (u ≡ z.entry) ⊎ ((entry_end u ≤ z.run.from) ⊎ (z.run.to ≤ u.place)) → (u ≡ z.entry) ⊎ (in_run z.run u.place ≡ false)
      go (inl q) = inl q
      go (inr (inl h)) = inr (out_before z.run u.place (omega (arith, (row r a pos₂).bytes u m)))
      go (inr (inr h)) = inr (out_after z.run u.place h)

  in_own : in_run z.run z.run.from ≡ true
  in_own = in_of z.run z.run.from (omega arith) held₂.long

  at_own : (u : Entry) → Memᴰ u L₂ → u.place ≡ z.run.from → u ≡ z.entry
  at_own u m e = go (mine u m)
    where
      go : (u ≡ z.entry) ⊎ (in_run z.run u.place ≡ false) → u ≡ z.entry
      go (inl q) = q
      go (inr h) = absurd (true≢false (sym in_own ∙ rw e at h))

  by_place : (u : Entry) → Memᴰ u L₂ → in_run z.run u.place ≡ eqb u.place z.run.from
  by_place u m = go (mine u m)
    where
      go : (u ≡ z.entry) ⊎ (in_run z.run u.place ≡ false) → in_run z.run u.place ≡ eqb u.place z.run.from
      go (inl q) =
          let e : u.place ≡ z.run.from = ap (λ (w : Entry). w.place) q ∙ sym held₂.from in
          rw e in_own ∙ sym (eq-eqb u.place z.run.from e)
      go (inr h) = h ∙ sym (ne_eqb u.place z.run.from (λ e. true≢false (sym in_own ∙ rw e at h)))

  rest_is : filter (λ t. not (in_run z.run t.place)) L₂ ≡ remove_entry z.run.from L₂
  rest_is = filter_same (λ t. not (in_run z.run t.place)) (λ u. not (eqb u.place z.run.from)) L₂ (λ u m. ap not (by_place u m))

  other_out : (u : Entry) → Memᴰ u L₂ → (u.component.name ≡ name → ⊥) → (i : ℕ) → u.place ≤ i → i < entry_end u → in_run z.run i ≡ false
  other_out u m h i le lt = go (held₂.sides u m)
    where
      go : (u ≡ z.entry) ⊎ ((entry_end u ≤ z.run.from) ⊎ (z.run.to ≤ u.place)) → in_run z.run i ≡ false
      go (inl q) = absurd (h (ap (λ (w : Entry). w.component.name) q ∙ named₂))
      go (inr (inl k)) = out_before z.run i (omega arith)
      go (inr (inr k)) = out_after z.run i (omega arith)

  -- The slot, as the strict check's slots have it.
  own₂ : (i : ℕ) → in_slots (λ q. eqb q z.run.from) r a i ≡ in_run z.run i
  own₂ i = slot_within r a pos₂ name 0 L₂ (row r a pos₂) z (rw same₂ at is) i

  slot₂ : (s : List ℕ) → z.run.from + length s ≤ z.run.to → CorruptedRegion (λ q. eqb q z.run.from) r a (slot_filled r z.run s)
  slot₂ s fits =
      record {
        same_length = filled_length r z.run s fits free_slot₂.inside;
        other_bytes = λ i e. outside r a big every_taken₂ z.run free_slot₂ s fits i (sym (own₂ i) ∙ e);
      }

  -- Of another name, nothing at the slot's start is a bearer.
  not_there : (n : List ℕ) → (n ≡ name → ⊥) → (u : Entry) → Memᴰ u L₂ → u.place ≡ z.run.from → bears n u ≡ false
  not_there n h u m e = bears_not n u (λ q. h (q ∙ ap (λ (w : Entry). w.component.name) (at_own u m e) ∙ named₂))

  -- Replace.
  module _ (put : List ℕ) (clean : contains_magic a (span_bytes name z.entry.component.kind put) ≡ false)
      (fits : z.run.from + length (span_bytes name z.entry.component.kind put) ≤ z.run.to) (fit : Fit name)
      (typed₃ : z.entry.component.kind < 256 ^ 4) (len-fits₃ : length put < 256 ^ 4) where
    abbrev s₃ : List ℕ
    s₃ = span_bytes name z.entry.component.kind put

    abbrev t₃ : Entry
    t₃ = at z.run.from name z.entry.component.kind put

    abbrev r₃ : List ℕ
    r₃ = slot_filled r z.run s₃

    same_name_lem : (u : Entry) → Memᴰ u L₂ → u.place ≡ z.run.from → u.component.name ≡ name
    same_name_lem u m e = ap (λ (w : Entry). w.component.name) (at_own u m e) ∙ named₂

    listed₃ : guarded_listing r₃ a ≡ replace_entry t₃ L₂
    listed₃ = new_listing r a big every_taken₂ z.run free_slot₂ name z.entry.component.kind put fit typed₃ len-fits₃ fits clean
        ∙ ap (insert_entry t₃) rest_is
        ∙ insert_replace t₃ L₂ (guarded_rising r a pos₂) z.entry held₂.listed (sym held₂.from)

    accepted₃ : Accepted r₃ a
    accepted₃ = accept r₃ a pos₂ (new_every_taken r a big every_taken₂ z.run free_slot₂ name z.entry.component.kind put fit typed₃ len-fits₃ fits clean)
        (rw listed₃ (omega (arith, length-replace t₃ L₂, ap length same₂, acc.at_most)))
        (rw listed₃ (distinct_replace t₃ L₂ same_name_lem ∙ distinct₂))

    pub replaced : Replaced r a name put z.run.from r₃
    replaced = record {
      old = z.entry;
      was = bearer;
      there = sym held₂.from;
      accepted = accepted₃;
      guardedly = listed₃;
      plainly = rw (walks_agree r₃ a accepted₃, same₂) listed₃;
      finds =
          find r₃ a accepted₃ name t₃ refl (new_listed r a big every_taken₂ z.run free_slot₂ name
          z.entry.component.kind put fit typed₃ len-fits₃ fits clean);
      others = other r r₃ a acc accepted₃ name
          (λ n h. rw listed₃ (filter-replace (bears n) t₃ L₂ (bears_not n t₃ h) (not_there n h)))
          (λ t m h i le lt. outside r a big every_taken₂ z.run free_slot₂ s₃ fits i (other_out t m h i le lt));
      slot = slot₂ s₃ fits;
      written = filled_bytes_at r z.run s₃ fits free_slot₂.inside;
      erased = λ i e h. filled_ones r z.run s₃ fits free_slot₂.inside i h (in_true z.run i (sym (own₂ i) ∙ e)).1;
    }

  -- Remove.
  abbrev r₄ : List ℕ
  r₄ = slot_filled r z.run []

  bare : z.run.from + 0 ≤ z.run.to
  bare = omega (arith, held₂.long)

  no_magic : (p : ℕ) → in_run z.run p ≡ true → magic_at r₄ p ≡ true → ⊥
  no_magic p e c =
      omega (
        arith,
        magic_first_byte r₄ p c,
        filled_ones r z.run [] bare free_slot₂.inside p (omega (arith, in_true z.run p e))
            (in_true z.run p e).1,
      )

  listed₄ : guarded_listing r₄ a ≡ remove_entry z.run.from L₂
  listed₄ = sym (filter-all (λ u. not (in_run z.run u.place)) (guarded_listing r₄ a) (λ u m. stays u m (in_run z.run u.place) refl))
      ∙ rest_same r a big every_taken₂ z.run free_slot₂ [] bare
      ∙ rest_is
    where
      stays : (u : Entry) → Memᴰ u (guarded_listing r₄ a) → (b : Bool) → in_run z.run u.place ≡ b → not b ≡ true
      stays u m false e = refl
      stays u m true e = absurd (no_magic u.place e (guarded_has_magic r₄ a pos₂ u.place u.component (mem_guarded r₄ a pos₂ u m).2))

  accepted₄ : Accepted r₄ a
  accepted₄ = accept r₄ a pos₂
      (still_every_taken r r₄ a big (in_run z.run) (frame r a big every_taken₂ z.run free_slot₂ [] bare) every_taken₂
      (λ p pl e c. absurd (no_magic p e c)))
      (rw listed₄ (omega (arith, length-filter (λ u. not (eqb u.place z.run.from)) L₂, ap length same₂, acc.at_most)))
      (rw listed₄ (two_filter _ (λ u. not (eqb u.place z.run.from)) L₂ distinct₂))

  -- Nothing that is left bears the name.
  none_left : filter (bears name) (guarded_listing r₄ a) ≡ []
  unfolding filter
  none_left =
      ap (filter (bears name)) listed₄ ∙ filter_comm (bears name) (λ u. not (eqb u.place z.run.from)) L₂
      ∙ ap (filter (λ u. not (eqb u.place z.run.from))) one
      ∙ rw (eq-eqb z.entry.place z.run.from (sym held₂.from))
    where
      one : filter (bears name) L₂ ≡ z.entry ∷ []
      one = rw (← named₂) (lone L₂ distinct₂ z.entry held₂.listed)

  pub removed : Removed r a name z.run.from r₄
  unfolding only_or_refused first_or_refused
  removed = record {
    old = z.entry;
    was = bearer;
    there = sym held₂.from;
    accepted = accepted₄;
    guardedly = listed₄;
    plainly = rw (walks_agree r₄ a accepted₄, same₂) listed₄;
    gone = (rw none_left, rw (walks_agree r₄ a accepted₄, none_left));
    others = other r r₄ a acc accepted₄ name
        (λ n h. rw listed₄ (filter_removed (bears n) z.run.from L₂ (not_there n h)))
        (λ t m h i le lt. outside r a big every_taken₂ z.run free_slot₂ [] bare i (other_out t m h i le lt));
    slot = slot₂ [] bare;
    erased = λ i e. let b = in_true z.run i (sym (own₂ i) ∙ e) in filled_ones r z.run [] bare free_slot₂.inside i (omega (arith, b.0)) b.1;
  }

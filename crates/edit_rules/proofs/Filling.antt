-- A run of the region is written anew: the magics in it, and what is listed afterwards.
use Prim.Native.Nat.{ℕ, ◌+◌, ◌*◌, ◌-◌, ◌^◌, ◌≤◌, ◌<◌}
use native.Mathlib.Nat.{add-zero, lt_of_mul-lt-mul_right}
use native.Mathlib.Omega.{arith}
use native.Mathlib.Decide.{dec_le, dec_lt}
use mathlib.Core.Path.{◌≡◌, refl, sym, ap, ◌∙◌}
use mathlib.Core.List.{List, Memᴰ}
use mathlib.Core.Logic.{◌⊎◌, inl, inr}
use mathlib.Core.Bool.{Bool, true, false, not, ◌&&◌, true≢false}
use Rattle.std.specs.Prelude.{Some}
use Rattle.std.proofs.lemmas.Option.{same_Some}
use lib.ListN.{length, get_or, take, drop, length-drop}
use lib.Seq.{get_or-take, get_or-drop, take-append-le, drop-append-le, drop-drop}
use lib.Dec.{leb, ltb, lit<}
use borrow.Author.Tests.{leb-true, ltb-true, le-leb, lt-leb, lt-ltb, le-ltb}
use Rattle.bytes_read.proofs.SameBytes.{eq_true}
use Rattle.component.specs.Component.{Component, span_length, magic, starts_with_magic}
use Rattle.bytes_read.specs.Lists.{filter}
use Rattle.walk.specs.Walk.{Entry, entry_end, magic_at, plain_pick, guarded_pick, guarded_listing, Place}
use Rattle.walk.proofs.Picks.{magic-fits, no_magic_inside, magic_inside_of, guarded_of, guarded_has_magic}
use Rattle.bytes_read.proofs.Tested.{both_true}
use Rattle.strict_rules.proofs.Frames.{Frame, mem_guarded, guarded_mem, place_far, same_rest, still_every_taken}
use Rattle.strict_rules.proofs.Slots.{guarded_rising}
use Rattle.edit_rules.specs.Edit.{Run, contains_magic, span_bytes, slot_filled, insert_entry, new_component}
use Rattle.edit_rules.proofs.Written.{Fit, judge-written, length_span, filled_length, filled_before, filled_ones, filled_after, filled_part}
use Rattle.edit_rules.proofs.Lists.{insert_back}
use Rattle.strict_rules.specs.Strict.{EveryMagicTaken}

-- The letters of a magic that is carried: its first and its last.

pub magic_bytes : (s : List ℕ) (q : ℕ) → magic_at s q ≡ true → (j : ℕ) → j < 8 → get_or s (q + j) 0 ≡ get_or magic j 0
unfolding magic_at starts_with_magic
magic_bytes s q e j h = sym (get_or-take 8 (drop q s) j 0 h ∙ get_or-drop q s j 0) ∙ ap (λ (l : List ℕ). get_or l j 0) (eq_true (take 8 (drop q s)) magic e)

pub magic_first_byte : (s : List ℕ) (q : ℕ) → magic_at s q ≡ true → get_or s q 0 ≡ 76
unfolding magic
magic_first_byte s q e = ap (λ (n : ℕ). get_or s n 0) (sym (add-zero q)) ∙ magic_bytes s q e 0 (lit< tt)

magic_last_byte : (s : List ℕ) (q : ℕ) → magic_at s q ≡ true → get_or s (q + 7) 0 ≡ 69
unfolding magic
magic_last_byte s q e = magic_bytes s q e 7 (lit< tt)

place_diff : (a p q : ℕ) → Place a p → Place a q → p < q → Place a (q - p)
place_diff a p q (i, pe) (j, qe) lt =
    let ij : i < j = lt_of_mul-lt-mul_right a {m = i} {n = j} (omega arith) in
    (j - i, go (j - i) (omega arith))
  where
    go : (d : ℕ) → j ≡ i + d → q - p ≡ d * a
    go d f = let k : q ≡ (i + d) * a = rw f at qe in omega arith

-- A run that may be filled: it begins at a place, ends at a place or the region's end, and no span reaches into it from before.
pub record FreeSlot (r : List ℕ) (a : ℕ) (x : Run) : Type 0 where
  pub at : Place a x.from
  pub long : x.from < x.to
  pub inside : x.to ≤ length r
  pub stop : Place a x.to ⊎ (length r ≤ x.to)
  pub before : (t : Entry) → Memᴰ t (guarded_listing r a) → t.place < x.from → entry_end t ≤ x.from

-- The byte lies in the run.
unfoldable pub in_run : Run → ℕ → Bool
in_run x i = leb x.from i && ltb i x.to

pub in_true : (x : Run) (i : ℕ) → in_run x i ≡ true → (x.from ≤ i) × (i < x.to)
unfolding in_run
in_true x i e = let c = both_true (leb x.from i) (ltb i x.to) e in (leb-true x.from i c.0, ltb-true i x.to c.1)

pub in_of : (x : Run) (i : ℕ) → x.from ≤ i → i < x.to → in_run x i ≡ true
unfolding in_run
in_of x i h k = rw (le-leb x.from i h, lt-ltb i x.to k)

pub out_before : (x : Run) (i : ℕ) → i < x.from → in_run x i ≡ false
unfolding in_run
out_before x i h = rw (lt-leb x.from i h)

pub out_after : (x : Run) (i : ℕ) → x.to ≤ i → in_run x i ≡ false
unfolding in_run
out_after x i h = rw (le-ltb i x.to h) (go (leb x.from i))
  where
    go : (b : Bool) → b && false ≡ false
    go true = refl
    go false = refl

pub in_false : (x : Run) (i : ℕ) → in_run x i ≡ false → (i < x.from) ⊎ (x.to ≤ i)
in_false x i e = go (dec_lt i x.from) (dec_le x.to i)
  where
    go : Dec (i < x.from) → Dec (x.to ≤ i) → (i < x.from) ⊎ (x.to ≤ i)
    go (yes h) d = inl h
    go (no h) (yes k) = inr k
    go (no h) (no k) = absurd (true≢false (sym (in_of x i (omega arith) (omega arith)) ∙ e))

entry_eq : (u t : Entry) → u.place ≡ t.place → u.component ≡ t.component → u ≡ t
entry_eq u t p q =
    let e : ◌≡◌ {A = Entry} (record { place = u.place; component = u.component }) (record { place = t.place; component = t.component }) = rw (p, q) in e

module _ (r : List ℕ) (a : ℕ) (big : 8 ≤ a) (every_taken : EveryMagicTaken r a) (x : Run) (free_slot : FreeSlot r a x) (s : List ℕ)
    (fits : x.from + length s ≤ x.to) where
  abbrev pos : 0 < a
  pos = omega arith

  abbrev r' : List ℕ
  r' = slot_filled r x s

  same_length : length r' ≡ length r
  same_length = filled_length r x s fits free_slot.inside

  -- No byte outside the run changes.
  pub outside : (i : ℕ) → in_run x i ≡ false → get_or r' i 0 ≡ get_or r i 0
  outside i e = go (in_false x i e)
    where
      go : (i < x.from) ⊎ (x.to ≤ i) → get_or r' i 0 ≡ get_or r i 0
      go (inl h) = filled_before r x s fits free_slot.inside i h
      go (inr h) = filled_after r x s fits free_slot.inside i h

  pub frame : Frame r a (in_run x) r'
  frame = record {
    same_length = same_length;
    rest = outside;
    cells = λ p i pl e le lt l. cell p i pl le lt (in_false x p e);
    spans = λ p h pl g e i le lt. in_span p h pl g i le lt (in_false x p e);
  }
    where
      cell : (p i : ℕ) → Place a p → p ≤ i → i < p + a → (p < x.from) ⊎ (x.to ≤ p) → in_run x i ≡ false
      cell p i pl le lt (inl h) = out_before x i (omega (arith, place_far a p x.from pl free_slot.at h))
      cell p i pl le lt (inr h) = out_after x i (omega arith)

      in_span : (p : ℕ) (h : Component) → Place a p → guarded_pick r a p ≡ Some h → (i : ℕ) → p ≤ i → i < p + span_length h → (p < x.from) ⊎ (x.to ≤ p)
          → in_run x i ≡ false
      in_span p h pl g i le lt (inl k) =
          out_before x i (omega (arith, free_slot.before (record { place = p; component = h }) (guarded_mem r a pos p h pl g) k))
      in_span p h pl g i le lt (inr k) = out_after x i (omega arith)

  -- No magic stands in the run after its start, if the bytes contain none.
  pub no_magic : contains_magic a s ≡ false → (p : ℕ) → Place a p → x.from < p → p < x.to → magic_at r' p ≡ false
  unfolding contains_magic
  no_magic clean p pl lt lt' = go (magic_at r' p) refl (dec_le (p + 8) (x.from + length s))
    where
      here : (q : ℕ) → p ≡ x.from + q → q + 8 ≤ length s → take 8 (drop p r') ≡ take 8 (drop q s)
      here q e h =
          let d : drop p r' ≡ drop q (drop x.from r') = rw e (sym (drop-drop q x.from r')) in
          rw (d, filled_part r x s fits free_slot.inside)
          (ap (take 8) (drop-append-le q s _ (omega arith)) ∙ take-append-le 8 (drop q s) _ (simp length-drop (omega arith)))

      wholly : (q : ℕ) → p ≡ x.from + q → q + 8 ≤ length s → magic_at s q ≡ magic_at r' p
      wholly q e h = unfold magic_at starts_with_magic in rw (here q e h)

      near : magic_at r' p ≡ true → Place a x.to ⊎ (length r ≤ x.to) → p + 7 < x.to
      near c (inl t) = omega (arith, place_far a p x.to pl t lt')
      near c (inr l) = omega (arith, magic-fits r' p c, same_length)

      go : (b : Bool) → magic_at r' p ≡ b → Dec (p + 8 ≤ x.from + length s) → b ≡ false
      go false e d = refl
      go true e (yes h) = sym (wholly (p - x.from) (omega arith) (omega arith) ∙ e)
          ∙ no_magic_inside s a pos 0 (length s) (0, omega arith) clean (p - x.from) (place_diff a x.from p free_slot.at pl lt) (omega arith)
          (omega arith)
      go true e (no n) =
          absurd (omega (arith, magic_last_byte r' p e, filled_ones r x s fits free_slot.inside (p + 7) (omega arith) (near e free_slot.stop)))

  pub rest_same : filter (λ t. not (in_run x t.place)) (guarded_listing r' a) ≡ filter (λ t. not (in_run x t.place)) (guarded_listing r a)
  rest_same = same_rest r r' a big (in_run x) frame every_taken

-- The run is filled with a component.
module _ (r : List ℕ) (a : ℕ) (big : 8 ≤ a) (every_taken : EveryMagicTaken r a) (x : Run) (free_slot : FreeSlot r a x) (name : List ℕ) (kind : ℕ)
    (put : List ℕ) (fit : Fit name) (typed : kind < 256 ^ 4) (len-fits : length put < 256 ^ 4)
    (fits : x.from + length (span_bytes name kind put) ≤ x.to) (clean : contains_magic a (span_bytes name kind put) ≡ false) where
  abbrev pos₂ : 0 < a
  pos₂ = omega arith

  abbrev s : List ℕ
  s = span_bytes name kind put

  abbrev r'' : List ℕ
  r'' = slot_filled r x s

  abbrev pub new : Entry
  new = record { place = x.from; component = new_component name kind put }

  new_plain : plain_pick r'' x.from ≡ Some (new_component name kind put)
  unfolding plain_pick
  new_plain = rw (filled_part r x s fits free_slot.inside) (judge-written name kind put _ fit typed len-fits)

  pub new_guarded : guarded_pick r'' a x.from ≡ Some (new_component name kind put)
  new_guarded = guarded_of r'' a pos₂ x.from (new_component name kind put) new_plain
      (magic_inside_of r'' a pos₂ x.from (span_length (new_component name kind put))
      (λ q pl lt lt'. no_magic r a big every_taken x free_slot s fits clean q pl lt (omega (arith, length_span name kind put))) free_slot.at)

  pub new_listed : Memᴰ new (guarded_listing r'' a)
  new_listed = guarded_mem r'' a pos₂ x.from (new_component name kind put) free_slot.at new_guarded

  -- Nothing else is listed from the run.
  pub alone : (u : Entry) → Memᴰ u (guarded_listing r'' a) → in_run x u.place ≡ true → u ≡ new
  alone u m e = go (dec_lt x.from u.place)
    where
      f : Place a u.place × (u.place < length r'') × (guarded_pick r'' a u.place ≡ Some u.component)
      f = mem_guarded r'' a pos₂ u m

      go : Dec (x.from < u.place) → u ≡ record { place = x.from; component = new_component name kind put }
      go (yes lt) =
          absurd (true≢false (sym (guarded_has_magic r'' a pos₂ u.place u.component f.2)
          ∙ no_magic r a big every_taken x free_slot s fits clean u.place f.0 lt (in_true x u.place e).1))
      go (no n) =
          let q : u.place ≡ x.from = omega (arith, in_true x u.place e) in
          entry_eq u (record { place = x.from; component = new_component name kind put }) q (same_Some _ _ (sym f.2 ∙ rw q new_guarded))

  -- What is listed afterwards: what was listed outside the run, with the component put in.
  pub new_listing : guarded_listing r'' a ≡ insert_entry new (filter (λ t. not (in_run x t.place)) (guarded_listing r a))
  new_listing = insert_back (in_run x) new (in_of x x.from (omega arith) free_slot.long) (guarded_listing r'' a) (guarded_rising r'' a pos₂) new_listed alone
      ∙ ap (insert_entry new) (rest_same r a big every_taken x free_slot s fits)

  pub new_every_taken : EveryMagicTaken r'' a
  new_every_taken =
      still_every_taken r r'' a big (in_run x) (frame r a big every_taken x free_slot s fits) every_taken (λ p pl e c. go p pl e c (dec_lt x.from p))
    where
      go : (p : ℕ) → Place a p → in_run x p ≡ true → magic_at r'' p ≡ true → Dec (x.from < p) → (h : Component) × (guarded_pick r'' a p ≡ Some h)
      go p pl e c (yes lt) = absurd (true≢false (sym c ∙ no_magic r a big every_taken x free_slot s fits clean p pl lt (in_true x p e).1))
      go p pl e c (no n) = let q : p ≡ x.from = omega (arith, in_true x p e) in (new_component name kind put, rw q new_guarded)

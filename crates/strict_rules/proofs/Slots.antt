-- Slots are whole cells and hold whole spans (the order, demand 3).
use Prim.Native.Nat.{ℕ, zero, suc, ◌+◌, ◌*◌, ◌≤◌, ◌<◌}
use native.Mathlib.Omega.{arith}
use native.Mathlib.Decide.{dec_le, dec_lt}
use mathlib.Core.Path.{◌≡◌, refl, sym, ap, ◌∙◌}
use mathlib.Core.List.Memᴰ
use mathlib.Core.List.{List, [], ◌∷◌, Memᴰ}
use mathlib.Core.Logic.{◌⊎◌, inl, inr}
use mathlib.Core.Bool.{Bool, true, false, ◌&&◌, true≢false, and-true, and-false, or-false}
use Rattle.std.specs.Prelude.{Option, Some, None}
use lib.ListN.{length}
use lib.Dec.{leb, ltb, eqb}
use borrow.Author.Tests.{le-leb, lt-leb, lt-ltb, le-ltb, ne_eqb}
use Rattle.component.specs.Component.{Component, span_length}
use Rattle.walk.specs.Walk.{Entry, Pick, entry_end, place_count_below, places, guarded_pick, guarded_listing, picked, prepend, Place}
use Rattle.walk.proofs.Places.{mem_places}
use Rattle.walk.proofs.Picks.{no_magic_inside, guarded_plain, guarded_has_magic, guarded_fits, guarded_context_free}
use Rattle.strict_rules.specs.Slots.{first_start, in_slots_of, in_slots, CorruptedRegion}
use Rattle.strict_rules.proofs.Picked.{mem_picked}
use Rattle.strict_rules.proofs.Frames.{Frame, mem_guarded, place_far, same_component}

leb_same : (m n m' n' : ℕ) → (m ≤ n → m' ≤ n') → (m' ≤ n' → m ≤ n) → leb m n ≡ leb m' n'
leb_same m n m' n' f g = go (dec_le m n)
  where
    go : Dec (m ≤ n) → leb m n ≡ leb m' n'
    go (yes h) = le-leb m n h ∙ sym (le-leb m' n' (f h))
    go (no h) = lt-leb m n (omega arith) ∙ sym (by (dec_le m' n'))
      where
        by : Dec (m' ≤ n') → leb m' n' ≡ false
        by (yes k) = absurd (h (g k))
        by (no k) = lt-leb m' n' (omega arith)

-- No component of the list starts after p and at or before i.
abbrev pub Outside : List Entry → ℕ → ℕ → Type 0
Outside l p i = (d : Entry) → Memᴰ d l → p < d.place → d.place ≤ i → ⊥

module _ (set : ℕ → Bool) (e : ℕ) where
  start_same : (l : List Entry) (p i : ℕ) → p ≤ i → i < e → Outside l p i → ltb i (first_start e l) ≡ ltb p (first_start e l)
  unfolding first_start
  start_same [] p i h k c = leb_same (suc i) e (suc p) e (omega arith) (omega arith)
  start_same (t ∷ ts) p i h k c = leb_same (suc i) t.place (suc p) t.place (omega arith) (λ q. by q (dec_lt i t.place))
    where
      by : suc p ≤ t.place → Dec (suc i ≤ t.place) → suc i ≤ t.place
      by q (yes y) = y
      by q (no n) = absurd (c t (Memᴰ.head refl) q (omega arith))

  -- Where no component starts between, two bytes lie in one slot, or both before the first.
  pub same_slot : (l : List Entry) (p i : ℕ) → p ≤ i → i < e → Outside l p i → in_slots_of set e l i ≡ in_slots_of set e l p
  unfolding in_slots_of
  same_slot [] p i h k c = refl
  same_slot (t ∷ ts) p i h k c = rw (here, start_same ts p i h k (λ d m. c d (Memᴰ.tail m)), same_slot ts p i h k (λ d m. c d (Memᴰ.tail m)))
    where
      by : t.place ≤ i → Dec (t.place ≤ p) → t.place ≤ p
      by q (yes y) = y
      by q (no n) = absurd (c t (Memᴰ.head refl) (omega arith) q)

      here : leb t.place i ≡ leb t.place p
      here = leb_same t.place i t.place p (λ q. by q (dec_le t.place p)) (omega arith)

-- The last component that starts after p and at or before i.
pub record Last (l : List Entry) (p i : ℕ) : Type 0 where
  pub one : Entry
  pub listed : Memᴰ one l
  pub after : p < one.place
  pub before : one.place ≤ i
  pub clear : Outside l one.place i

outside_cons : (t : Entry) (ts : List Entry) (p i : ℕ) → (p < t.place → t.place ≤ i → ⊥) → Outside ts p i → Outside (t ∷ ts) p i
outside_cons t ts p i f c d m lt le = go (Memᴰ.cases_cons m)
  where
    go : (d ≡ t) ⊎ Memᴰ d ts → ⊥
    go (inl q) = f (rw q at lt) (rw q at le)
    go (inr n) = c d n lt le

pub last : (l : List Entry) (p i : ℕ) → Outside l p i ⊎ Last l p i
last [] p i = inl (λ d m lt le. Memᴰ.not-nil m)
last (t ∷ ts) p i = go (dec_lt p t.place) (dec_le t.place i) (last ts p i)
  where
    out : (p < t.place → t.place ≤ i → ⊥) → Outside ts p i ⊎ Last ts p i → Outside (t ∷ ts) p i ⊎ Last (t ∷ ts) p i
    out f (inl c) = inl (outside_cons t ts p i f c)
    out f (inr m) = inr (record {
      one = m.one;
      listed = Memᴰ.tail m.listed;
      after = m.after;
      before = m.before;
      clear = outside_cons t ts m.one.place i (λ lt le. f (omega (arith, m.after)) le) m.clear;
    })

    later : p < t.place → t.place ≤ i → (m : Last ts p i) → Dec (m.one.place < t.place) → Last (t ∷ ts) p i
    later lt le m (yes y) = record {
      one = t;
      listed = Memᴰ.head refl;
      after = lt;
      before = le;
      clear = outside_cons t ts t.place i (λ k _. omega arith) (λ d n k l. m.clear d n (omega arith) l);
    }
    later lt le m (no n) = record {
      one = m.one;
      listed = Memᴰ.tail m.listed;
      after = m.after;
      before = m.before;
      clear = outside_cons t ts m.one.place i (λ k _. n k) m.clear;
    }

    go : Dec (p < t.place) → Dec (t.place ≤ i) → Outside ts p i ⊎ Last ts p i → Outside (t ∷ ts) p i ⊎ Last (t ∷ ts) p i
    go (no n) b c = out (λ lt le. n lt) c
    go (yes lt) (no n) c = out (λ _ le. n le) c
    go (yes lt) (yes le) (inl c) = inr (record {
      one = t;
      listed = Memᴰ.head refl;
      after = lt;
      before = le;
      clear = outside_cons t ts t.place i (λ k _. omega arith) (λ d n k l. c d n (omega arith) l);
    })
    go (yes lt) (yes le) (inr m) = inr (later lt le m (dec_lt m.one.place t.place))

-- The slots of a set are whole cells, and hold whole spans.
module _ (r : List ℕ) (a : ℕ) (big : 8 ≤ a) (set : ℕ → Bool) where
  abbrev pos : 0 < a
  pos = omega arith

  -- No component starts within a cell, after its first byte.
  outside_cell : (p i : ℕ) → Place a p → i < p + a → Outside (guarded_listing r a) p i
  outside_cell p i pl lt d m k l = omega (arith, place_far a p d.place pl (mem_guarded r a pos d m).0 k)

  -- No component starts within the span of one that may be taken, after its first byte.
  outside_span : (p : ℕ) (h : Component) → Place a p → guarded_pick r a p ≡ Some h → (i : ℕ) → i < p + span_length h → Outside (guarded_listing r a) p i
  outside_span p h pl e i lt d m k l =
      let f = mem_guarded r a pos d m in
      true≢false (sym (guarded_has_magic r a pos d.place d.component f.2)
      ∙ no_magic_inside r a pos p (span_length h) pl (guarded_plain r a pos p h e).1 d.place f.0 k (omega arith))

  pub slot_frame : (r' : List ℕ) → CorruptedRegion set r a r' → Frame r a (in_slots set r a) r'
  slot_frame r' sp = record {
    same_length = sp.same_length;
    rest = sp.other_bytes;
    cells = λ p i pl q le lt l. same_slot set (length r) (guarded_listing r a) p i le l (outside_cell p i pl lt) ∙ q;
    spans =
        λ p h pl e q i le lt. same_slot set (length r) (guarded_listing r a) p i le (omega (arith, (guarded_fits r a pos p h e).1)) (outside_span p h pl e i lt)
        ∙ q;
  }

  -- What is listed from a corrupted slot lies in corrupted slots.
  pub corrupted_inside : (r' : List ℕ) → CorruptedRegion set r a r' → (t : Entry) → Memᴰ t (guarded_listing r' a) → in_slots set r a t.place ≡ true
      → (i : ℕ) → t.place ≤ i → i < entry_end t → in_slots set r a i ≡ true
  corrupted_inside r' sp t m q i le lt = go (in_slots set r a i) refl (last (guarded_listing r a) t.place i)
    where
      f : Place a t.place × (t.place < length r') × (guarded_pick r' a t.place ≡ Some t.component)
      f = mem_guarded r' a pos t m

      i< : i < length r
      i< = omega (arith, guarded_fits r' a pos t.place t.component f.2, sp.same_length)

      go : (b : Bool) → in_slots set r a i ≡ b → Outside (guarded_listing r a) t.place i ⊎ Last (guarded_listing r a) t.place i → b ≡ true
      go true e c = refl
      go false e (inl c) = sym e ∙ same_slot set (length r) (guarded_listing r a) t.place i le i< c ∙ q
      go false e (inr d) =
          let g = mem_guarded r a pos d.one d.listed in
          let out : in_slots set r a d.one.place ≡ false =
          sym (same_slot set (length r) (guarded_listing r a) d.one.place i d.before i< d.clear) ∙ e in
          let c =
          guarded_has_magic r' a pos d.one.place d.one.component
          (same_component r r' a big (in_slots set r a) (slot_frame r' sp) d.one.place d.one.component g.0 out g.2) in
          absurd (true≢false (sym c ∙ no_magic_inside r' a pos t.place (span_length t.component) f.0
          (guarded_plain r' a pos t.place t.component f.2).1 d.one.place g.0 d.after (omega (arith, d.before))))

-- Each starts before all that follow it.
abbrev pub Rising : List Entry → Type 0
Rising [] = Unit {0}
Rising (t ∷ ts) = ((d : Entry) → Memᴰ d ts → t.place < d.place) × Rising ts

picked_rising : (pick : Pick) (a k p : ℕ) → 0 < a → Rising (picked pick (places a k p))
unfolding picked places prepend
picked_rising pick a zero p pos = tt
picked_rising pick a (suc k) p pos = go (pick p) (picked_rising pick a k (p + a) pos)
  where
    go : (o : Option Component) → Rising (picked pick (places a k (p + a))) → Rising (prepend p o (picked pick (places a k (p + a))))
    go None ih = ih
    go (Some h) ih = ((λ d m. by d (mem_places a k (p + a) d.place (mem_picked pick (places a k (p + a)) d m).0)), ih)
      where
        by : (d : Entry) → (i : ℕ) × (i < k) × (d.place ≡ p + a + i * a) → p < d.place
        by d (i, lt, e) = omega arith

pub guarded_rising : (r : List ℕ) (a : ℕ) → 0 < a → Rising (guarded_listing r a)
guarded_rising r a pos = rw (guarded_context_free r a pos) (picked_rising (guarded_pick r a) a (place_count_below a (length r)) 0 pos)

module _ (set : ℕ → Bool) (e : ℕ) where
  within_before : (l : List Entry) (i : ℕ) → ((d : Entry) → Memᴰ d l → i < d.place) → in_slots_of set e l i ≡ false
  unfolding in_slots_of
  within_before [] i h = refl
  within_before (t ∷ ts) i h =
      rw (lt-leb t.place i (h t (Memᴰ.head refl)), and-false (set t.place), within_before ts i (λ d m. h d (Memᴰ.tail m)))

  pub start_after : (l : List Entry) (p : ℕ) → p < e → ((d : Entry) → Memᴰ d l → p < d.place) → p < first_start e l
  unfolding first_start
  start_after [] p h k = h
  start_after (t ∷ ts) p h k = k t (Memᴰ.head refl)

  pub start_before : (l : List Entry) → Rising l → (t : Entry) → Memᴰ t l → first_start e l ≤ t.place
  unfolding first_start
  start_before [] up t m = absurd (Memᴰ.not-nil m)
  start_before (x ∷ xs) up t m = go (Memᴰ.cases_cons m)
    where
      go : (t ≡ x) ⊎ Memᴰ t xs → x.place ≤ t.place
      go (inl q) = omega (arith, ap (λ (u : Entry). u.place) q)
      go (inr n) = omega (arith, up.0 t n)

  -- Past the region's end there is no slot.
  pub within_past : (l : List Entry) → ((d : Entry) → Memᴰ d l → d.place ≤ e) → (i : ℕ) → e ≤ i → in_slots_of set e l i ≡ false
  unfolding in_slots_of first_start
  within_past [] below i h = refl
  within_past (t ∷ ts) below i h = rw (
    le-ltb i (first_start e ts) (omega (arith, start_below ts (λ d m. below d (Memᴰ.tail m)))),
    and-false (set t.place && leb t.place i),
    within_past ts (λ d m. below d (Memᴰ.tail m)) i h,
  )
    where
      start_below : (l : List Entry) → ((d : Entry) → Memᴰ d l → d.place ≤ e) → first_start e l ≤ e
      start_below [] b = omega arith
      start_below (u ∷ us) b = b u (Memᴰ.head refl)

  -- The start of a component lies in its own slot.
  pub start_in_slot : (l : List Entry) → Rising l → (t : Entry) → Memᴰ t l → t.place < e → in_slots_of set e l t.place ≡ set t.place
  unfolding in_slots_of
  start_in_slot [] up t m lt = absurd (Memᴰ.not-nil m)
  start_in_slot (x ∷ xs) up t m lt = go (Memᴰ.cases_cons m) (λ n. start_in_slot xs up.1 t n lt)
    where
      go : (t ≡ x) ⊎ Memᴰ t xs → (Memᴰ t xs → in_slots_of set e xs t.place ≡ set t.place) → in_slots_of set e (x ∷ xs) t.place ≡ set t.place
      go (inl q) ih =
          let x< : x.place < e = rw q at lt in
          rw (
            q,
            le-leb x.place x.place (omega arith),
            lt-ltb x.place (first_start e xs) (start_after xs x.place x< up.0),
            within_before xs x.place up.0,
          )
          (or-false _ ∙ and-true _ ∙ and-true (set x.place))
      go (inr n) ih = rw (le-ltb t.place (first_start e xs) (start_before xs up.1 t n), and-false (set x.place && leb x.place t.place)) (ih n)

-- The place of a component lies in a slot of the set exactly if the set has its slot.
pub place_in_slots : (r : List ℕ) (a : ℕ) → 0 < a → (set : ℕ → Bool) (t : Entry) → Memᴰ t (guarded_listing r a)
    → in_slots set r a t.place ≡ set t.place
place_in_slots r a pos set t m = start_in_slot set (length r) (guarded_listing r a) (guarded_rising r a pos) t m (mem_guarded r a pos t m).1

-- A byte of the slot at p, at p or after it: no component starts between, and it lies in the region.
pub slot_outside : (r : List ℕ) (a : ℕ) → 0 < a → (p i : ℕ) → in_slots (λ q. eqb q p) r a i ≡ true → p ≤ i → Outside (guarded_listing r a) p i × (i < length r)
slot_outside r a pos p i e h = (go (last (guarded_listing r a) p i), short)
  where
    short : i < length r
    short = by (dec_lt i (length r))
      where
        by : Dec (i < length r) → i < length r
        by (yes k) = k
        by (no k) =
            absurd (true≢false (sym e ∙ within_past (λ q. eqb q p) (length r) (guarded_listing r a) (λ d m. omega (arith, (mem_guarded r a pos d m).1)) i
            (omega arith)))

    go : Outside (guarded_listing r a) p i ⊎ Last (guarded_listing r a) p i → Outside (guarded_listing r a) p i
    go (inl c) = c
    go (inr d) = absurd (true≢false (
        sym e
        ∙ same_slot (λ q. eqb q p) (length r) (guarded_listing r a) d.one.place i d.before short d.clear
        ∙ place_in_slots r a pos (λ q. eqb q p) d.one d.listed
        ∙ ne_eqb d.one.place p (λ q. omega (arith, d.after))
        ))

-- Free runs and slots: what they are between the components that are listed.
use Prim.Native.Nat.{ℕ, ◌+◌, ◌≤◌, ◌<◌}
use native.Mathlib.Omega.{arith}
use mathlib.Core.Path.{◌≡◌, refl, sym, ap, subst, ◌∙◌}
use mathlib.Core.List.Memᴰ
use mathlib.Core.List.{List, [], ◌∷◌, Memᴰ}
use mathlib.Core.Logic.{◌⊎◌, inl, inr}
use mathlib.Core.Bool.{Bool, true, false, cond, ◌&&◌, ◌||◌, true≢false}
use Rattle.std.specs.Prelude.{Some, None}
use Rattle.std.proofs.lemmas.Option.{same_Some, none-some}
use lib.ListN.{length}
use lib.Dec.{leb, ltb, eqb}
use borrow.Author.Tests.{leb-true, le-leb, eq-eqb, ne_eqb}
use Rattle.walk.specs.Walk.{Entry, entry_end, next_place, next, guarded_pick, guarded_listing, Place}
use Rattle.walk_lookup.specs.Lookup.{bears}
use Rattle.walk.proofs.Places.{below_ge, below_least}
use Rattle.walk.proofs.Steps.{listing-disjoint, next_place_end}
use Rattle.walk.proofs.Picks.{guarded_fits}
use Rattle.strict_rules.specs.Slots.{first_start, in_slots_of}
use Rattle.bytes_read.proofs.Tested.{both_true}
use Rattle.strict_rules.proofs.Frames.{mem_guarded}
use Rattle.strict_rules.proofs.Slots.{Rising, guarded_rising, start_after, start_before}
use Rattle.edit_rules.specs.Edit.{Run, run_fits, runs, lowest_fitting, EntrySlot, slot_of, FitsRunAt}
use Rattle.edit_rules.proofs.Filling.{FreeSlot, in_run}

-- The run holds n bytes, by the test and by the numbers.

pub run_fits_true : (n : ℕ) (x : Run) → run_fits n x ≡ true → (n ≤ 0xFFFFFFFF) × (x.from + n ≤ x.to)
run_fits_true n x e = let b = both_true (leb n 0xFFFFFFFF) (leb (x.from + n) x.to) e in
    (leb-true n 0xFFFFFFFF b.0, leb-true (x.from + n) x.to b.1)

pub run_fits_of : (n : ℕ) (x : Run) → n ≤ 0xFFFFFFFF → x.from + n ≤ x.to → run_fits n x ≡ true
run_fits_of n x h k = rw (le-leb n 0xFFFFFFFF h, le-leb (x.from + n) x.to k)

-- Components in their order below e, from n on: at places, one after the other.
pub record Row (a e n : ℕ) (l : List Entry) : Type 0 where
  pub up : Rising l
  pub from : (d : Entry) → Memᴰ d l → n ≤ d.place
  pub at : (d : Entry) → Memᴰ d l → Place a d.place
  pub below : (d : Entry) → Memᴰ d l → d.place < e
  pub bytes : (d : Entry) → Memᴰ d l → d.place < entry_end d
  pub fits : (d : Entry) → Memᴰ d l → entry_end d ≤ e
  pub disjoint : (d f : Entry) → Memᴰ d l → Memᴰ f l → d.place < f.place → entry_end d ≤ f.place

pub row : (r : List ℕ) (a : ℕ) → 0 < a → Row a (length r) 0 (guarded_listing r a)
row r a pos = record {
  up = guarded_rising r a pos;
  from = λ d m. omega arith;
  at = λ d m. (mem_guarded r a pos d m).0;
  below = λ d m. (mem_guarded r a pos d m).1;
  bytes = λ d m. omega (arith, guarded_fits r a pos d.place d.component (mem_guarded r a pos d m).2);
  fits = λ d m. (guarded_fits r a pos d.place d.component (mem_guarded r a pos d m).2).1;
  disjoint = λ d f m n lt. listing-disjoint (guarded_pick r a) r a pos (guarded_fits r a pos) d f m n lt;
}

-- The number to go on from after a component: it lies at the span's end or after, and before every later place.

next_ge : (r : List ℕ) (a : ℕ) → 0 < a → (t : Entry) → entry_end t ≤ length r → entry_end t ≤ next r a t
unfolding next_place
next_ge r a pos t h = omega (arith, below_ge a pos (entry_end t))

next_le : (r : List ℕ) (a : ℕ) → 0 < a → (t : Entry) (q : ℕ) → Place a q → entry_end t ≤ q → next r a t ≤ q
unfolding next_place
next_le r a pos t q (i, p) h = omega (arith, below_least a pos (entry_end t) i (omega arith))

-- The row after its first component.
next_place_on : (r : List ℕ) (a n : ℕ) → 0 < a → (t : Entry) (ts : List Entry) → Row a (length r) n (t ∷ ts) → Row a (length r) (next r a t) ts
next_place_on r a n pos t ts w = record {
  up = w.up.1;
  from = λ d m. next_le r a pos t d.place (w.at d (Memᴰ.tail m)) (w.disjoint t d (Memᴰ.head refl) (Memᴰ.tail m) (w.up.0 d m));
  at = λ d m. w.at d (Memᴰ.tail m);
  below = λ d m. w.below d (Memᴰ.tail m);
  bytes = λ d m. w.bytes d (Memᴰ.tail m);
  fits = λ d m. w.fits d (Memᴰ.tail m);
  disjoint = λ d f m k. w.disjoint d f (Memᴰ.tail m) (Memᴰ.tail k);
}

-- "The next component's start or the region's end", where a run or a slot ends.
abbrev pub Ends : ℕ → List Entry → ℕ → Type 0
Ends e l to = (e ≤ to) ⊎ ((d : Entry) × Memᴰ d l × (d.place ≡ to))

ends_tail : {e to : ℕ} {t : Entry} {l : List Entry} → Ends e l to → Ends e (t ∷ l) to
ends_tail (inl h) = inl h
ends_tail (inr (d, m, q)) = inr (d, Memᴰ.tail m, q)

ends_stop : {a e n to : ℕ} {l : List Entry} → Row a e n l → Ends e l to → Place a to ⊎ (e ≤ to)
ends_stop w (inl h) = inr h
ends_stop w (inr (d, m, q)) = inl (rw (← q) (w.at d m))

-- A run among components: it begins at a place or at e, and every component ends before it or starts after it.
pub record Gap (a e n : ℕ) (l : List Entry) (x : Run) : Type 0 where
  pub at : Place a x.from ⊎ (e ≤ x.from)
  pub from : n ≤ x.from
  pub inside : x.to ≤ e
  pub ends : Ends e l x.to
  pub sides : (d : Entry) → Memᴰ d l → (entry_end d ≤ x.from) ⊎ (x.to ≤ d.place)

module _ (r : List ℕ) (a : ℕ) (pos : 0 < a) where
  -- Every free run is such a gap.
  pub mem_runs : (n : ℕ) (l : List Entry) → Place a n ⊎ (length r ≤ n) → Row a (length r) n l → (x : Run) → Memᴰ x (runs r a n l) → Gap a (length r) n l x
  unfolding runs
  mem_runs n [] pl w x m = go (Memᴰ.cases_cons m)
    where
      go : (x ≡ record { from = n; to = (length r) }) ⊎ Memᴰ x [] → Gap a (length r) n [] x
      go (inl q) = rw q (record { at = pl; from = omega arith; inside = omega arith; ends = inl (omega arith); sides = λ d k. absurd (Memᴰ.not-nil k) })
      go (inr k) = absurd (Memᴰ.not-nil k)
  mem_runs n (t ∷ ts) pl w x m =
      go (Memᴰ.cases_cons m) (λ k. mem_runs (next r a t) ts (next_place_end r a (entry_end t)) (next_place_on r a n pos t ts w) x k)
    where
      now : (d : Entry) → (d ≡ t) ⊎ Memᴰ d ts → (entry_end d ≤ n) ⊎ (t.place ≤ d.place)
      now d (inl q) = inr (rw q (omega arith))
      now d (inr k) = inr (omega (arith, w.up.0 d k))

      later : Gap a (length r) (next r a t) ts x → (d : Entry) → (d ≡ t) ⊎ Memᴰ d ts → (entry_end d ≤ x.from) ⊎ (x.to ≤ d.place)
      later g d (inl q) = inl (rw q (omega (arith, g.from, next_ge r a pos t (w.fits t (Memᴰ.head refl)))))
      later g d (inr k) = g.sides d k

      go : (x ≡ record { from = n; to = t.place }) ⊎ Memᴰ x (runs r a (next r a t) ts)
          → (Memᴰ x (runs r a (next r a t) ts) → Gap a (length r) (next r a t) ts x) → Gap a (length r) n (t ∷ ts) x
      go (inl q) ih = rw q (record {
        at = pl;
        from = omega arith;
        inside = omega (arith, w.below t (Memᴰ.head refl));
        ends = inr (t, Memᴰ.head refl, refl);
        sides = λ d k. now d (Memᴰ.cases_cons k);
      })
      go (inr k) ih = let g = ih k in record {
        at = g.at;
        from = omega (arith, g.from, next_ge r a pos t (w.fits t (Memᴰ.head refl)), w.bytes t (Memᴰ.head refl), w.from t (Memᴰ.head refl));
        inside = g.inside;
        ends = ends_tail g.ends;
        sides = λ d k. later g d (Memᴰ.cases_cons k);
      }

  -- Every place from which m bytes are free of components lies in a free run that holds them.
  pub runs-all : (n : ℕ) (l : List Entry) → Row a (length r) n l → (q m : ℕ) → Place a q → n ≤ q → q + m ≤ (length r)
      → ((d : Entry) → Memᴰ d l → (entry_end d ≤ q) ⊎ (q + m ≤ d.place))
      → (x : Run) × Memᴰ x (runs r a n l) × (x.from ≤ q) × (q + m ≤ x.to)
  unfolding runs
  runs-all n [] w q m pl h k free = (record { from = n; to = (length r) }, Memᴰ.head refl, h, k)
  runs-all n (t ∷ ts) w q m pl h k free =
      go (free t (Memᴰ.head refl)) (λ h'. runs-all (next r a t) ts (next_place_on r a n pos t ts w) q m pl h' k (λ d i. free d (Memᴰ.tail i)))
    where
      Goal : Type 0
      Goal = (x : Run) × Memᴰ x (record { from = n; to = t.place } ∷ runs r a (next r a t) ts) × (x.from ≤ q) × (q + m ≤ x.to)

      go : (entry_end t ≤ q) ⊎ (q + m ≤ t.place) → (next r a t ≤ q → (x : Run) × Memᴰ x (runs r a (next r a t) ts) × (x.from ≤ q) × (q + m ≤ x.to))
          → Goal
      go (inr f) ih = (record { from = n; to = t.place }, Memᴰ.head refl, h, f)
      go (inl f) ih =
          let (x, i, u, v) = ih (next_le r a pos t q pl f) in
          (x, Memᴰ.tail i, u, v)

-- The lowest run that holds n bytes: none exactly if none does.
pub lowest_none : (n : ℕ) (l : List Run) → lowest_fitting n l ≡ None → (q : ℕ) → FitsRunAt n l q → ⊥
unfolding lowest_fitting
lowest_none n [] e q (few, x, m, u, v) = Memᴰ.not-nil m
lowest_none n (y ∷ ys) e q (few, x, m, u, v) = go (run_fits n y) refl e (Memᴰ.cases_cons m) (λ e' k. lowest_none n ys e' q (few, x, k, u, v))
  where
    go : (b : Bool) → run_fits n y ≡ b → cond b (Some y) (lowest_fitting n ys) ≡ None → (x ≡ y) ⊎ Memᴰ x ys
        → (lowest_fitting n ys ≡ None → Memᴰ x ys → ⊥) → ⊥
    go true h e' c ih = none-some _ (sym e')
    go false h e' (inl z) ih = true≢false (sym (run_fits_of n y few (omega (arith, ap (λ (w : Run). w.from) z, ap (λ (w : Run). w.to) z))) ∙ h)
    go false h e' (inr k) ih = ih e' k

pub lowest_some : (n : ℕ) (l : List Run) (x : Run) → lowest_fitting n l ≡ Some x → Memᴰ x l × (n ≤ 0xFFFFFFFF) × (x.from + n ≤ x.to)
unfolding lowest_fitting
lowest_some n [] x e = absurd (none-some x e)
lowest_some n (y ∷ ys) x e = go (run_fits n y) refl e (λ e'. lowest_some n ys x e')
  where
    go : (b : Bool) → run_fits n y ≡ b → cond b (Some y) (lowest_fitting n ys) ≡ Some x
        → (lowest_fitting n ys ≡ Some x → Memᴰ x ys × (n ≤ 0xFFFFFFFF) × (x.from + n ≤ x.to))
        → Memᴰ x (y ∷ ys) × (n ≤ 0xFFFFFFFF) × (x.from + n ≤ x.to)
    go true h e' ih = let q : y ≡ x = same_Some _ _ e' in (Memᴰ.head (sym q), (run_fits_true n y h).0, rw (← q) (run_fits_true n y h).1)
    go false h e' ih = (Memᴰ.tail (ih e').0, (ih e').1, (ih e').2)

module _ (r : List ℕ) (a : ℕ) (pos : 0 < a) where
  -- No run that holds n bytes begins lower.
  pub lowest_least : (n k : ℕ) (l : List Entry) → Place a k ⊎ (length r ≤ k) → Row a (length r) k l → (x : Run) → lowest_fitting n (runs r a k l) ≡ Some x
      → (q : ℕ) → FitsRunAt n (runs r a k l) q → x.from ≤ q
  unfolding runs lowest_fitting
  lowest_least n k [] pl w x g q (few, y, m, u, v) = go (run_fits n (record { from = k; to = length r })) g (Memᴰ.cases_cons m)
    where
      go : (b : Bool) → cond b (Some (record { from = k; to = (length r) })) None ≡ Some x → (y ≡ record { from = k; to = (length r) }) ⊎ Memᴰ y []
          → x.from ≤ q
      go false g' c = absurd (none-some x g')
      go true g' (inl z) = omega (arith, ap (λ (w : Run). w.from) z, ap (λ (w : Run). w.from) (same_Some _ _ g'))
      go true g' (inr i) = absurd (Memᴰ.not-nil i)
  lowest_least n k (t ∷ ts) pl w x g q (few, y, m, u, v) = go (run_fits n (record { from = k; to = t.place })) refl g (Memᴰ.cases_cons m)
      (λ g' i. lowest_least n (next r a t) ts (next_place_end r a (entry_end t)) (next_place_on r a k pos t ts w) x g' q (few, y, i, u, v))
    where
      low : k ≤ y.from
      low = (mem_runs r a pos k (t ∷ ts) pl w y (unfold runs in m)).from

      go : (b : Bool) → run_fits n (record { from = k; to = t.place }) ≡ b
          → cond b (Some (record { from = k; to = t.place })) (lowest_fitting n (runs r a (next r a t) ts)) ≡ Some x
          → (y ≡ record { from = k; to = t.place }) ⊎ Memᴰ y (runs r a (next r a t) ts)
          → (lowest_fitting n (runs r a (next r a t) ts) ≡ Some x → Memᴰ y (runs r a (next r a t) ts) → x.from ≤ q) → x.from ≤ q
      go true h g' c ih = omega (arith, low, ap (λ (w : Run). w.from) (same_Some _ _ g'))
      go false h g' (inl z) ih =
          absurd (true≢false (sym (run_fits_of n (record { from = k; to = t.place }) few
          (omega (arith, ap (λ (w : Run). w.from) z, ap (λ (w : Run). w.to) z))) ∙ h))
      go false h g' (inr i) ih = ih g' i

-- The slot of the name's first bearer.
pub record SlotOf (a e : ℕ) (name : List ℕ) (l : List Entry) (z : EntrySlot) : Type 0 where
  pub listed : Memᴰ z.entry l
  pub borne : bears name z.entry ≡ true
  pub from : z.run.from ≡ z.entry.place
  pub long : z.run.from < z.run.to
  pub inside : z.run.to ≤ e
  pub ends : Ends e l z.run.to
  pub sides : (d : Entry) → Memᴰ d l → (d ≡ z.entry) ⊎ ((entry_end d ≤ z.run.from) ⊎ (z.run.to ≤ d.place))

module _ (r : List ℕ) (a : ℕ) (pos : 0 < a) where
  start_inside : (n : ℕ) (l : List Entry) → Row a (length r) n l → first_start (length r) l ≤ (length r)
  unfolding first_start
  start_inside n [] w = omega arith
  start_inside n (t ∷ ts) w = omega (arith, w.below t (Memᴰ.head refl))

  start_ends : (t : Entry) (l : List Entry) → Ends (length r) (t ∷ l) (first_start (length r) l)
  unfolding first_start
  start_ends t [] = inl (omega arith)
  start_ends t (u ∷ us) = inr (u, Memᴰ.tail (Memᴰ.head refl), refl)

  pub slot_of_entry : (name : List ℕ) (n : ℕ) (l : List Entry) → Row a (length r) n l → (z : EntrySlot) → slot_of (length r) name l ≡ Some z
      → SlotOf a (length r) name l z
  unfolding slot_of
  slot_of_entry name n [] w z g = absurd (none-some z g)
  slot_of_entry name n (t ∷ ts) w z g = go (bears name t) refl g (λ g'. slot_of_entry name (next r a t) ts (next_place_on r a n pos t ts w) z g')
    where
      now : (d : Entry) → (d ≡ t) ⊎ Memᴰ d ts → (d ≡ t) ⊎ ((entry_end d ≤ t.place) ⊎ (first_start (length r) ts ≤ d.place))
      now d (inl q) = inl q
      now d (inr k) = inr (inr (start_before (λ p. true) (length r) ts w.up.1 d k))

      later : SlotOf a (length r) name ts z → (d : Entry) → (d ≡ t) ⊎ Memᴰ d ts → (d ≡ z.entry) ⊎ ((entry_end d ≤ z.run.from) ⊎ (z.run.to ≤ d.place))
      later o d (inl q) =
          inr (inl (rw q (omega (
            arith,
            o.from,
            w.disjoint t z.entry (Memᴰ.head refl) (Memᴰ.tail o.listed)
                (w.up.0 z.entry o.listed),
          ))))
      later o d (inr k) = o.sides d k

      go : (b : Bool) → bears name t ≡ b → cond b (Some (record { entry = t; run = record { from = t.place; to = first_start (length r) ts } }))
          (slot_of (length r) name ts) ≡ Some z → (slot_of (length r) name ts ≡ Some z → SlotOf a (length r) name ts z) → SlotOf a (length r) name (t ∷ ts) z
      go true h g' ih = subst (λ (y : EntrySlot). SlotOf a (length r) name (t ∷ ts) y) (same_Some _ _ g') (record {
        listed = Memᴰ.head refl;
        borne = h;
        from = refl;
        long = start_after (λ p. true) (length r) ts t.place (w.below t (Memᴰ.head refl)) w.up.0;
        inside = start_inside (next r a t) ts (next_place_on r a n pos t ts w);
        ends = start_ends t ts;
        sides = λ d k. now d (Memᴰ.cases_cons k);
      })
      go false h g' ih = let o = ih g' in record {
        listed = Memᴰ.tail o.listed;
        borne = o.borne;
        from = o.from;
        long = o.long;
        inside = o.inside;
        ends = ends_tail o.ends;
        sides = λ d k. later o d (Memᴰ.cases_cons k);
      }

  within_none : (set : ℕ → Bool) (l : List Entry) (i : ℕ) → ((d : Entry) → Memᴰ d l → set d.place ≡ false) → in_slots_of set (length r) l i ≡ false
  unfolding in_slots_of
  within_none set [] i h = refl
  within_none set (t ∷ ts) i h = rw (h t (Memᴰ.head refl), within_none set ts i (λ d m. h d (Memᴰ.tail m)))

  -- The slot's bytes are those that the strict check's slots have for its start.
  pub slot_within : (name : List ℕ) (n : ℕ) (l : List Entry) → Row a (length r) n l → (z : EntrySlot) → slot_of (length r) name l ≡ Some z → (i : ℕ)
      → in_slots_of (λ q. eqb q z.run.from) (length r) l i ≡ in_run z.run i
  unfolding slot_of in_slots_of in_run
  slot_within name n [] w z g i = absurd (none-some z g)
  slot_within name n (t ∷ ts) w z g i =
      go (bears name t) refl g (λ g'. slot_of_entry name (next r a t) ts (next_place_on r a n pos t ts w) z g')
      (λ g'. slot_within name (next r a t) ts (next_place_on r a n pos t ts w) z g' i)
    where
      last : (b : Bool) → b || false ≡ b
      last true = refl
      last false = refl

      Goal : EntrySlot → Type 0
      Goal y =
          ((eqb t.place y.run.from && leb t.place i && ltb i (first_start (length r) ts)) || in_slots_of (λ q. eqb q y.run.from) (length r) ts i) ≡
          (leb y.run.from i && ltb i y.run.to)

      now : Goal (record { entry = t; run = record { from = t.place; to = first_start (length r) ts } })
      now =
          rw (
            eq-eqb t.place t.place refl,
            within_none (λ q. eqb q t.place) ts i
                (λ d m. ne_eqb d.place t.place (λ q. omega (arith, w.up.0 d m))),
          ) (last _)

      go : (b : Bool) → bears name t ≡ b → cond b (Some (record { entry = t; run = record { from = t.place; to = first_start (length r) ts } }))
          (slot_of (length r) name ts) ≡ Some z → (slot_of (length r) name ts ≡ Some z → SlotOf a (length r) name ts z)
          → (slot_of (length r) name ts ≡ Some z → in_slots_of (λ q. eqb q z.run.from) (length r) ts i ≡ (leb z.run.from i && ltb i z.run.to)) → Goal z
      go true h g' o ih = subst Goal (same_Some _ _ g') now
      go false h g' o ih =
          let k = o g' in
          rw (ne_eqb t.place z.run.from (λ q. omega (arith, k.from, w.up.0 z.entry k.listed))) (ih g')

-- A free run that has bytes is room for a new slot, and a slot is.
pub gap_slot : (r : List ℕ) (a : ℕ) → 0 < a → (x : Run) → Gap a (length r) 0 (guarded_listing r a) x → x.from < x.to → FreeSlot r a x
gap_slot r a pos x g long =
    record { at = at g.at; long = long; inside = g.inside; stop = ends_stop (row r a pos) g.ends; before = λ t m lt. go t lt (g.sides t m) }
  where
    at : Place a x.from ⊎ (length r ≤ x.from) → Place a x.from
    at (inl p) = p
    at (inr h) = absurd (omega (arith, g.inside))

    go : (t : Entry) → t.place < x.from → (entry_end t ≤ x.from) ⊎ (x.to ≤ t.place) → entry_end t ≤ x.from
    go t lt (inl h) = h
    go t lt (inr h) = absurd (omega arith)

pub entry_slot_free : (r : List ℕ) (a : ℕ) → 0 < a → (name : List ℕ) (z : EntrySlot) → SlotOf a (length r) name (guarded_listing r a) z → FreeSlot r a z.run
entry_slot_free r a pos name z o = record {
  at = rw o.from (mem_guarded r a pos z.entry o.listed).0;
  long = o.long;
  inside = o.inside;
  stop = ends_stop (row r a pos) o.ends;
  before = λ t m lt. go t lt (o.sides t m);
}
  where
    go : (t : Entry) → t.place < z.run.from → (t ≡ z.entry) ⊎ ((entry_end t ≤ z.run.from) ⊎ (z.run.to ≤ t.place)) → entry_end t ≤ z.run.from
    go t lt (inl q) = absurd (omega (arith, o.from, ap (λ (w : Entry). w.place) q))
    go t lt (inr (inl h)) = h
    go t lt (inr (inr h)) = absurd (omega (arith, o.long))

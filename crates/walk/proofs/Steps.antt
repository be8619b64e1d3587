-- What a walk's steps are.
use Prim.Native.Nat.{ℕ, zero, suc, ◌+◌, ◌*◌, ◌-◌, ◌≤◌, ◌<◌, min}
use native.Mathlib.Nat.{sub-zero, lt_of_mul-lt-mul_right}
use native.Mathlib.Omega.{arith}
use native.Mathlib.Decide.{dec_le, dec_lt}
use mathlib.Core.Path.{◌≡◌, refl, sym, ap, subst, ◌∙◌}
use mathlib.Core.List.Memᴰ
use mathlib.Core.List.{List, [], ◌∷◌, Memᴰ}
use mathlib.Core.Logic.{◌⊎◌, inl, inr}
use Rattle.std.specs.Prelude.{Option, Some, None}
use Rattle.std.proofs.lemmas.Option.{same_Some, none-some}
use lib.ListN.{length}
use Rattle.component.specs.Component.{Component, span_length}
use Rattle.walk.specs.Walk.{Entry, Pick, entry_end, place_count_below, places, all_places, or_else, first, next_place, step, follow, steps, listing}
use Rattle.walk.specs.Walk.{listing_from}
use Rattle.walk.specs.Walk.{prepend, picked, Place, PlaceOrPastEnd}
use Rattle.walk.proofs.Places.{below_ge, below_lt, below_next, below_end, below_pos, gap}

-- A listing ends where no component is left.
pub rest_none : (pick : Pick) (r : List ℕ) (a n : ℕ) → step pick r a n ≡ None → listing_from pick r a n ≡ []
unfolding listing_from steps follow
rest_none pick r a n e = go (length r)
  where
    go : (k : ℕ) → steps pick r a k n ≡ []
    go zero = refl
    go (suc k) = rw e

pub next_place_end : (r : List ℕ) (a b : ℕ) → PlaceOrPastEnd r a (next_place r a b)
unfolding next_place
next_place_end r a b = go (dec_le (place_count_below a b * a) (length r))
  where
    go : Dec (place_count_below a b * a ≤ length r) → PlaceOrPastEnd r a (min (place_count_below a b * a) (length r))
    go (yes h) = inl (place_count_below a b, omega arith)
    go (no g) = inr (omega arith)

-- The steps from two numbers are the same where the first step is.
pub rest_same : (pick : Pick) (r : List ℕ) (a n m : ℕ) → step pick r a n ≡ step pick r a m → listing_from pick r a n ≡ listing_from pick r a m
unfolding listing_from steps
rest_same pick r a n m e = go (length r)
  where
    go : (k : ℕ) → steps pick r a k n ≡ steps pick r a k m
    go zero = refl
    go (suc k) = ap (follow (λ m. steps pick r a k m) (λ t. next_place r a (entry_end t))) e

-- What lies neither past b nor past the region's end does not lie past the number to go on from after b.
pub next_place_far : (r : List ℕ) (a : ℕ) → 0 < a → (b n : ℕ) → n ≤ b → n ≤ length r → n ≤ next_place r a b
unfolding next_place
next_place_far r a pos b n h k = omega (arith, below_ge a pos b)

-- All that may be taken at the places from n on.
unfoldable pub all_from : Pick → List ℕ → ℕ → ℕ → List Entry
all_from pick r a n = picked pick (places a (place_count_below a (length r - n)) n)

module _ (pick : Pick) (r : List ℕ) (a : ℕ) (pos : 0 < a) where
  pub all_from_end : (n : ℕ) → length r ≤ n → all_from pick r a n ≡ []
  unfolding all_from picked places
  all_from_end n h = rw (below_end a pos (length r) n h)

  pub all_from_next : (n : ℕ) → n < length r → all_from pick r a n ≡ prepend n (pick n) (all_from pick r a (n + a))
  unfolding all_from picked places
  all_from_next n h = rw (below_next a pos (length r) n h)

  -- The walk that begins at n takes t first.
  pub record First (n : ℕ) (t : Entry) : Type 0 where
    pub skipped : ℕ
    pub at : t.place ≡ n + skipped * a
    pub inside : t.place < length r
    pub taken : pick t.place ≡ Some t.component
    pub rest : all_from pick r a n ≡ t ∷ all_from pick r a (t.place + a)

  first_some : (j n : ℕ) → place_count_below a (length r - n) ≡ j → (t : Entry) → first pick a j n ≡ Some t → First n t
  unfolding first or_else prepend
  first_some zero n c t e = absurd (none-some t e)
  first_some (suc j) n c t e = go (pick n) refl (first_some j (n + a) d t) e
    where
      h : n < length r
      h = below_pos a pos (length r) n j c

      d : place_count_below a (length r - (n + a)) ≡ j
      d = omega (arith, below_next a pos (length r) n h)

      go : (o : Option Component) → pick n ≡ o → (first pick a j (n + a) ≡ Some t → First (n + a) t) → or_else n o (first pick a j (n + a)) ≡ Some t → First n t
      go None q ih e' =
          let f : First (n + a) t = ih e' in
          record { skipped = suc f.skipped; at = omega arith; inside = f.inside; taken = f.taken; rest = all_from_next n h ∙ rw q f.rest }
      go (Some g) q ih e' = subst (λ (u : Entry). First n u) (same_Some _ _ e')
          (record { skipped = 0; at = omega arith; inside = h; taken = q; rest = all_from_next n h ∙ rw q refl })

  first_none : (j n : ℕ) → place_count_below a (length r - n) ≡ j → first pick a j n ≡ None → all_from pick r a n ≡ []
  unfolding first or_else prepend
  first_none zero n c e = unfold all_from picked places in rw c
  first_none (suc j) n c e = go (pick n) refl (first_none j (n + a) d) e
    where
      h : n < length r
      h = below_pos a pos (length r) n j c

      d : place_count_below a (length r - (n + a)) ≡ j
      d = omega (arith, below_next a pos (length r) n h)

      go : (o : Option Component) → pick n ≡ o → (first pick a j (n + a) ≡ None → all_from pick r a (n + a) ≡ []) → or_else n o (first pick a j (n + a)) ≡ None
          → all_from pick r a n ≡ []
      go None q ih e' = all_from_next n h ∙ rw q (ih e')
      go (Some g) q ih e' = absurd (none-some _ (sym e'))

  pub step_some : (n : ℕ) (t : Entry) → step pick r a n ≡ Some t → First n t
  unfolding step
  step_some n t e = first_some (place_count_below a (length r - n)) n refl t e

  pub step_none : (n : ℕ) → step pick r a n ≡ None → all_from pick r a n ≡ []
  unfolding step
  step_none n e = first_none (place_count_below a (length r - n)) n refl e

  -- Places below b at which nothing may be taken are passed over.
  pub skip : (c p b : ℕ) → Place a p → p + c * a ≡ place_count_below a b * a → ((x : ℕ) → Place a x → p ≤ x → x < b → pick x ≡ None)
      → all_from pick r a p ≡ all_from pick r a (next_place r a b)
  unfolding next_place prepend
  skip zero p b pl e h = go (dec_le p (length r))
    where
      go : Dec (p ≤ length r) → all_from pick r a p ≡ all_from pick r a (min (place_count_below a b * a) (length r))
      go (yes le) = ap (all_from pick r a) (omega arith)
      go (no g) = all_from_end p (omega arith) ∙ sym (all_from_end (min (place_count_below a b * a) (length r)) (omega arith))
  skip (suc c) p b pl e h = go (dec_lt p (length r)) (skip c (p + a) b (suc pl.0, omega (arith, pl.1)) (omega arith) (λ x px le lt. h x px (omega arith) lt))
    where
      go : Dec (p < length r) → all_from pick r a (p + a) ≡ all_from pick r a (min (place_count_below a b * a) (length r))
          → all_from pick r a p ≡ all_from pick r a (min (place_count_below a b * a) (length r))
      go (yes lt) ih = all_from_next p lt ∙ rw (h p pl (omega arith) (omega (arith, below_lt a pos b))) ih
      go (no g) ih = all_from_end p (omega arith) ∙ sym (all_from_end (min (place_count_below a b * a) (length r)) (omega arith))

  -- What is taken has bytes, and lies in the region.
  abbrev pub Fits : Type 0
  Fits = (p : ℕ) (h : Component) → pick p ≡ Some h → (0 < span_length h) × (p + span_length h ≤ length r)

  -- No other place inside what may be taken is one at which something may be taken.
  abbrev pub Exclusive : Type 0
  Exclusive = (p : ℕ) (h : Component) → Place a p → pick p ≡ Some h → (q : ℕ) → Place a q → p < q → q < p + span_length h → pick q ≡ None

  pub first_place : (n : ℕ) (t : Entry) → PlaceOrPastEnd r a n → First n t → Place a t.place
  first_place n t (inl pl) f = (pl.0 + f.skipped, omega (arith, pl.1))
  first_place n t (inr h) f = absurd (omega (arith, f.at, f.inside))

  pub steps_all : Fits → Exclusive → (k n : ℕ) → PlaceOrPastEnd r a n → length r - n ≤ k → steps pick r a k n ≡ all_from pick r a n
  unfolding steps follow
  steps_all fits excl zero n s h = sym (all_from_end n (omega arith))
  steps_all fits excl (suc k) n s h = go (step pick r a n) refl (λ m s' h'. steps_all fits excl k m s' h')
    where
      go : (o : Option Entry) → step pick r a n ≡ o → ((m : ℕ) → PlaceOrPastEnd r a m → length r - m ≤ k → steps pick r a k m ≡ all_from pick r a m)
          → follow (λ m. steps pick r a k m) (λ t. next_place r a (entry_end t)) o ≡ all_from pick r a n
      go None e ih = sym (step_none n e)
      go (Some t) e ih =
          let f : First n t = step_some n t e in
          let pl : Place a t.place = first_place n t s f in
          let fit : (0 < span_length t.component) × (entry_end t ≤ length r) = fits t.place t.component f.taken in
          let far : suc t.place ≤ next_place r a (entry_end t) = next_place_far r a pos (entry_end t) (suc t.place) (omega arith) (omega arith) in
          let lt : pl.0 < place_count_below a (entry_end t) =
          lt_of_mul-lt-mul_right a {m = pl.0} {n = place_count_below a (entry_end t)} (omega (arith, below_ge a pos (entry_end t), pl.1)) in
          ap (λ (l : List Entry). t ∷ l)
          (ih (next_place r a (entry_end t)) (next_place_end r a (entry_end t)) (omega (arith, f.at))
          ∙ sym (skip (place_count_below a (entry_end t) - suc pl.0) (t.place + a) (entry_end t) (suc pl.0, omega (arith, pl.1))
          (gap a t.place pl.0 (place_count_below a (entry_end t)) pl.1 lt)
          (λ x px le x<. excl t.place t.component pl f.taken x px (omega arith) x<)))
          ∙ sym f.rest

  -- Then the listing has what may be taken at each place, in the places' order.
  pub listing-all : Fits → Exclusive → listing pick r a ≡ picked pick (all_places r a)
  unfolding listing_from all_from
  listing-all fits excl = steps_all fits excl (length r) 0 (inl (0, omega arith)) (omega arith) ∙ rw sub-zero

  -- What a listing has: taken at a place, not before its start.
  pub record Listed (n : ℕ) (t : Entry) : Type 0 where
    pub from : n ≤ t.place
    pub at : Place a t.place
    pub inside : t.place < length r
    pub taken : pick t.place ≡ Some t.component

  pub mem_steps : Fits → (k n : ℕ) → PlaceOrPastEnd r a n → (t : Entry) → Memᴰ t (steps pick r a k n) → Listed n t
  unfolding steps follow
  mem_steps fits zero n s t m = absurd (Memᴰ.not-nil m)
  mem_steps fits (suc k) n s t m = go (step pick r a n) refl m (λ n' s' m'. mem_steps fits k n' s' t m')
    where
      go : (o : Option Entry) → step pick r a n ≡ o → Memᴰ t (follow (λ m. steps pick r a k m) (λ t. next_place r a (entry_end t)) o)
          → ((m : ℕ) → PlaceOrPastEnd r a m → Memᴰ t (steps pick r a k m) → Listed m t) → Listed n t
      go None e m' ih = absurd (Memᴰ.not-nil m')
      go (Some u) e m' ih = by (Memᴰ.cases_cons m')
        where
          f : First n u
          f = step_some n u e

          far : suc u.place ≤ next_place r a (entry_end u)
          far = next_place_far r a pos (entry_end u) (suc u.place) (omega (arith, fits u.place u.component f.taken)) f.inside

          by : (t ≡ u) ⊎ Memᴰ t (steps pick r a k (next_place r a (entry_end u))) → Listed n t
          by (inl q) = rw q (record { from = omega (arith, f.at); at = first_place n u s f; inside = f.inside; taken = f.taken })
          by (inr m'') = let l = ih (next_place r a (entry_end u)) (next_place_end r a (entry_end u)) m'' in
              record { from = omega (arith, f.at, l.from, far); at = l.at; inside = l.inside; taken = l.taken }

  -- Of two that a listing has, the span of the first ends before the second.
  pub disjoint : Fits → (k n : ℕ) → PlaceOrPastEnd r a n → (t u : Entry) → Memᴰ t (steps pick r a k n) → Memᴰ u (steps pick r a k n)
      → t.place < u.place → entry_end t ≤ u.place
  unfolding steps follow
  disjoint fits zero n s t u m m' lt = absurd (Memᴰ.not-nil m)
  disjoint fits (suc k) n s t u m m' lt = go (step pick r a n) refl m m' (λ n' s' l l'. disjoint fits k n' s' t u l l' lt)
    where
      go : (o : Option Entry) → step pick r a n ≡ o → Memᴰ t (follow (λ m. steps pick r a k m) (λ t. next_place r a (entry_end t)) o)
          → Memᴰ u (follow (λ m. steps pick r a k m) (λ t. next_place r a (entry_end t)) o)
          → ((m : ℕ) → PlaceOrPastEnd r a m → Memᴰ t (steps pick r a k m) → Memᴰ u (steps pick r a k m) → entry_end t ≤ u.place)
          → entry_end t ≤ u.place
      go None e l l' ih = absurd (Memᴰ.not-nil l)
      go (Some v) e l l' ih = by (Memᴰ.cases_cons l) (Memᴰ.cases_cons l')
        where
          f : First n v
          f = step_some n v e

          fit : (0 < span_length v.component) × (entry_end v ≤ length r)
          fit = fits v.place v.component f.taken

          after : (w : Entry) → Memᴰ w (steps pick r a k (next_place r a (entry_end v))) → entry_end v ≤ w.place
          after w m'' = let l = mem_steps fits k (next_place r a (entry_end v)) (next_place_end r a (entry_end v)) w m'' in
              omega (arith, next_place_far r a pos (entry_end v) (entry_end v) (omega arith) fit.1, l.from)

          by : (t ≡ v) ⊎ Memᴰ t (steps pick r a k (next_place r a (entry_end v))) → (u ≡ v) ⊎ Memᴰ u (steps pick r a k (next_place r a (entry_end v)))
              → entry_end t ≤ u.place
          by (inl q) (inl q') = absurd (omega (arith, ap (λ (w : Entry). w.place) q, ap (λ (w : Entry). w.place) q'))
          by (inl q) (inr m'') = rw q (after u m'')
          by (inr m'') (inl q') = absurd (omega (arith, after t m'', fit.0, ap (λ (w : Entry). w.place) q'))
          by (inr m₁) (inr m₂) = ih (next_place r a (entry_end v)) (next_place_end r a (entry_end v)) m₁ m₂

  pub mem_listing : Fits → (t : Entry) → Memᴰ t (listing pick r a) → Listed 0 t
  unfolding listing_from
  mem_listing fits t m = mem_steps fits (length r) 0 (inl (0, omega arith)) t m

  pub listing-disjoint : Fits → (t u : Entry) → Memᴰ t (listing pick r a) → Memᴰ u (listing pick r a) → t.place < u.place → entry_end t ≤ u.place
  unfolding listing_from
  listing-disjoint fits t u m m' lt = disjoint fits (length r) 0 (inl (0, omega arith)) t u m m' lt

  -- For a loop that looks at one place after the other.
  pub step_end : (n : ℕ) → length r ≤ n → step pick r a n ≡ None
  unfolding step first
  step_end n h = rw (below_end a pos (length r) n h)

  pub step_here : (n : ℕ) (h : Component) → n < length r → pick n ≡ Some h → step pick r a n ≡ Some (record { place = n; component = h })
  unfolding step first or_else
  step_here n h lt e = rw (below_next a pos (length r) n lt, e)

  pub step-next : (n : ℕ) → n < length r → pick n ≡ None → step pick r a n ≡ step pick r a (n + a)
  unfolding step first or_else
  step-next n lt e = rw (below_next a pos (length r) n lt, e)

  -- For a loop that takes one step after the other. There are steps enough: each goes on from a later number.
  pub next_place_later : Fits → (n : ℕ) (t : Entry) → step pick r a n ≡ Some t → (n < next_place r a (entry_end t)) × (n < length r)
  next_place_later fits n t e =
      let f : First n t = step_some n t e in
      let far : suc t.place ≤ next_place r a (entry_end t) =
      next_place_far r a pos (entry_end t) (suc t.place) (omega (arith, fits t.place t.component f.taken)) f.inside in
      (omega (arith, f.at), omega (arith, f.at, f.inside))

  steps_enough : Fits → (k k' n : ℕ) → length r - n ≤ k → length r - n ≤ k' → steps pick r a k n ≡ steps pick r a k' n
  unfolding steps follow
  steps_enough fits zero zero n h h' = refl
  steps_enough fits zero (suc k') n h h' = rw (step_end n (omega arith))
  steps_enough fits (suc k) zero n h h' = rw (step_end n (omega arith))
  steps_enough fits (suc k) (suc k') n h h' = go (step pick r a n) refl (λ m g g'. steps_enough fits k k' m g g')
    where
      go : (o : Option Entry) → step pick r a n ≡ o → ((m : ℕ) → length r - m ≤ k → length r - m ≤ k' → steps pick r a k m ≡ steps pick r a k' m)
          → follow (λ m. steps pick r a k m) (λ t. next_place r a (entry_end t)) o ≡ follow (λ m. steps pick r a k' m) (λ t. next_place r a (entry_end t)) o
      go None e ih = refl
      go (Some t) e ih =
          let l : (n < next_place r a (entry_end t)) × (n < length r) = next_place_later fits n t e in
          ap (λ (ts : List Entry). t ∷ ts) (ih (next_place r a (entry_end t)) (omega arith) (omega arith))

  pub rest_some : Fits → (n : ℕ) (t : Entry) → step pick r a n ≡ Some t → listing_from pick r a n ≡ t ∷ listing_from pick r a (next_place r a (entry_end t))
  unfolding listing_from steps follow
  rest_some fits n t e =
      let l : (n < next_place r a (entry_end t)) × (n < length r) = next_place_later fits n t e in
      steps_enough fits (length r) (suc (length r)) n (omega arith) (omega arith) ∙ rw e

-- The untaken places and the plain listing from a number on, for a loop that goes from one magic to the next (document 01, refusal 12).
-- Nothing here asks more of the alignment than that it is not 0; where it is 0, nothing is listed and nothing untaken.
use Prim.Native.Nat.{ℕ, suc, ◌+◌, ◌-◌, ◌≤◌, ◌<◌, min}
use native.Mathlib.Nat.{sub-zero}
use native.Mathlib.Omega.{arith}
use native.Mathlib.Decide.{dec_le, dec_lt}
use mathlib.Core.Path.{◌≡◌, refl, ap, ◌∙◌}
use mathlib.Core.List.{List, [], ◌∷◌, Memᴰ}
use mathlib.Core.Logic.{inl}
use mathlib.Core.Bool.{Bool, true, false}
use Rattle.std.specs.Prelude.{Option, Some, None}
use lib.ListN.{length, drop}
use borrow.Author.Tests.{eq-eqb, ne_eqb}
use Rattle.component.specs.Component.{Component, span_length, judge}
use Rattle.bytes_read.specs.Lists.{filter}
use Rattle.walk.specs.Walk.{Entry, place_count_below, places, magic_at, next_magic, plain_pick, step, next_place, listing_from, Place, PlaceOrPastEnd}
use Rattle.walk.proofs.Places.{no_places, below_next, below_end, below_unique, mem_places}
use Rattle.walk.proofs.Searching.{next_end, next_here, next_not, next_above, next_has_magic, by_places, over_no_magic, no_magic_all}
use Rattle.walk.proofs.Steps.{Listed, mem_steps, next_place_end, next_place_far, rest_none, rest_some, rest_same, step_here, step-next}
use Rattle.walk.proofs.Stepping.{searched, pick_fits, step_past}
use Rattle.walk.proofs.Picks.{plain_fits}
use Rattle.strict_rules.specs.Strict.{lists_place, is_untaken, untaken_places}
use Rattle.bytes_read.proofs.Tested.{filter_same}
use Rattle.strict_rules.proofs.Accepting.{takes_mem}

-- The untaken places from the number n on: what the plain walk begun there does not take of the places from n on.
unfoldable pub untaken_from : List ℕ → ℕ → ℕ → List ℕ
untaken_from r a n = filter (is_untaken r (listing_from (plain_pick r) r a n)) (places a (place_count_below a (length r - n)) n)

-- The first of a list, if it has one.
unfoldable pub lowest : List ℕ → Option ℕ
lowest [] = None
lowest (p ∷ ps) = Some p

-- The lowest untaken from n on, if there is one.
abbrev pub first_untaken : List ℕ → ℕ → ℕ → Option ℕ
first_untaken r a n = lowest (untaken_from r a n)

pub untaken_from_lem : (r : List ℕ) (a : ℕ) → untaken_places r a ≡ untaken_from r a 0
unfolding untaken_places untaken_from
untaken_from_lem r a = rw sub-zero

-- The plain listing from n on.
abbrev pub plain_from : List ℕ → ℕ → ℕ → List Entry
plain_from r a n = listing_from (plain_pick r) r a n

-- Where a step gives the same, so does the listing.
pub list_same : (r : List ℕ) (a n m : ℕ) → step (plain_pick r) r a n ≡ step (plain_pick r) r a m → plain_from r a n ≡ plain_from r a m
list_same r a n m s = rest_same (plain_pick r) r a n m s

-- From any number the listing is that from the next magic on; with none left it is empty.

pub list_search : (r : List ℕ) (a n : ℕ) → plain_from r a n ≡ plain_from r a (next_magic r a n (length r))
list_search r a n = list_same r a n (next_magic r a n (length r)) (searched false r a n (next_magic r a n (length r)) refl).same

pub list_end : (r : List ℕ) (a n : ℕ) → length r ≤ n → plain_from r a n ≡ []
list_end r a n h = rest_none (plain_pick r) r a n (step_past (plain_pick r) r a n h)

-- The places from n on.
abbrev row : List ℕ → ℕ → ℕ → List ℕ
row r a n = places a (place_count_below a (length r - n)) n

no_row : (r : List ℕ) (a n : ℕ) → a ≡ 0 → row r a n ≡ []
unfolding places
no_row r a n z = rw (z, no_places (length r - n))

-- A component more in a listing.
takes_cons : (t : Entry) (l : List Entry) (x : ℕ) → (t.place ≡ x → ⊥) → lists_place (t ∷ l) x ≡ lists_place l x
unfolding lists_place
takes_cons t l x n = rw (ne_eqb t.place x n)

takes_head : (t : Entry) (l : List Entry) → lists_place (t ∷ l) t.place ≡ true
unfolding lists_place
takes_head t l = rw (eq-eqb t.place t.place refl)

-- Whether a place is untaken.

untaken_no_magic : (r : List ℕ) (l : List Entry) (x : ℕ) → magic_at r x ≡ false → is_untaken r l x ≡ false
unfolding is_untaken
untaken_no_magic r l x c = rw c

untaken_not_taken : (r : List ℕ) (l : List Entry) (x : ℕ) → magic_at r x ≡ true → lists_place l x ≡ true → is_untaken r l x ≡ false
unfolding is_untaken
untaken_not_taken r l x c t = rw (c, t)

pub untaken_true : (r : List ℕ) (l : List Entry) (x : ℕ) → magic_at r x ≡ true → lists_place l x ≡ false → is_untaken r l x ≡ true
unfolding is_untaken
untaken_true r l x c t = rw (c, t)

untaken_same : (r : List ℕ) (l l' : List Entry) (x : ℕ) → lists_place l x ≡ lists_place l' x → is_untaken r l x ≡ is_untaken r l' x
unfolding is_untaken
untaken_same r l l' x t = rw t

module _ (r : List ℕ) (a : ℕ) (pos : 0 < a) where
  row_next : (n : ℕ) → n < length r → row r a n ≡ n ∷ row r a (n + a)
  unfolding places
  row_next n h = rw (below_next a pos (length r) n h)

  row_end : (n : ℕ) → length r ≤ n → row r a n ≡ []
  unfolding places
  row_end n h = rw (below_end a pos (length r) n h)

  -- What is kept of a row, place by place.

  kept_here : (f : ℕ → Bool) (n : ℕ) → n < length r → f n ≡ true → filter f (row r a n) ≡ n ∷ filter f (row r a (n + a))
  unfolding filter
  kept_here f n h y = rw (row_next n h, y)

  kept_not : (f : ℕ → Bool) (n : ℕ) → n < length r → f n ≡ false → filter f (row r a n) ≡ filter f (row r a (n + a))
  unfolding filter
  kept_not f n h y = rw (row_next n h, y)

  -- Up to the next magic nothing is untaken, whatever is listed.

  kept_no_magic : (l : List Entry) (n : ℕ) → n < length r → magic_at r n ≡ false → filter (is_untaken r l) (row r a n) ≡ filter (is_untaken r l)
      (row r a (n + a))
  kept_no_magic l n h y = kept_not (is_untaken r l) n h (untaken_no_magic r l n y)

  kept_search : (l : List Entry) (b n : ℕ) → b ≤ length r → next_magic r a n b < b
      → filter (is_untaken r l) (row r a n) ≡ filter (is_untaken r l) (row r a (next_magic r a n b))
  kept_search l b n h = over_no_magic r a pos (λ n. filter (is_untaken r l) (row r a n)) b (λ n k y. kept_no_magic l n (omega arith) y) n

  kept_search_end : (l : List Entry) (n : ℕ) → filter (is_untaken r l) (row r a n) ≡ filter (is_untaken r l) (row r a (next_magic r a n (length r)))
  kept_search_end l n =
      no_magic_all r a pos (λ n. filter (is_untaken r l) (row r a n)) (length r) (kept_no_magic l) (λ n k. rw (row_end n k, row_end (length r) (omega arith))) n

  next_place_at : (e n : ℕ) → Place a n → e ≤ n → n < e + a → next_place r a e ≡ min n (length r)
  unfolding next_place
  next_place_at e n pl h k =
      let u : place_count_below a e ≡ pl.0 = below_unique a pos e pl.0 (omega (arith, pl.1)) (omega (arith, pl.1)) in
      rw (u, ← pl.1)

  -- Where the search finds nothing below e, nothing is untaken up to the first place at or after e.
  kept_next_place : (l : List Entry) (e n : ℕ) → e ≤ length r → Place a n → n < e + a → e ≤ next_magic r a n e
      → filter (is_untaken r l) (row r a n) ≡ filter (is_untaken r l) (row r a (next_place r a e))
  kept_next_place l e n h =
      by_places r a pos e (λ n. Place a n → n < e + a → e ≤ next_magic r a n e
      → filter (is_untaken r l) (row r a n) ≡ filter (is_untaken r l) (row r a (next_place r a e)))
      (λ n k pl lt _. ended n k pl lt)
      (λ n k y pl lt q. absurd (omega (arith, q, next_here r a pos n e k y)))
      (λ n k y ih pl lt q. kept_no_magic l n (omega arith) y ∙ ih (suc pl.0, omega (arith, pl.1)) (omega arith) (rw (next_not r a pos n e k y) at q)) n
    where
      ended : (n : ℕ) → e ≤ n → Place a n → n < e + a → filter (is_untaken r l) (row r a n) ≡ filter (is_untaken r l) (row r a (next_place r a e))
      ended n k pl lt = rw (next_place_at e n pl k lt) (go (dec_le n (length r)))
        where
          go : Dec (n ≤ length r) → filter (is_untaken r l) (row r a n) ≡ filter (is_untaken r l) (row r a (min n (length r)))
          go (yes y) = let m : min n (length r) ≡ n = omega arith in rw m
          go (no y) = let m : min n (length r) ≡ length r = omega arith in rw (m, row_end n (omega arith), row_end (length r) (omega arith))

  -- The walk begun at n takes nothing before n.
  taken_after : (n x : ℕ) → PlaceOrPastEnd r a n → x < n → lists_place (plain_from r a n) x ≡ false
  unfolding listing_from
  taken_after n x s h = go (lists_place (plain_from r a n) x) refl
    where
      go : (b : Bool) → lists_place (plain_from r a n) x ≡ b → b ≡ false
      go false e = refl
      go true e =
          let (t, m, q) = takes_mem (plain_from r a n) x e in
          let l : Listed (plain_pick r) r a pos n t = mem_steps (plain_pick r) r a pos (pick_fits false r a pos) (length r) n s t m in
          absurd (omega (arith, l.from, q))

-- From any number the untaken places are those from the next magic on; with none left there are none.

pub from_search : (r : List ℕ) (a n : ℕ) → untaken_from r a n ≡ untaken_from r a (next_magic r a n (length r))
unfolding untaken_from
from_search r a n = go (dec_lt 0 a)
  where
    q : ℕ
    q = next_magic r a n (length r)

    go : Dec (0 < a) → filter (is_untaken r (plain_from r a n)) (row r a n) ≡ filter (is_untaken r (plain_from r a q)) (row r a q)
    go (yes pos) = kept_search_end r a pos (plain_from r a n) n ∙ ap (λ (l : List Entry). filter (is_untaken r l) (row r a q)) (list_search r a n)
    go (no h) = unfold filter in rw (no_row r a n (omega arith), no_row r a q (omega arith))

pub from_end : (r : List ℕ) (a n : ℕ) → length r ≤ n → untaken_from r a n ≡ []
unfolding untaken_from filter
from_end r a n h = go (dec_lt 0 a)
  where
    go : Dec (0 < a) → filter (is_untaken r (plain_from r a n)) (row r a n) ≡ []
    go (yes pos) = rw (row_end r a pos n h)
    go (no z) = rw (no_row r a n (omega arith))

-- The same for the lowest of them.

pub first_search : (r : List ℕ) (a n : ℕ) → first_untaken r a n ≡ first_untaken r a (next_magic r a n (length r))
first_search r a n = ap lowest (from_search r a n)

-- The search from a place ends at a place.
pub search_at_place : (r : List ℕ) (a : ℕ) → 0 < a → (n b : ℕ) → Place a n → next_magic r a n b < b → Place a (next_magic r a n b)
search_at_place r a pos n b = by_places r a pos b (λ n. Place a n → next_magic r a n b < b → Place a (next_magic r a n b))
    (λ n h pl k. absurd (omega (arith, k, next_end r a pos n b h)))
    (λ n h y pl k. rw (next_here r a pos n b h y) pl)
    (λ n h y ih pl k. rw (next_not r a pos n b h y) (ih (suc pl.0, omega (arith, pl.1)) (rw (next_not r a pos n b h y) at k))) n

-- At a place p with the magic.
module _ (r : List ℕ) (a : ℕ) (pos : 0 < a) (p : ℕ) (at : Place a p) (inside : p < length r) (magic : magic_at r p ≡ true) where
  -- An ill-formed header: p is untaken.
  module _ (ill : judge (drop p r) ≡ None) where
    pub list_ill : plain_from r a p ≡ plain_from r a (p + a)
    unfolding plain_pick
    list_ill = list_same r a p (p + a) (step-next (plain_pick r) r a pos p inside ill)

    pub from_ill : untaken_from r a p ≡ p ∷ untaken_from r a (p + a)
    unfolding untaken_from
    from_ill = rw list_ill
        (kept_here r a pos (is_untaken r (plain_from r a (p + a))) p inside
        (untaken_true r (plain_from r a (p + a)) p magic (taken_after r a pos (p + a) p (inl (suc at.0, omega (arith, at.1))) (omega arith))))

    pub first_ill : first_untaken r a p ≡ Some p
    unfolding lowest
    first_ill = ap lowest from_ill

  -- A component c, its span up to e.
  module _ (c : Component) (well : judge (drop p r) ≡ Some c) (e : ℕ) (ends : e ≡ p + span_length c) where
    abbrev here : Entry
    here = record { place = p; component = c }

    fits : (p < e) × (e ≤ length r)
    unfolding plain_pick
    fits = omega (arith, plain_fits r p c well)

    pub list_well : plain_from r a p ≡ record { place = p; component = c } ∷ plain_from r a (next_place r a e)
    unfolding plain_pick
    list_well = rw ends (rest_some (plain_pick r) r a pos (pick_fits false r a pos) p here (step_here (plain_pick r) r a pos p c inside well))

    -- The number to go on from lies past p, and past the span.
    pub next_place_behind : (p < next_place r a e) × (e ≤ next_place r a e)
    next_place_behind = (next_place_far r a pos e (suc p) (omega (arith, fits)) (omega (arith, fits)), next_place_far r a pos e e (omega arith) fits.1)

    from_well : untaken_from r a p ≡ filter (is_untaken r (here ∷ plain_from r a (next_place r a e))) (row r a (p + a))
    unfolding untaken_from
    from_well = rw list_well
        (kept_not r a pos (is_untaken r (here ∷ plain_from r a (next_place r a e))) p inside
        (untaken_not_taken r (here ∷ plain_from r a (next_place r a e)) p magic (takes_head here (plain_from r a (next_place r a e)))))

    -- No later place in the span carries the magic: nothing is untaken up to the number to go on from.
    pub from_open : e ≤ next_magic r a (p + a) e → untaken_from r a p ≡ untaken_from r a (next_place r a e)
    unfolding untaken_from
    from_open q = from_well
        ∙ kept_next_place r a pos (here ∷ plain_from r a (next_place r a e)) e (p + a) fits.1 (suc at.0, omega (arith, at.1)) (omega (arith, fits)) q
        ∙ filter_same (is_untaken r (here ∷ plain_from r a (next_place r a e))) (is_untaken r (plain_from r a (next_place r a e))) (row r a (next_place r a e))
        (λ x m. untaken_same r (here ∷ plain_from r a (next_place r a e)) (plain_from r a (next_place r a e)) x (later x m))
      where
        later : (x : ℕ) → Memᴰ x (row r a (next_place r a e))
            → lists_place (here ∷ plain_from r a (next_place r a e)) x ≡ lists_place (plain_from r a (next_place r a e)) x
        later x m =
            let (i, _, h) = mem_places a (place_count_below a (length r - next_place r a e)) (next_place r a e) x m in
            takes_cons here (plain_from r a (next_place r a e)) x (λ z. omega (arith, z, h, next_place_behind))

    pub first_open : e ≤ next_magic r a (p + a) e → first_untaken r a p ≡ first_untaken r a (next_place r a e)
    first_open q = ap lowest (from_open q)

    -- A later place in the span carries the magic: the first of them is untaken, and none before it.
    pub first_inside : next_magic r a (p + a) e < e → first_untaken r a p ≡ Some (next_magic r a (p + a) e)
    unfolding lowest
    first_inside l =
        ap lowest (from_well ∙ kept_search r a pos listed e (p + a) fits.1 l
        ∙ kept_here r a pos (is_untaken r listed) q (omega (arith, fits)) (untaken_true r listed q (next_has_magic r a pos (p + a) e l) untaken))
      where
        q : ℕ
        q = next_magic r a (p + a) e

        listed : List Entry
        listed = here ∷ plain_from r a (next_place r a e)

        after : p < q
        after = next_above r a pos p (p + a) e fits.0 (omega arith)

        untaken : lists_place listed q ≡ false
        untaken = takes_cons here (plain_from r a (next_place r a e)) q (λ z. omega (arith, z, after))
            ∙ taken_after r a pos (next_place r a e) q (next_place_end r a e) (omega (arith, next_place_behind))

-- Free runs, slots and names by the places of a region and the headers there; and that they are the listing's where the places are.
use Prim.Native.Nat.{ℕ, zero, suc, ◌+◌, ◌≤◌, ◌<◌}
use native.Mathlib.Nat.{add-zero, le_of_suc-le-suc}
use native.Mathlib.Numerals.{add-one}
use native.Mathlib.Omega.{arith}
use mathlib.Core.Path.{◌≡◌, refl, ap}
use mathlib.Core.List.Memᴰ
use mathlib.Core.List.{List, [], ◌∷◌}
use mathlib.Core.Bool.{Bool, true, false, cond, ◌||◌}
use Rattle.std.specs.Option.{is_some}
use Rattle.std.specs.Prelude.{Some, None}
use lib.ListN.{length, drop, get_or, drop_of_length-le}
use lib.Seq.{drop-cons, get_or-drop}
use Rattle.bytes_read.specs.Lists.{any}
use Rattle.bytes_read.specs.Number.{be}
use Rattle.component.specs.Component.{Component, judge_numbers, component_of}
use Rattle.component.proofs.Judging.{unsummed_read}
use Rattle.walk.specs.Walk.{Entry, next_place, entry_end, next, plain_listing}
use Rattle.walk_lookup.specs.Lookup.{bears}
use Rattle.strict_rules.specs.Strict.{component_places}
use Rattle.strict_rules.specs.Slots.{first_start}
use Rattle.strict_check.specs.StrictCheck.{has_name}
use Rattle.strict_check.proofs.Names.{Judged, listed, same_any}
use Rattle.edit_rules.specs.Edit.{Run, run_fits, runs, free_runs, lowest_fitting, slot_of}
use Rattle.edit_slots.specs.SlotsByPlaces.{run, free_run_answer, slot_answer, slot_from, span_end, runs_between, slot_among}

-- One run.

pub run_yes : (n from to k : ℕ) → run_fits n (run from to) ≡ true → Some (slot_from (run from to) k) ≡ free_run_answer k (lowest_fitting n (run from to ∷ []))
unfolding lowest_fitting
run_yes n from to k e = rw e

pub run_no : (n from to k : ℕ) → run_fits n (run from to) ≡ false → None ≡ free_run_answer k (lowest_fitting n (run from to ∷ []))
unfolding lowest_fitting
run_no n from to k e = rw e

-- Behind the region's end there is no header.
pub span_past : (r : List ℕ) (p : ℕ) → length r < p → p ≡ span_end r p
unfolding be
span_past r p h = rw (drop_of_length-le r {i = p} (omega arith)) (omega arith)

-- What stands at a place of a list does not hang on what is answered elsewhere.
pub stands : (ps : List ℕ) (k e : ℕ) → k < length ps → get_or ps k 0 ≡ get_or ps k e
stands [] k e h = absurd (omega arith)
stands (p ∷ ps) zero e h = refl
stands (p ∷ ps) (suc k) e h = stands ps k e (le_of_suc-le-suc h)

-- The places of ps from the i-th on.
module _ (r ps : List ℕ) (i : ℕ) where
  module _ (a n m : ℕ) where
    pub runs_end : length ps ≤ i → lowest_fitting n (runs_between r a m (drop i ps)) ≡ lowest_fitting n (run m (length r) ∷ [])
    unfolding runs_between
    runs_end h = rw (drop_of_length-le ps h)

    pub runs_here : i < length ps → run_fits n (run m (get_or ps i 0)) ≡ true → lowest_fitting n (runs_between r a m (drop i ps)) ≡ Some (run m (get_or ps i 0))
    unfolding runs_between lowest_fitting
    runs_here h y = rw (drop-cons ps i 0 h, y)

    pub runs_on : i < length ps → run_fits n (run m (get_or ps i 0)) ≡ false
        → lowest_fitting n (runs_between r a m (drop i ps)) ≡ lowest_fitting n
        (runs_between r a (next_place r a (span_end r (get_or ps i 0))) (drop (i + 1) ps))
    unfolding runs_between lowest_fitting
    runs_on h y = rw (drop-cons ps i 0 h, y, add-one i)

  module _ (name : List ℕ) where
    pub slot_end : length ps ≤ i → slot_among r name (drop i ps) ≡ None
    unfolding slot_among
    slot_end h = rw (drop_of_length-le ps h)

    pub slot_here : i < length ps → has_name r name (get_or ps i 0) ≡ true
        → slot_among r name (drop i ps) ≡ Some (slot_from (run (get_or ps i 0) (get_or ps (i + 1) (length r))) (be 4 (drop (get_or ps i 0) r) 12))
    unfolding slot_among
    slot_here h y = rw (drop-cons ps i 0 h, y, add-one i, get_or-drop (suc i) ps 0 (length r), add-zero)

    pub slot_on : i < length ps → has_name r name (get_or ps i 0) ≡ false → slot_among r name (drop i ps) ≡ slot_among r name (drop (i + 1) ps)
    unfolding slot_among
    slot_on h y = rw (drop-cons ps i 0 h, y, add-one i)

-- A name has a slot exactly if it is used.

pub used_is : (r name ps : List ℕ) → is_some (slot_among r name ps) ≡ any (has_name r name) ps
unfolding slot_among
used_is r name [] = refl
used_is r name (p ∷ ps) = go (has_name r name p) (used_is r name ps)
  where
    go : (b : Bool) → is_some (slot_among r name ps) ≡ any (has_name r name) ps
        → is_some (cond b (Some (slot_from (run p (get_or ps 0 (length r))) (be 4 (drop p r) 12))) (slot_among r name ps)) ≡ (b || any (has_name r name) ps)
    go true ih = refl
    go false ih = ih

-- Now the places are those of a listing.

found_tail : (r : List ℕ) (t : Entry) (l : List Entry) → Judged r (t ∷ l) → Judged r l
found_tail r t l j u m = j u (Memᴰ.tail m)

-- A component's numbers as its header has them.
fields_read : (s : List ℕ) (c : Component) → judge_numbers s ≡ Some c → (be 4 s 20 ≡ c.offset) × (be 4 s 8 ≡ c.len) × (be 4 s 12 ≡ c.kind)
unfolding component_of
fields_read s c e = let f = (unsummed_read s c e).3 in (ap (λ (x : Component). x.offset) f, ap (λ (x : Component). x.len) f, ap (λ (x : Component). x.kind) f)

-- A component as it is found at its place: its end, its type and its name.
module _ (r : List ℕ) (t : Entry) (e : judge_numbers (drop t.place r) ≡ Some t.component) where
  end_at : span_end r t.place ≡ entry_end t
  end_at = let f = fields_read (drop t.place r) t.component e in omega (arith, f.0, f.1)

  kind_at : be 4 (drop t.place r) 12 ≡ t.component.kind
  kind_at = (fields_read (drop t.place r) t.component e).2

  named_bears : (name : List ℕ) → has_name r name t.place ≡ bears name t
  unfolding has_name bears
  named_bears name = rw e

start_first : (e : ℕ) (l : List Entry) → first_start e l ≡ get_or (component_places l) 0 e
unfolding first_start
start_first e [] = refl
start_first e (t ∷ l) = refl

module _ (r : List ℕ) where
  runs_found : (a n : ℕ) (l : List Entry) → Judged r l → runs_between r a n (component_places l) ≡ runs r a n l
  unfolding runs_between runs
  runs_found a n [] j = refl
  runs_found a n (t ∷ l) j =
      rw (end_at r t (j t (Memᴰ.head refl))) (ap (λ (x : List Run). run n t.place ∷ x) (runs_found a (next r a t) l (found_tail r t l j)))

  module _ (name : List ℕ) where
    slot_found : (l : List Entry) → Judged r l → slot_among r name (component_places l) ≡ slot_answer (slot_of (length r) name l)
    unfolding slot_among slot_of
    slot_found [] j = refl
    slot_found (t ∷ l) j = go (bears name t) refl (slot_found l (found_tail r t l j))
      where
        e : judge_numbers (drop t.place r) ≡ Some t.component
        e = j t (Memᴰ.head refl)

        go : (b : Bool) → bears name t ≡ b → slot_among r name (component_places l) ≡ slot_answer (slot_of (length r) name l)
            → slot_among r name (component_places (t ∷ l)) ≡ slot_answer (slot_of (length r) name (t ∷ l))
        go true q ih = rw (named_bears r t e name, q, kind_at r t e, start_first (length r) l)
        go false q ih = rw (named_bears r t e name, q) ih

-- By the places of a region's components: its free runs, the slot of a name's bearer, and whether a name is used.
module _ (r : List ℕ) (a : ℕ) where
  pub runs-listed : runs_between r a 0 (component_places (plain_listing r a)) ≡ free_runs r a
  runs-listed = runs_found r a 0 (plain_listing r a) (listed r a)

  pub slot_listed : (name : List ℕ) → slot_among r name (component_places (plain_listing r a)) ≡ slot_answer (slot_of (length r) name (plain_listing r a))
  slot_listed name = slot_found r name (plain_listing r a) (listed r a)

  pub used_listed : (name : List ℕ) → any (has_name r name) (component_places (plain_listing r a)) ≡ any (bears name) (plain_listing r a)
  used_listed name = same_any r name (plain_listing r a) (listed r a)

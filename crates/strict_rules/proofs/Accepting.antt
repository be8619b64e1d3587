-- Acceptance by single places, and what follows: the two walks agree (document 01, "Components and the two walks"), and corrupted slots
-- cost nothing but themselves (the order, demand 3).
use Prim.Native.Nat.{ℕ, ◌≤◌, ◌<◌}
use native.Mathlib.Omega.{arith}
use native.Mathlib.Decide.{dec_lt}
use mathlib.Core.Path.{◌≡◌, refl, sym, ap, ◌∙◌}
use mathlib.Core.List.{List, [], ◌∷◌, Memᴰ}
use mathlib.Core.Logic.{◌↔◌}
use mathlib.Core.Bool.{Bool, true, false, not, ◌&&◌}
use Rattle.std.specs.Prelude.{Some}
use lib.ListN.{length}
use lib.Dec.{eqb}
use borrow.Author.Tests.{eqb-true, eq-eqb, not-false}
use Rattle.component.specs.Component.{span_length}
use Rattle.bytes_read.specs.Lists.{filter}
use Rattle.walk.specs.Walk.{Entry, entry_end, all_places, magic_at, plain_pick, guarded_pick, plain_listing, guarded_listing, Place}
use Rattle.walk_lookup.specs.Lookup.{only_or_refused, bears, plain_lookup, guarded_lookup}
use Rattle.walk.proofs.Steps.{Exclusive, listing-all, mem_listing, listing-disjoint, rest_none}
use Rattle.walk.proofs.Stepping.{pick_fits, step_no_places}
use Rattle.walk.proofs.Picks.{plain_none, magic-fits, magic_inside_of, guarded_plain, guarded_of, guarded_none, guarded_exclusive, guarded_context_free}
use Rattle.strict_rules.specs.Strict.{component_limit, lists_place, is_untaken, untaken_places, distinct_names, Accepted, EveryMagicTaken}
use Rattle.strict_rules.specs.Slots.{in_slots, listed_from_slots, CorruptedRegion, CorruptionContainedInRegion}
use Rattle.bytes_read.proofs.Tested.{any_true, mem_any, filter_empty, filter_none, filter_comm}
use Rattle.strict_rules.proofs.Picked.{listed_place, place_listed, picked_same}
use Rattle.strict_rules.proofs.Bearing.{only_one, lone, first_only}
use Rattle.strict_rules.proofs.Frames.{Frame, guarded_mem, same_rest, same_listed}
use Rattle.strict_rules.proofs.Slots.{slot_frame, corrupted_inside}

pub mem_takes : (l : List Entry) (t : Entry) → Memᴰ t l → lists_place l t.place ≡ true
unfolding lists_place
mem_takes l t m = mem_any (λ u. eqb u.place t.place) l t m (eq-eqb t.place t.place refl)

pub takes_mem : (l : List Entry) (p : ℕ) → lists_place l p ≡ true → (t : Entry) × Memᴰ t l × (t.place ≡ p)
unfolding lists_place
takes_mem l p e = let (t, m, q) = any_true (λ t. eqb t.place p) l e in (t, m, eqb-true t.place p q)

module _ (r : List ℕ) (a : ℕ) (pos : 0 < a) where
  -- Where every magic is a component's that the guarded walk may take, both walks agree.
  module _ (every_taken : EveryMagicTaken r a) where
    plain_guarded : (p : ℕ) → Place a p → plain_pick r p ≡ guarded_pick r a p
    plain_guarded p pl = go (magic_at r p) refl
      where
        go : (b : Bool) → magic_at r p ≡ b → plain_pick r p ≡ guarded_pick r a p
        go true c = let s = every_taken p pl c in (guarded_plain r a pos p s.0 s.1).0 ∙ sym s.1
        go false c = plain_none r p c ∙ sym (guarded_none r a pos p c)

    plain_exclusive : Exclusive (plain_pick r) r a pos
    plain_exclusive p h pl e q ql lt lt' = plain_guarded q ql ∙ guarded_exclusive r a pos p h pl (sym (plain_guarded p pl) ∙ e) q ql lt lt'

    pub every_taken_agree : plain_listing r a ≡ guarded_listing r a
    every_taken_agree = listing-all (plain_pick r) r a pos (pick_fits false r a pos) plain_exclusive
        ∙ picked_same (guarded_pick r a) (plain_pick r) (all_places r a) (λ p m. plain_guarded p (listed_place r a pos p m).0)
        ∙ sym (guarded_context_free r a pos)

    -- And the plain walk takes every place with the magic.
    pub every_taken_listed : untaken_places r a ≡ []
    unfolding untaken_places is_untaken
    every_taken_listed = filter_none (is_untaken r (plain_listing r a)) (all_places r a) (λ p m. go p (listed_place r a pos p m).0 (magic_at r p) refl)
      where
        go : (p : ℕ) → Place a p → (b : Bool) → magic_at r p ≡ b → b && not (lists_place (plain_listing r a) p) ≡ false
        go p pl false c = refl
        go p pl true c = let s = every_taken p pl c in
            rw (mem_takes (plain_listing r a) (record { place = p; component = s.0 }) (rw every_taken_agree (guarded_mem r a pos p s.0 pl s.1)))

  module _ (all_taken : untaken_places r a ≡ []) where
    -- A place with the magic is listed.
    caught : (p : ℕ) → Place a p → magic_at r p ≡ true → (t : Entry) × Memᴰ t (plain_listing r a) × (t.place ≡ p)
    unfolding untaken_places is_untaken
    caught p pl c = takes_mem (plain_listing r a) p (not-false (lists_place (plain_listing r a) p) (rw c at
        (filter_empty (is_untaken r (plain_listing r a)) (all_places r a) all_taken p (place_listed r a pos p pl (omega (arith, magic-fits r p c))))))

    -- What is listed has no magic inside.
    clean : (t : Entry) → Memᴰ t (plain_listing r a) → (q : ℕ) → Place a q → t.place < q → q < entry_end t → magic_at r q ≡ false
    clean t m q ql lt lt' = go (magic_at r q) refl
      where
        go : (b : Bool) → magic_at r q ≡ b → b ≡ false
        go false e = refl
        go true e =
            let (u, n, at) = caught q ql e in
            absurd (omega (arith, at, listing-disjoint (plain_pick r) r a pos (pick_fits false r a pos) t u m n (omega (arith, at))))

    listed_guarded : (t : Entry) → Memᴰ t (plain_listing r a) → guarded_pick r a t.place ≡ Some t.component
    listed_guarded t m =
        let l = mem_listing (plain_pick r) r a pos (pick_fits false r a pos) t m in
        guarded_of r a pos t.place t.component l.taken
        (magic_inside_of r a pos t.place (span_length t.component) (λ q ql lt lt'. clean t m q ql lt lt') l.at)

    pub listed_every_taken : EveryMagicTaken r a
    listed_every_taken p pl c = let (t, m, q) = caught p pl c in (t.component, rw q at (listed_guarded t m))

  -- Every place with the magic is one the plain walk takes, exactly if a guarded pick succeeds at every place with the magic.
  pub taken_context_free : (untaken_places r a ≡ []) ↔ EveryMagicTaken r a
  taken_context_free = (listed_every_taken, every_taken_listed)

-- "On accepted images both walks agree", at any alignment.
pub walks_agree : (r : List ℕ) (a : ℕ) → Accepted r a → plain_listing r a ≡ guarded_listing r a
walks_agree r a acc = go (dec_lt 0 a)
  where
    go : Dec (0 < a) → plain_listing r a ≡ guarded_listing r a
    go (yes pos) = every_taken_agree r a pos (listed_every_taken r a pos acc.all_taken)
    go (no n) =
        let z : a ≡ 0 = omega arith in
        rest_none (plain_pick r) r a 0 (step_no_places (plain_pick r) r a 0 z)
        ∙ sym (rest_none (guarded_pick r a) r a 0 (step_no_places (guarded_pick r a) r a 0 z))

-- Acceptance by single places and the guarded listing.
pub accepted_context_free : (r : List ℕ) (a : ℕ) → 0 < a
    → Accepted r a ↔ (EveryMagicTaken r a × (length (guarded_listing r a) ≤ component_limit) × (distinct_names (guarded_listing r a) ≡ true))
accepted_context_free r a pos = (
  λ acc. (listed_every_taken r a pos acc.all_taken, rw (← walks_agree r a acc) acc.at_most, rw (← walks_agree r a acc) acc.names_are_distinct),
  λ h. record {
    all_taken = every_taken_listed r a pos h.0;
    at_most = rw (every_taken_agree r a pos h.0) h.1;
    names_are_distinct = rw (every_taken_agree r a pos h.0) h.2;
  },
)

-- And so do both lookups, whatever is asked for.
pub lookups_agree : (r : List ℕ) (a : ℕ) → Accepted r a → (name : List ℕ) → plain_lookup r a name ≡ guarded_lookup r a name
lookups_agree r a acc name =
    first_only (plain_listing r a) acc.names_are_distinct name ∙ ap (λ (l : List Entry). only_or_refused (filter (bears name) l)) (walks_agree r a acc)

-- Demand 3, for a region. The eight bytes at a place lie in one slot only if places are eight apart or more; at a smaller alignment new
-- bytes could spell a magic together with the end of an untouched slot.
pub corrupting : (r : List ℕ) (a : ℕ) → 8 ≤ a → Accepted r a → (set : ℕ → Bool) (r' : List ℕ) → CorruptedRegion set r a r'
    → CorruptionContainedInRegion set r a r'
unfolding filter
corrupting r a big acc set r' sp = record {
  listed = same_listed r r' a big (in_slots set r a) frame;
  other_components = rest;
  inside = corrupted_inside r a big set r' sp;
  lookup = λ t m q. only_one (bears t.component.name) (listed_from_slots set r a) (guarded_listing r' a) t (name t m q);
}
  where
    pos : 0 < a
    pos = omega arith

    frame : Frame r a (in_slots set r a) r'
    frame = slot_frame r a big set r' sp

    rest : filter (λ t. not (listed_from_slots set r a t)) (guarded_listing r' a) ≡ filter (λ t. not (listed_from_slots set r a t)) (guarded_listing r a)
    rest = same_rest r r' a big (in_slots set r a) frame (listed_every_taken r a pos acc.all_taken)

    distinct : distinct_names (guarded_listing r a) ≡ true
    distinct = rw (walks_agree r a acc) at acc.names_are_distinct

    name : (t : Entry) → Memᴰ t (guarded_listing r a) → listed_from_slots set r a t ≡ false
        → filter (bears t.component.name) (filter (λ u. not (listed_from_slots set r a u)) (guarded_listing r' a)) ≡ t ∷ []
    name t m q = ap (filter (bears t.component.name)) rest
        ∙ filter_comm (bears t.component.name) (λ u. not (listed_from_slots set r a u)) (guarded_listing r a)
        ∙ ap (filter (λ u. not (listed_from_slots set r a u))) (lone (guarded_listing r a) distinct t m)
        ∙ rw q

-- What stays of the guarded listing where bytes are put anew, as long as these fill whole cells between places and no span in part.
use Prim.Native.Nat.{ℕ, suc, ◌+◌, ◌≤◌, ◌<◌}
use native.Mathlib.Nat.{lt_of_mul-lt-mul_right, mul-le-mul_right}
use native.Mathlib.Omega.{arith}
use mathlib.Core.Path.{◌≡◌, refl, sym, ◌∙◌}
use mathlib.Core.List.{List, Memᴰ}
use mathlib.Core.Bool.{Bool, true, false, not}
use Rattle.std.specs.Prelude.{Some}
use lib.ListN.{length, get_or, drop}
use borrow.Author.Tests.{not-true}
use Rattle.component.specs.Component.{Component, span_length}
use Rattle.component.proofs.Judging.{judge_local, window}
use Rattle.bytes_read.specs.Lists.{filter}
use Rattle.walk.specs.Walk.{Entry, all_places, magic_at, magic_inside, plain_pick, guarded_pick, guarded_listing, Place}
use Rattle.walk.proofs.Picks.{magic_local, no_magic_inside, magic_inside_of, guarded_plain, guarded_of, guarded_none, guarded_fits, guarded_context_free}
use Rattle.strict_rules.proofs.Picked.{mem_picked, picked_mem, listed_place, place_listed, picked-filter}
use Rattle.strict_rules.specs.Strict.{EveryMagicTaken}

-- What the guarded listing has: what may be taken at a place, and all of it.

pub mem_guarded : (r : List ℕ) (a : ℕ) → 0 < a → (t : Entry) → Memᴰ t (guarded_listing r a)
    → Place a t.place × (t.place < length r) × (guarded_pick r a t.place ≡ Some t.component)
mem_guarded r a pos t m =
    let f = mem_picked (guarded_pick r a) (all_places r a) t (rw (guarded_context_free r a pos) at m) in
    let q = listed_place r a pos t.place f.0 in
    (q.0, q.1, f.1)

pub guarded_mem : (r : List ℕ) (a : ℕ) → 0 < a → (p : ℕ) (c : Component) → Place a p → guarded_pick r a p ≡ Some c
    → Memᴰ (record { place = p; component = c }) (guarded_listing r a)
guarded_mem r a pos p c pl e =
    rw (guarded_context_free r a pos) (picked_mem (guarded_pick r a) (all_places r a) p c
    (place_listed r a pos p pl (omega (arith, guarded_fits r a pos p c e))) e)

-- Two places are a apart.
pub place_far : (a : ℕ) (p q : ℕ) → Place a p → Place a q → p < q → p + a ≤ q
place_far a p q (i, pe) (j, qe) lt =
    let ij : i < j = lt_of_mul-lt-mul_right a {m = i} {n = j} (omega arith) in
    omega (arith, mul-le-mul_right {m = suc i} {n = j} a ij)

-- The bytes of a region that are put anew: whole cells, each from a place up to the next, and of what may be taken at a place that stays, the whole span stays.
pub record Frame (r : List ℕ) (a : ℕ) (anew : ℕ → Bool) (r' : List ℕ) : Type 0 where
  pub same_length : length r' ≡ length r
  pub rest : (i : ℕ) → anew i ≡ false → get_or r' i 0 ≡ get_or r i 0
  pub cells : (p i : ℕ) → Place a p → anew p ≡ false → p ≤ i → i < p + a → i < length r → anew i ≡ false
  pub spans : (p : ℕ) (c : Component) → Place a p → guarded_pick r a p ≡ Some c → anew p ≡ false → (i : ℕ) → p ≤ i → i < p + span_length c → anew i ≡ false

-- The eight bytes at a place lie in its cell: for that the alignment is 8 or more.
module _ (r r' : List ℕ) (a : ℕ) (big : 8 ≤ a) (anew : ℕ → Bool) (fr : Frame r a anew r') where
  abbrev pos : 0 < a
  pos = omega arith

  pub same_magic : (p : ℕ) → Place a p → anew p ≡ false → magic_at r' p ≡ magic_at r p
  same_magic p pl q = magic_local r r' p fr.same_length (λ i le lt l. fr.rest i (fr.cells p i pl q le (omega arith) l))

  pub same_component : (p : ℕ) (c : Component) → Place a p → anew p ≡ false → guarded_pick r a p ≡ Some c → guarded_pick r' a p ≡ Some c
  unfolding plain_pick
  same_component p c pl q e = guarded_of r' a pos p c
      (judge_local (drop p r) (drop p r') c g.0
      (window (span_length c) p r' r (rw fr.same_length) (λ j j< k. fr.rest (p + j) (stays (p + j) (omega arith) (omega arith)))))
      (magic_inside_of r' a pos p (span_length c)
      (λ x px lt k. same_magic x px (stays x (omega arith) k) ∙ no_magic_inside r a pos p (span_length c) pl g.1 x px lt k) pl)
    where
      g : (plain_pick r p ≡ Some c) × (magic_inside r a p (span_length c) ≡ false)
      g = guarded_plain r a pos p c e

      stays : (i : ℕ) → p ≤ i → i < p + span_length c → anew i ≡ false
      stays = fr.spans p c pl e q

  -- What stays is listed, alike in place, type, name and content.
  pub same_listed : (t : Entry) → Memᴰ t (guarded_listing r a) → anew t.place ≡ false → Memᴰ t (guarded_listing r' a)
  same_listed t m q = let f = mem_guarded r a pos t m in
      guarded_mem r' a pos t.place t.component f.0 (same_component t.place t.component f.0 q f.2)

  -- Where every magic was a component's, the guarded walk may take at a place that stays what it might.
  module _ (every_taken : EveryMagicTaken r a) where
    pub same_pick : (p : ℕ) → Place a p → anew p ≡ false → guarded_pick r' a p ≡ guarded_pick r a p
    same_pick p pl q = go (magic_at r p) refl
      where
        go : (b : Bool) → magic_at r p ≡ b → guarded_pick r' a p ≡ guarded_pick r a p
        go true e = let s = every_taken p pl e in same_component p s.0 pl q s.1 ∙ sym s.1
        go false e = guarded_none r' a pos p (same_magic p pl q ∙ e) ∙ sym (guarded_none r a pos p e)

    -- What is listed at places that stay is the same, in its order.
    pub same_rest : filter (λ t. not (anew t.place)) (guarded_listing r' a) ≡ filter (λ t. not (anew t.place)) (guarded_listing r a)
    same_rest = rw (guarded_context_free r' a pos, guarded_context_free r a pos, fr.same_length)
        (picked-filter (λ p. not (anew p)) (guarded_pick r a) (guarded_pick r' a) (all_places r a)
        (λ p m e. same_pick p (listed_place r a pos p m).0 (not-true (anew p) e)))

    -- If each new magic is a component's too, every magic is.
    pub still_every_taken : ((p : ℕ) → Place a p → anew p ≡ true → magic_at r' p ≡ true → (c : Component) × (guarded_pick r' a p ≡ Some c))
        → EveryMagicTaken r' a
    still_every_taken new p pl c = go (anew p) refl
      where
        go : (b : Bool) → anew p ≡ b → (d : Component) × (guarded_pick r' a p ≡ Some d)
        go true q = new p pl q c
        go false q = let s = every_taken p pl (sym (same_magic p pl q) ∙ c) in (s.0, same_component p s.0 pl q s.1)

-- What the edits of a region answer and leave (the order, demand 2; document 01, "Edits" and refusals 10 to 17). The eight bytes at a place lie
-- in one slot only if places are eight apart or more: hence 8 ≤ a.
use Prim.Native.Nat.{ℕ, zero, suc, ◌+◌, ◌-◌, ◌^◌, ◌≤◌, ◌<◌}
use native.Mathlib.Nat.{pow-suc}
use native.Mathlib.Omega.{arith}
use mathlib.Core.Path.{◌≡◌, refl, sym, ap, subst, ◌∙◌}
use mathlib.Core.List.{List, [], ◌∷◌, Memᴰ}
use mathlib.Core.Logic.{◌↔◌}
use mathlib.Core.Bool.{Bool, true, false, cond, ◌||◌, true≢false}
use Rattle.std.specs.Prelude.{Some, None}
use Rattle.std.proofs.lemmas.Option.{none-some}
use lib.ListN.{length, drop}
use lib.Seq.{get_or-drop}
use Rattle.bytes_read.specs.Number.{be}
use Rattle.component.specs.Names.{name_fits}
use Rattle.component.specs.Component.{Component, component_of}
use Rattle.component.proofs.Judging.{formed, judge_name}
use Rattle.bytes_read.specs.Lists.{any}
use Rattle.walk.specs.Walk.{Entry, magic_at, magic_inside, places, place_count_below, plain_listing, Place}
use Rattle.walk_lookup.specs.Lookup.{bears}
use Rattle.walk.proofs.Places.{mem_places}
use Rattle.walk.proofs.Picks.{magic-fits, no_magic_inside}
use Rattle.walk.proofs.Members.{given}
use Rattle.walk_lookup.proofs.Bearers.{bears_name_lem}
use Rattle.strict_rules.specs.Strict.{component_limit, Accepted, verdict}
use Rattle.strict_rules.specs.Slots.{first_start}
use Rattle.bytes_read.proofs.Tested.{any_true}
use Rattle.edit_rules.specs.Edit.{AllBytes, Run, run_fits, EntrySlot, slot_of, free_runs, lowest_fitting, contains_magic, span_bytes, slot_filled, write}
use Rattle.edit_rules.specs.Edit.{after_check, add_after_check, replace_after_check, remove_after_check, edit_done, carried_out, add, replace, remove}
use Rattle.edit_rules.specs.Edit.{AddPassesTo16}
use Rattle.edit_rules.proofs.Written.{Fit, name_fit, length_span}
use Rattle.edit_rules.proofs.Runs.{run_fits_true}
use Rattle.edit_rules.proofs.Decisions.{not_write, same_write, does, check_accepted_lem, check_write, AddCase, unfit, used, full, add_has_magic, no_run_fits}
use Rattle.edit_rules.proofs.Decisions.{placed, add_case, ReplaceCase, no_bearer, replace_has_magic, long, fitting, replace_case, RemoveCase, missing}
use Rattle.edit_rules.proofs.Decisions.{remove_done_case, remove_case}
use Rattle.edit_rules.proofs.Outcomes.{Added, Replaced, Removed, added, replaced, removed, at}

be-below : (w : ℕ) (s : List ℕ) (i : ℕ) → AllBytes s → be w s i < 256 ^ w
unfolding be
be-below zero s i h = omega arith
be-below (suc w) s i h = rw (pow-suc 256 w) (omega (arith, be-below w s i h, h (i + w)))

-- The name of a listed component is fit, and its type has 32 bits.

pub listed_fit : (r : List ℕ) (a : ℕ) (t : Entry) → Memᴰ t (plain_listing r a) → name_fits t.component.name ≡ true
listed_fit r a t m = (judge_name (drop t.place r) t.component (given false r a t m).judged).0

listed_kind : (r : List ℕ) (a : ℕ) → AllBytes r → (t : Entry) → Memᴰ t (plain_listing r a) → t.component.kind < 256 ^ 4
unfolding component_of
listed_kind r a h t m =
    let f = formed (drop t.place r) t.component (given false r a t m).judged in
    subst (λ (c : Component). c.kind < 256 ^ 4) f.read (be-below 4 (drop t.place r) 12 (λ i. rw (get_or-drop t.place r i 0) (h (t.place + i))))

-- The slot of a name's bearer, and no slot where no component has it.

pub slot_member : (e : ℕ) (name : List ℕ) (l : List Entry) (z : EntrySlot) → slot_of e name l ≡ Some z → Memᴰ z.entry l × (bears name z.entry ≡ true)
unfolding slot_of
slot_member e name [] z g = absurd (none-some z g)
slot_member e name (t ∷ ts) z g = go (bears name t) refl g (slot_member e name ts z)
  where
    go : (b : Bool) → bears name t ≡ b → cond b (Some (record { entry = t; run = record { from = t.place; to = first_start e ts } })) (slot_of e name ts)
        ≡ Some z
        → (slot_of e name ts ≡ Some z → Memᴰ z.entry ts × (bears name z.entry ≡ true))
        → Memᴰ z.entry (t ∷ ts) × (bears name z.entry ≡ true)
    go true h g' ih = let q : t ≡ z.entry = cc in (Memᴰ.head (sym q), rw (← q) h)
    go false h g' ih = let m = ih g' in (Memᴰ.tail m.0, m.1)

pub slot_none_exactly : (e : ℕ) (name : List ℕ) (l : List Entry) → (slot_of e name l ≡ None) ↔ (any (bears name) l ≡ false)
unfolding slot_of
slot_none_exactly e name [] = (λ q. refl, λ q. refl)
slot_none_exactly e name (t ∷ ts) = go (bears name t) (slot_none_exactly e name ts)
  where
    go : (b : Bool) → (slot_of e name ts ≡ None) ↔ (any (bears name) ts ≡ false)
        → (cond b (Some (record { entry = t; run = record { from = t.place; to = first_start e ts } })) (slot_of e name ts) ≡ None) ↔
        (b || any (bears name) ts ≡ false)
    go true ih = (λ q. absurd (none-some _ (sym q)), λ q. absurd (true≢false q))
    go false ih = ih

-- 16, in the paper's words: the bytes carry the magic, wholly, at a multiple of a above 0.
pub contains_magic_exactly : (a : ℕ) → 0 < a → (s : List ℕ) → (contains_magic a s ≡ true) ↔ ((q : ℕ) × Place a q × (0 < q) × (magic_at s q ≡ true))
unfolding contains_magic
contains_magic_exactly a pos s = (only, λ h. of h.0 h.1 h.2 h.3 (magic_inside s a 0 (length s)) refl)
  where
    only : magic_inside s a 0 (length s) ≡ true → (q : ℕ) × Place a q × (0 < q) × (magic_at s q ≡ true)
    only e =
        let (q, m, c) = any_true (magic_at s) (places a (place_count_below a (length s) - 1) (0 + a)) (unfold magic_inside in e) in
        let (i, lt, at) = mem_places a (place_count_below a (length s) - 1) (0 + a) q m in
        (q, (suc i, omega arith), omega arith, c)

    of : (q : ℕ) → Place a q → 0 < q → magic_at s q ≡ true → (b : Bool) → magic_inside s a 0 (length s) ≡ b → b ≡ true
    of q pl lt c true e = refl
    of q pl lt c false e = absurd (true≢false (sym c ∙ no_magic_inside s a pos 0 (length s) (0, omega arith) e q pl lt (omega (arith, magic-fits s q c))))

module _ (r : List ℕ) (a : ℕ) where
  -- An edit that is done: the strict check still accepts, both lookups, every other name, both listings, the bytes outside the slot.

  pub add_done : 8 ≤ a → (name : List ℕ) (kind : ℕ) (put : List ℕ) (p : ℕ) → kind < 256 ^ 4 → (add component_limit r a name kind put).answer ≡ edit_done p
      → Added r a name kind put p (add component_limit r a name kind put).bytes
  unfolding add
  add_done big name kind put p typed e =
      let d = does r (after_check (verdict component_limit r a) (add_after_check component_limit r a name (span_bytes name kind put) (plain_listing r a))) p e
      in
      let f = check_write r a (add_after_check component_limit r a name (span_bytes name kind put) (plain_listing r a)) d.run d.bytes d.writes in
      go f.0 (add_case component_limit r a name (span_bytes name kind put) (plain_listing r a)) d.run d.bytes f.1 d.place _ d.after
    where
      by : Accepted r a → AddPassesTo16 component_limit a name (span_bytes name kind put) (plain_listing r a) → (y : Run)
          → lowest_fitting (length (span_bytes name kind put)) (free_runs r a) ≡ Some y
          → (x : Run) (s : List ℕ) → y ≡ x → span_bytes name kind put ≡ s → x.from ≡ p → (r' : List ℕ) → r' ≡ slot_filled r x s → Added r a name kind put p r'
      by acc ok y low x s u b q r' h = rw (h, ← b, ← q, ← u) (added r a big acc name kind put typed ok y low)

      go : Accepted r a → AddCase component_limit r a name (span_bytes name kind put) (plain_listing r a) → (x : Run) (s : List ℕ)
          → add_after_check component_limit r a name (span_bytes name kind put) (plain_listing r a) ≡ write x s
          → x.from ≡ p → (r' : List ℕ) → r' ≡ slot_filled r x s → Added r a name kind put p r'
      go acc (unfit u v) x s w q r' h = absurd (not_write 14 0 x s v w)
      go acc (used u u₂ v) x s w q r' h = absurd (not_write 15 0 x s v w)
      go acc (full u u₂ u₃ v) x s w q r' h = absurd (not_write 13 0 x s v w)
      go acc (add_has_magic u u₂ v) x s w q r' h = absurd (not_write 16 0 x s v w)
      go acc (no_run_fits u u₂ v) x s w q r' h = absurd (not_write 17 0 x s v w)
      go acc (placed y ok low v) x s w q r' h = let z = same_write v w in by acc ok y low x s z.0 z.1 q r' h

  pub replace_done : 8 ≤ a → AllBytes r → (name put : List ℕ) (p : ℕ) → (replace component_limit r a name put).answer ≡ edit_done p
      → Replaced r a name put p (replace component_limit r a name put).bytes
  unfolding replace
  replace_done big bs name put p e =
      let d = does r (after_check (verdict component_limit r a) (replace_after_check a name put (slot_of (length r) name (plain_listing r a)))) p e in
      let f = check_write r a (replace_after_check a name put (slot_of (length r) name (plain_listing r a))) d.run d.bytes d.writes in
      go f.0 (replace_case a (length r) name put (plain_listing r a)) d.run d.bytes f.1 d.place _ d.after
    where
      by : Accepted r a → (z : EntrySlot) → slot_of (length r) name (plain_listing r a) ≡ Some z
          → contains_magic a (span_bytes name z.entry.component.kind put) ≡ false
          → run_fits (length (span_bytes name z.entry.component.kind put)) z.run ≡ true → (x : Run) (s : List ℕ) → z.run ≡ x
          → span_bytes name z.entry.component.kind put ≡ s
          → x.from ≡ p → (r' : List ℕ) → r' ≡ slot_filled r x s → Replaced r a name put p r'
      by acc z own clean held x s u b q r' h =
          let m = slot_member (length r) name (plain_listing r a) z own in
          let k = run_fits_true (length (span_bytes name z.entry.component.kind put)) z.run held in
          let fit : Fit name = name_fit name (rw (bears_name_lem name z.entry m.1) at (listed_fit r a z.entry m.0)) in
          rw (h, ← b, ← q, ← u) (replaced r a big acc name z own put clean k.1 fit (listed_kind r a bs z.entry m.0)
          (omega (arith, k.0, length_span name z.entry.component.kind put)))

      go : Accepted r a → ReplaceCase a (length r) name put (plain_listing r a) → (x : Run) (s : List ℕ)
          → replace_after_check a name put (slot_of (length r) name (plain_listing r a)) ≡ write x s
          → x.from ≡ p → (r' : List ℕ) → r' ≡ slot_filled r x s → Replaced r a name put p r'
      go acc (no_bearer u v) x s w q r' h = absurd (not_write 10 0 x s v w)
      go acc (replace_has_magic z u u₂ v) x s w q r' h = absurd (not_write 16 0 x s v w)
      go acc (long z u u₂ u₃ v) x s w q r' h = absurd (not_write 17 0 x s v w)
      go acc (fitting z own clean held v) x s w q r' h = let y = same_write v w in by acc z own clean held x s y.0 y.1 q r' h

  pub remove_done : 8 ≤ a → (name : List ℕ) (p : ℕ) → (remove component_limit r a name).answer ≡ edit_done p
      → Removed r a name p (remove component_limit r a name).bytes
  unfolding remove
  remove_done big name p e =
      let d = does r (after_check (verdict component_limit r a) (remove_after_check (slot_of (length r) name (plain_listing r a)))) p e in
      let f = check_write r a (remove_after_check (slot_of (length r) name (plain_listing r a))) d.run d.bytes d.writes in
      go f.0 (remove_case (length r) name (plain_listing r a)) d.run d.bytes f.1 d.place _ d.after
    where
      by : Accepted r a → (z : EntrySlot) → slot_of (length r) name (plain_listing r a) ≡ Some z → (x : Run) (s : List ℕ) → z.run ≡ x → [] ≡ s → x.from ≡ p
          → (r' : List ℕ) → r' ≡ slot_filled r x s → Removed r a name p r'
      by acc z own x s u b q r' h = rw (h, ← b, ← q, ← u) (removed r a big acc name z own)

      go : Accepted r a → RemoveCase (length r) name (plain_listing r a) → (x : Run) (s : List ℕ)
          → remove_after_check (slot_of (length r) name (plain_listing r a)) ≡ write x s
          → x.from ≡ p → (r' : List ℕ) → r' ≡ slot_filled r x s → Removed r a name p r'
      go acc (missing u v) x s w q r' h = absurd (not_write 10 0 x s v w)
      go acc (remove_done_case z own v) x s w q r' h = let y = same_write v w in by acc z own x s y.0 y.1 q r' h

  -- An add is done on accepted regions only.
  pub add_accepted : (name : List ℕ) (kind : ℕ) (put : List ℕ) (p : ℕ) → (add component_limit r a name kind put).answer ≡ edit_done p → Accepted r a
  unfolding add
  add_accepted name kind put p e =
      let d = does r (after_check (verdict component_limit r a) (add_after_check component_limit r a name (span_bytes name kind put) (plain_listing r a))) p e
      in
      (check_write r a (add_after_check component_limit r a name (span_bytes name kind put) (plain_listing r a)) d.run d.bytes d.writes).0

  -- On an accepted region an edit is decided by its own tests.

  pub add_on : Accepted r a → (name : List ℕ) (kind : ℕ) (put : List ℕ)
      → add component_limit r a name kind put ≡ carried_out r (add_after_check component_limit r a name (span_bytes name kind put) (plain_listing r a))
  unfolding add
  add_on acc name kind put = ap (carried_out r)
      (check_accepted_lem r a (add_after_check component_limit r a name (span_bytes name kind put) (plain_listing r a)) acc)

  pub replace_on : Accepted r a → (name put : List ℕ)
      → replace component_limit r a name put ≡ carried_out r (replace_after_check a name put (slot_of (length r) name (plain_listing r a)))
  unfolding replace
  replace_on acc name put = ap (carried_out r) (check_accepted_lem r a (replace_after_check a name put (slot_of (length r) name (plain_listing r a))) acc)

  pub remove_on : Accepted r a → (name : List ℕ) → remove component_limit r a name ≡ carried_out r
      (remove_after_check (slot_of (length r) name (plain_listing r a)))
  unfolding remove
  remove_on acc name = ap (carried_out r) (check_accepted_lem r a (remove_after_check (slot_of (length r) name (plain_listing r a))) acc)

-- What an edit decides, case by case, in document 01's order of refusals.
use Prim.Native.Nat.{ℕ, ◌≤◌}
use native.Mathlib.Omega.{arith}
use mathlib.Core.Path.{◌≡◌, refl, sym, ap, ◌∙◌}
use mathlib.Core.List.{List, []}
use mathlib.Core.Bool.{Bool, true, false}
use Rattle.std.specs.Prelude.{Option, Some, None}
use lib.ListN.{length}
use lib.Dec.{ltb}
use borrow.Author.Tests.{ltb-true, ltb-false}
use Rattle.component.specs.Names.{name_fits}
use Rattle.bytes_read.specs.Lists.{any}
use Rattle.walk.specs.Walk.{Entry, plain_listing}
use Rattle.walk_lookup.specs.Lookup.{bears}
use Rattle.strict_rules.specs.Strict.{component_limit, Accepted, Verdict, check_refused, check_accepted, verdict, component_places}
use Rattle.strict_rules.proofs.Verdicts.{accepted_exactly}
use Rattle.edit_rules.specs.Edit.{Run, run_fits, runs, lowest_fitting, EntrySlot, slot_of, contains_magic, span_bytes, Decision, refuse, write, after_check}
use Rattle.edit_rules.specs.Edit.{add_after_check, replace_after_check, remove_after_check, slot_filled, edit_done, carried_out, AddPassesTo13, AddPassesTo16}
use Rattle.edit_rules.specs.Table.{decision_number}

-- No decision is two of these.

run_in : Decision → Run
run_in (refuse n p) = record { from = 0; to = 0 }
run_in (write x s) = x

bytes_in : Decision → List ℕ
bytes_in (refuse n p) = []
bytes_in (write x s) = s

pub clash : {d : Decision} (n p m q : ℕ) → d ≡ refuse n p → d ≡ refuse m q → (n ≡ m → ⊥) → ⊥
clash n p m q u v h = h (ap decision_number (sym u ∙ v))

pub not_write : {d : Decision} (n p : ℕ) (x : Run) (s : List ℕ) → d ≡ refuse n p → d ≡ write x s → ⊥
not_write n p x s u v = let z : ◌≡◌ {A = ℕ} 0 1 = cc in omega arith

pub same_write : {d : Decision} {x y : Run} {s t : List ℕ} → d ≡ write x s → d ≡ write y t → (x ≡ y) × (s ≡ t)
unfolding run_in bytes_in
same_write u v = (ap run_in (sym u ∙ v), ap bytes_in (sym u ∙ v))

-- The outcome of a decision.

pub is_done : (r : List ℕ) (d : Decision) (x : Run) (s : List ℕ) → d ≡ write x s → (carried_out r d).answer ≡ edit_done x.from
unfolding carried_out
is_done r d x s e = rw e

pub record Does (r : List ℕ) (d : Decision) (p : ℕ) : Type 0 where
  pub run : Run
  pub bytes : List ℕ
  pub writes : d ≡ write run bytes
  pub place : run.from ≡ p
  pub after : (carried_out r d).bytes ≡ slot_filled r run bytes

pub does : (r : List ℕ) (d : Decision) (p : ℕ) → (carried_out r d).answer ≡ edit_done p → Does r d p
unfolding carried_out
does r (refuse m q) p e = let z : ◌≡◌ {A = ℕ} 0 1 = cc in absurd (omega arith)
does r (write x s) p e = record { run = x; bytes = s; writes = refl; place = (cc); after = refl }

-- The strict check comes first: 12, 13, 11.
module _ (r : List ℕ) (a : ℕ) (d : Decision) where
  pub check_accepted_lem : Accepted r a → after_check (verdict component_limit r a) d ≡ d
  check_accepted_lem acc = rw ((accepted_exactly r a (component_places (plain_listing r a))).1 (acc, refl))

  -- An edit is done on accepted regions only.
  pub check_write : (x : Run) (s : List ℕ) → after_check (verdict component_limit r a) d ≡ write x s → Accepted r a × (d ≡ write x s)
  check_write x s e = go (verdict component_limit r a) refl e
    where
      go : (v : Verdict) → verdict component_limit r a ≡ v → after_check v d ≡ write x s → Accepted r a × (d ≡ write x s)
      go (check_refused n p) q e' = absurd (not_write n p x s refl e')
      go (check_accepted ps) q e' = (((accepted_exactly r a ps).0 q).0, e')

pub data AddCase (most : ℕ) (r : List ℕ) (a : ℕ) (name s : List ℕ) (l : List Entry) : Type 0 where
  unfit : name_fits name ≡ false → add_after_check most r a name s l ≡ refuse 14 0 → AddCase most r a name s l
  used : name_fits name ≡ true → any (bears name) l ≡ true → add_after_check most r a name s l ≡ refuse 15 0 → AddCase most r a name s l
  full : name_fits name ≡ true → any (bears name) l ≡ false → most ≤ length l → add_after_check most r a name s l ≡ refuse 13 0 → AddCase most r a name s l
  add_has_magic : AddPassesTo13 most name l → contains_magic a s ≡ true → add_after_check most r a name s l ≡ refuse 16 0 → AddCase most r a name s l
  no_run_fits : AddPassesTo16 most a name s l → lowest_fitting (length s) (runs r a 0 l) ≡ None → add_after_check most r a name s l ≡ refuse 17 0
      → AddCase most r a name s l
  placed : (x : Run) → AddPassesTo16 most a name s l → lowest_fitting (length s) (runs r a 0 l) ≡ Some x → add_after_check most r a name s l ≡ write x s
      → AddCase most r a name s l

pub add_case : (most : ℕ) (r : List ℕ) (a : ℕ) (name s : List ℕ) (l : List Entry) → AddCase most r a name s l
unfolding add_after_check
add_case most r a name s l =
    go (name_fits name) refl (any (bears name) l) refl (ltb (length l) most) refl (contains_magic a s) refl (lowest_fitting (length s) (runs r a 0 l)) refl
  where
    go : (b : Bool) → name_fits name ≡ b → (c : Bool) → any (bears name) l ≡ c → (d : Bool) → ltb (length l) most ≡ d → (f : Bool) → contains_magic a s ≡ f
        → (o : Option Run) → lowest_fitting (length s) (runs r a 0 l) ≡ o → AddCase most r a name s l
    go false p c q d u f v o w = unfit p (rw p)
    go true p true q d u f v o w = used p q (rw (p, q))
    go true p false q false u f v o w = full p q (ltb-false (length l) most u) (rw (p, q, u))
    go true p false q true u true v o w = add_has_magic (record { named = p; unused = q; at_most = ltb-true (length l) most u }) v (rw (p, q, u, v))
    go true p false q true u false v None w =
        no_run_fits (record { passes_to_13 = record { named = p; unused = q; at_most = ltb-true (length l) most u }; without_magic = v }) w (rw (p, q, u, v, w))
    go true p false q true u false v (Some x) w =
        placed x (record { passes_to_13 = record { named = p; unused = q; at_most = ltb-true (length l) most u }; without_magic = v }) w (rw (p, q, u, v, w))

pub data ReplaceCase (a e : ℕ) (name put : List ℕ) (l : List Entry) : Type 0 where
  no_bearer : slot_of e name l ≡ None → replace_after_check a name put (slot_of e name l) ≡ refuse 10 0 → ReplaceCase a e name put l
  replace_has_magic : (z : EntrySlot) → slot_of e name l ≡ Some z → contains_magic a (span_bytes name z.entry.component.kind put) ≡ true
      → replace_after_check a name put (slot_of e name l) ≡ refuse 16 0 → ReplaceCase a e name put l
  long : (z : EntrySlot) → slot_of e name l ≡ Some z → contains_magic a (span_bytes name z.entry.component.kind put) ≡ false
      → run_fits (length (span_bytes name z.entry.component.kind put)) z.run ≡ false → replace_after_check a name put (slot_of e name l) ≡ refuse 17 0
      → ReplaceCase a e name put l
  fitting : (z : EntrySlot) → slot_of e name l ≡ Some z → contains_magic a (span_bytes name z.entry.component.kind put) ≡ false
      → run_fits (length (span_bytes name z.entry.component.kind put)) z.run ≡ true
      → replace_after_check a name put (slot_of e name l) ≡ write z.run (span_bytes name z.entry.component.kind put) → ReplaceCase a e name put l

pub replace_case : (a e : ℕ) (name put : List ℕ) (l : List Entry) → ReplaceCase a e name put l
unfolding replace_after_check
replace_case a e name put l = go (slot_of e name l) refl
  where
    go : (o : Option EntrySlot) → slot_of e name l ≡ o → ReplaceCase a e name put l
    go None q = no_bearer q (rw q)
    go (Some z) q =
        by (contains_magic a (span_bytes name z.entry.component.kind put)) refl
        (run_fits (length (span_bytes name z.entry.component.kind put)) z.run) refl
      where
        by : (b : Bool) → contains_magic a (span_bytes name z.entry.component.kind put) ≡ b → (c : Bool)
            → run_fits (length (span_bytes name z.entry.component.kind put)) z.run ≡ c
            → ReplaceCase a e name put l
        by true u c v = replace_has_magic z q u (rw (q, u))
        by false u false v = long z q u v (rw (q, u, v))
        by false u true v = fitting z q u v (rw (q, u, v))

pub data RemoveCase (e : ℕ) (name : List ℕ) (l : List Entry) : Type 0 where
  missing : slot_of e name l ≡ None → remove_after_check (slot_of e name l) ≡ refuse 10 0 → RemoveCase e name l
  remove_done_case : (z : EntrySlot) → slot_of e name l ≡ Some z → remove_after_check (slot_of e name l) ≡ write z.run [] → RemoveCase e name l

pub remove_case : (e : ℕ) (name : List ℕ) (l : List Entry) → RemoveCase e name l
unfolding remove_after_check
remove_case e name l = go (slot_of e name l) refl
  where
    go : (o : Option EntrySlot) → slot_of e name l ≡ o → RemoveCase e name l
    go None q = missing q (rw q)
    go (Some z) q = remove_done_case z q (rw q)

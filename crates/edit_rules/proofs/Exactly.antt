-- When each refusal of an edit is given, both ways (document 01, refusals 10 and 13 to 17); and an add that a remove takes back.
use Prim.Native.Nat.{ℕ, zero, suc, ◌+◌, ◌^◌, ◌≤◌, ◌<◌}
use native.Mathlib.Omega.{arith}
use native.Mathlib.Decide.{dec_le}
use mathlib.Core.Path.{◌≡◌, refl, sym, ap, subst, ◌∙◌}
use mathlib.Core.List.{List, [], ◌∷◌, ◌++◌, Memᴰ}
use mathlib.Core.Logic.{◌⊎◌, inl, inr, ◌↔◌}
use mathlib.Core.Bool.{Bool, true, false, not, ◌&&◌, true≢false}
use Rattle.std.specs.Prelude.{Option, Some, None}
use Rattle.std.proofs.lemmas.Option.{none-some}
use lib.ListN.{length, get_or}
use lib.Dec.{eqb}
use borrow.Author.Tests.{lt-ltb, le-ltb, eq-eqb, ne_eqb}
use Rattle.bytes_read.specs.Lists.{any, filter}
use Rattle.bytes_read.specs.Tests.{all}
use Rattle.bytes_read.specs.Printable.{is_printable}
use Rattle.bytes_read.proofs.Tested.{any_false, any_true, mem_any, filter-all, filter_mem}
use Rattle.component.specs.Names.{name_tests, name_fits}
use Rattle.region.specs.Table.{Row, FirstRowMet}
use Rattle.region.proofs.Tables.{Fails, later_row, last_fails, either, one_fails, given_here, given_later}
use Rattle.walk.specs.Walk.{Entry, entry_end, plain_listing, guarded_listing, Place}
use Rattle.walk_lookup.specs.Lookup.{bears, lookup_gives, Bearer, NoBearer}
use Rattle.walk_lookup.proofs.Answers.{lookup_member}
use Rattle.walk_lookup.proofs.Bearers.{bears_name_lem, name_bears}
use Rattle.strict_rules.specs.Strict.{component_limit, Accepted, Verdict, check_refused, check_accepted, verdict}
use Rattle.strict_rules.specs.Table.{check_rows, verdict_number}
use Rattle.strict_rules.proofs.Accepting.{walks_agree}
use Rattle.strict_rules.proofs.Bearing.{lone}
use Rattle.strict_rules.proofs.Verdicts.{accepted_exactly, no_other}
use Rattle.strict_rules.proofs.Exactly.{magic_words, check_exactly}
use Rattle.edit_rules.specs.Edit.{Free, Run, run_fits, EntrySlot, slot_of, free_runs, lowest_fitting, contains_magic, span_bytes, Decision, refuse, write}
use Rattle.edit_rules.specs.Edit.{after_check, add_after_check, replace_after_check, remove_after_check, add_decision, replace_decision, remove_decision}
use Rattle.edit_rules.specs.Edit.{edit_done}
use Rattle.edit_rules.specs.Edit.{add, remove, insert_entry, remove_entry, FitsRunAt, AddPassesTo13}
use Rattle.edit_rules.specs.Table.{UnfitName, ContainsMagic, SlotShort, add_rows, replace_rows, remove_rows, decision_number}
use Rattle.edit_rules.proofs.Written.{length_span}
use Rattle.edit_rules.proofs.Lists.{filter_insert}
use Rattle.edit_rules.proofs.Runs.{run_fits_true, run_fits_of, row, Ends, Gap, mem_runs, runs-all, lowest_none, lowest_some, SlotOf, slot_of_entry}
use Rattle.edit_rules.proofs.Decisions.{clash, not_write, is_done, check_accepted_lem, AddCase, unfit, used, full, add_has_magic, no_run_fits, placed}
use Rattle.edit_rules.proofs.Decisions.{add_case, ReplaceCase, no_bearer, replace_has_magic, long, fitting, replace_case, RemoveCase, missing}
use Rattle.edit_rules.proofs.Decisions.{remove_done_case}
use Rattle.edit_rules.proofs.Decisions.{remove_case}
use Rattle.edit_rules.proofs.Outcomes.{Added, Removed, at}
use Rattle.edit_rules.proofs.Theorems.{slot_member, slot_none_exactly, contains_magic_exactly, add_accepted, add_done, remove_done}

-- The tests of an add, one by one.
module _ (most : ℕ) (r : List ℕ) (a : ℕ) (name s : List ℕ) (l : List Entry) where
  abbrev A : Decision
  A = add_after_check most r a name s l

  pub adding_14 : (A ≡ refuse 14 0) ↔ (name_fits name ≡ false)
  adding_14 = (go (add_case most r a name s l), λ p. unfold add_after_check in rw p)
    where
      go : AddCase most r a name s l → A ≡ refuse 14 0 → name_fits name ≡ false
      go (unfit p v) e = p
      go (used p q v) e = absurd (clash 15 0 14 0 v e (λ z. omega arith))
      go (full p q u v) e = absurd (clash 13 0 14 0 v e (λ z. omega arith))
      go (add_has_magic o b v) e = absurd (clash 16 0 14 0 v e (λ z. omega arith))
      go (no_run_fits o n v) e = absurd (clash 17 0 14 0 v e (λ z. omega arith))
      go (placed x o n v) e = absurd (not_write 14 0 x s e v)

  pub adding_15 : (A ≡ refuse 15 0) ↔ ((name_fits name ≡ true) × (any (bears name) l ≡ true))
  adding_15 = (go (add_case most r a name s l), λ p. unfold add_after_check in rw (p.0, p.1))
    where
      go : AddCase most r a name s l → A ≡ refuse 15 0 → (name_fits name ≡ true) × (any (bears name) l ≡ true)
      go (unfit p v) e = absurd (clash 14 0 15 0 v e (λ z. omega arith))
      go (used p q v) e = (p, q)
      go (full p q u v) e = absurd (clash 13 0 15 0 v e (λ z. omega arith))
      go (add_has_magic o b v) e = absurd (clash 16 0 15 0 v e (λ z. omega arith))
      go (no_run_fits o n v) e = absurd (clash 17 0 15 0 v e (λ z. omega arith))
      go (placed x o n v) e = absurd (not_write 15 0 x s e v)

  pub adding_13 : (A ≡ refuse 13 0) ↔ ((name_fits name ≡ true) × (any (bears name) l ≡ false) × (most ≤ length l))
  adding_13 = (go (add_case most r a name s l), λ p. unfold add_after_check in rw (p.0, p.1, le-ltb (length l) most p.2))
    where
      go : AddCase most r a name s l → A ≡ refuse 13 0 → (name_fits name ≡ true) × (any (bears name) l ≡ false) × (most ≤ length l)
      go (unfit p v) e = absurd (clash 14 0 13 0 v e (λ z. omega arith))
      go (used p q v) e = absurd (clash 15 0 13 0 v e (λ z. omega arith))
      go (full p q u v) e = (p, q, u)
      go (add_has_magic o b v) e = absurd (clash 16 0 13 0 v e (λ z. omega arith))
      go (no_run_fits o n v) e = absurd (clash 17 0 13 0 v e (λ z. omega arith))
      go (placed x o n v) e = absurd (not_write 13 0 x s e v)

  pub adding_16 : (A ≡ refuse 16 0) ↔ (AddPassesTo13 most name l × (contains_magic a s ≡ true))
  adding_16 = (go (add_case most r a name s l), λ p. unfold add_after_check in rw (p.0.named, p.0.unused, lt-ltb (length l) most p.0.at_most, p.1))
    where
      go : AddCase most r a name s l → A ≡ refuse 16 0 → AddPassesTo13 most name l × (contains_magic a s ≡ true)
      go (unfit p v) e = absurd (clash 14 0 16 0 v e (λ z. omega arith))
      go (used p q v) e = absurd (clash 15 0 16 0 v e (λ z. omega arith))
      go (full p q u v) e = absurd (clash 13 0 16 0 v e (λ z. omega arith))
      go (add_has_magic o b v) e = (o, b)
      go (no_run_fits o n v) e = absurd (clash 17 0 16 0 v e (λ z. omega arith))
      go (placed x o n v) e = absurd (not_write 16 0 x s e v)

-- A free run holds n bytes from a place on exactly if these are free, in a region of less than 2^32 bytes: freed runs are among the free ones.
module _ (r : List ℕ) (a : ℕ) (pos : 0 < a) (small : length r ≤ 0xFFFFFFFF) (acc : Accepted r a) where
  same : plain_listing r a ≡ guarded_listing r a
  same = walks_agree r a acc

  gap_of : (x : Run) → Memᴰ x (free_runs r a) → Gap a (length r) 0 (guarded_listing r a) x
  gap_of x m = mem_runs r a pos 0 (guarded_listing r a) (inl (0, omega arith)) (row r a pos) x (rw same at m)

  fits_run_free : (q n : ℕ) → FitsRunAt n (free_runs r a) q → Free r a q n
  fits_run_free q n (k, x, m, u, v) = let g = gap_of x m in (omega (arith, g.inside), λ d i. beside d (g.sides d (rw same at i)))
    where
      beside : (d : Entry) → (entry_end d ≤ x.from) ⊎ (x.to ≤ d.place) → (entry_end d ≤ q) ⊎ (q + n ≤ d.place)
      beside d (inl h) = inl (omega arith)
      beside d (inr h) = inr (omega arith)

  pub fits_run_exactly : (q n : ℕ) → Place a q → FitsRunAt n (free_runs r a) q ↔ Free r a q n
  fits_run_exactly q n pl = (
    fits_run_free q n,
    λ f. let (x, m, u, v) = runs-all r a pos 0 (guarded_listing r a) (row r a pos) q n pl (omega arith) f.0 (λ d m. f.1 d (rw same m)) in
        (omega (arith, f.0), x, rw same m, u, v),
  )

  -- No free run holds n bytes exactly if at no place so many are free.
  pub no_free : (n : ℕ) → 0 < n → (lowest_fitting n (free_runs r a) ≡ None) ↔ ((q : ℕ) → Place a q → Free r a q n → ⊥)
  no_free n some_byte = (λ e q pl f. lowest_none n (free_runs r a) e q ((fits_run_exactly q n pl).1 f), λ h. go h (lowest_fitting n (free_runs r a)) refl)
    where
      at_place : (x : Run) → Gap a (length r) 0 (guarded_listing r a) x → x.from < x.to → Place a x.from ⊎ (length r ≤ x.from) → Place a x.from
      at_place x g lt (inl p) = p
      at_place x g lt (inr k) = absurd (omega (arith, g.inside))

      go : ((q : ℕ) → Place a q → Free r a q n → ⊥) → (o : Option Run) → lowest_fitting n (free_runs r a) ≡ o → o ≡ None
      go h None e = refl
      go h (Some x) e =
          let m = lowest_some n (free_runs r a) x e in
          let g = gap_of x m.0 in
          absurd (h x.from (at_place x g (omega (arith, m.2)) g.at) (fits_run_free x.from n (m.1, x, m.0, omega arith, m.2)))

-- An edit whose own decision is d, after the strict check.
module _ (r : List ℕ) (a : ℕ) (pos : 0 < a) (rows : List Row) (d : Decision) (own : Accepted r a → FirstRowMet rows (decision_number d)) where
  pub after_check_lem : FirstRowMet (check_rows component_limit r a ++ rows) (decision_number (after_check (verdict component_limit r a) d))
  after_check_lem = go (verdict component_limit r a) refl ((check_exactly component_limit r a pos (verdict_number (verdict component_limit r a))).0 refl)
    where
      some_number : (n p : ℕ) → (n ≡ 12) ⊎ ((n ≡ 13) × (p ≡ 0)) ⊎ ((n ≡ 11) × (p ≡ 0)) → n ≡ 0 → ⊥
      some_number n p (inl e) z = omega arith
      some_number n p (inr (inl e)) z = omega (arith, e.0)
      some_number n p (inr (inr e)) z = omega (arith, e.0)

      go : (v : Verdict) → verdict component_limit r a ≡ v → FirstRowMet (check_rows component_limit r a) (verdict_number v)
          → FirstRowMet (check_rows component_limit r a ++ rows) (decision_number (after_check v d))
      go (check_refused n p) e g = given_here (check_rows component_limit r a) rows n (some_number n p (no_other component_limit r a n p e)) g
      go (check_accepted ps) e g = given_later (check_rows component_limit r a) rows (decision_number d) refl g (own ((accepted_exactly r a ps).0 e).0)

-- The definitions in the paper's words.

byte_words : (b : ℕ) → Fails (is_printable b) ((b < 0x21) ⊎ (0x7E < b))
byte_words b = one_fails (either (later_row 0x21 b) (last_fails (later_row b 0x7E)))

all_words : {P : ℕ → Type 0} (t : ℕ → Bool) → ((b : ℕ) → Fails (t b) (P b)) → (l : List ℕ) → Fails (all t l) ((j : ℕ) × (j < length l) × P (get_or l j 0))
all_words t f [] = (λ e. absurd (true≢false e), λ h. absurd (omega (arith, h.1)))
all_words {P} t f (b ∷ l) = go (t b) refl (all_words t f l)
  where
    Some : List ℕ → Type 0
    Some m = (j : ℕ) × (j < length m) × P (get_or m j 0)

    head : (j : ℕ) → j < suc (length l) → P (get_or (b ∷ l) j 0) → t b ≡ true → Some l
    head zero h p e = absurd (true≢false (sym e ∙ (f b).1 p))
    head (suc j) h p e = (j, omega arith, p)

    go : (c : Bool) → t b ≡ c → Fails (all t l) (Some l) → Fails (c && all t l) (Some (b ∷ l))
    go true e ih = (λ q. let (j, h, p) = ih.0 q in (suc j, omega arith, p), λ w. ih.1 (head w.0 w.1 w.2 e))
    go false e ih = (λ q. (0, omega arith, (f b).0 e), λ w. refl)

pub name_words : (name : List ℕ) → Fails (name_fits name) (UnfitName name)
unfolding name_fits name_tests
name_words name = one_fails (either (later_row 1 (length name)) (either (later_row (length name) 255) (last_fails (all_words is_printable byte_words name))))

pub magic_in_lem : (a : ℕ) → 0 < a → (s : List ℕ) → (contains_magic a s ≡ true) ↔ ContainsMagic a s
magic_in_lem a pos s = let e = contains_magic_exactly a pos s in (
  λ b. let (q, pl, lt, c) = e.0 b in (q, pl, lt, (magic_words s q).0 c),
  λ h. e.1 (h.0, h.1, h.2, (magic_words s h.0).1 h.3),
)

-- A test that is false denies what it says.
denied : {b : Bool} {x : Type 0} → (b ≡ true) ↔ x → b ≡ false → x → ⊥
denied f e x = true≢false (sym (f.1 x) ∙ e)

-- No edit refuses by 0, and none of its own refusals is 12.

abbrev pub EditNumber : Decision → Type 0
EditNumber (refuse n p) = (n ≡ 0 → ⊥) × (n ≡ 12 → ⊥)
EditNumber (write x b) = Unit {0}

pub add_numbers : (most : ℕ) (r : List ℕ) (a : ℕ) (name b : List ℕ) (l : List Entry) → EditNumber (add_after_check most r a name b l)
add_numbers most r a name b l = go (add_case most r a name b l)
  where
    go : AddCase most r a name b l → EditNumber (add_after_check most r a name b l)
    go (unfit p v) = rw v (λ z. omega arith, λ z. omega arith)
    go (used p q v) = rw v (λ z. omega arith, λ z. omega arith)
    go (full p q u v) = rw v (λ z. omega arith, λ z. omega arith)
    go (add_has_magic o m v) = rw v (λ z. omega arith, λ z. omega arith)
    go (no_run_fits o n v) = rw v (λ z. omega arith, λ z. omega arith)
    go (placed x o n v) = rw v tt

pub replace_numbers : (a e : ℕ) (name content : List ℕ) (l : List Entry) → EditNumber (replace_after_check a name content (slot_of e name l))
replace_numbers a e name content l = go (replace_case a e name content l)
  where
    go : ReplaceCase a e name content l → EditNumber (replace_after_check a name content (slot_of e name l))
    go (no_bearer q v) = rw v (λ z. omega arith, λ z. omega arith)
    go (replace_has_magic y q m v) = rw v (λ z. omega arith, λ z. omega arith)
    go (long y q m h v) = rw v (λ z. omega arith, λ z. omega arith)
    go (fitting y q m h v) = rw v tt

pub remove_numbers : (e : ℕ) (name : List ℕ) (l : List Entry) → EditNumber (remove_after_check (slot_of e name l))
remove_numbers e name l = go (remove_case e name l)
  where
    go : RemoveCase e name l → EditNumber (remove_after_check (slot_of e name l))
    go (missing q v) = rw v (λ z. omega arith, λ z. omega arith)
    go (remove_done_case y q v) = rw v tt

-- The edits of a region of less than 2^32 bytes.
module _ (r : List ℕ) (a : ℕ) (pos : 0 < a) (small : length r ≤ 0xFFFFFFFF) (name : List ℕ) where
  abbrev L : List Entry
  L = plain_listing r a

  bearer_words : (any (bears name) L ≡ true) ↔ ((t : Entry) × Bearer L name t)
  bearer_words = (
    λ e. let (t, m, b) = any_true (bears name) L e in
        (t, (m, bears_name_lem name t b)),
    λ h. mem_any (bears name) L h.0 h.1.0 (name_bears name h.0 h.1.1),
  )

  -- Add.
  module _ (kind : ℕ) (content : List ℕ) where
    abbrev s : List ℕ
    s = span_bytes name kind content

    add_only : Accepted r a → FirstRowMet (add_rows component_limit r a name kind content) (decision_number (add_after_check component_limit r a name s L))
    add_only acc = go (add_case component_limit r a name s L)
      where
        fit : name_fits name ≡ true → UnfitName name → ⊥
        fit e u = true≢false (sym e ∙ (name_words name).1 u)

        no_run : (lowest_fitting (length s) (free_runs r a) ≡ None) ↔ ((q : ℕ) → Place a q → Free r a q (length s) → ⊥)
        no_run = no_free r a pos small acc (length s) (omega (arith, length_span name kind content))

        go : AddCase component_limit r a name s L
            → FirstRowMet (add_rows component_limit r a name kind content) (decision_number (add_after_check component_limit r a name s L))
        go (unfit p v) = rw v (inl ((name_words name).0 p, refl))
        go (used p q v) = rw v (inr (fit p, inl (bearer_words.0 q, refl)))
        go (full p q u v) = rw v (inr (fit p, inr (denied bearer_words q, inl (u, refl))))
        go (add_has_magic o b v) =
            rw v (inr (fit o.named, inr (denied bearer_words o.unused, inr (λ x. omega (arith, o.at_most), inl ((magic_in_lem a pos s).0 b, refl)))))
        go (no_run_fits o n v) = rw v (inr (
          fit o.passes_to_13.named,
          inr (
            denied bearer_words o.passes_to_13.unused,
            inr (λ x. omega (arith, o.passes_to_13.at_most), inr (denied (magic_in_lem a pos s) o.without_magic, inl (no_run.0 n, refl))),
          ),
        ))
        go (placed x o n v) = rw v (inr (
          fit o.passes_to_13.named,
          inr (
            denied bearer_words o.passes_to_13.unused,
            inr (
              λ x. omega (arith, o.passes_to_13.at_most),
              inr (denied (magic_in_lem a pos s) o.without_magic, inr (λ h. none-some x (sym (no_run.1 h) ∙ n), refl)),
            ),
          ),
        ))

    -- The number of an add: the strict check's, then its own; 0 where it is done.
    pub add_given : FirstRowMet (check_rows component_limit r a ++ add_rows component_limit r a name kind content)
        (decision_number (add_decision component_limit r a name kind content))
    add_given = after_check_lem r a pos (add_rows component_limit r a name kind content) (add_after_check component_limit r a name s L) add_only

  -- Replace.
  module _ (content : List ℕ) where
    abbrev span_for : Entry → List ℕ
    span_for t = span_bytes name t.component.kind content

    replace_only : Accepted r a → FirstRowMet (replace_rows r a name content) (decision_number (replace_after_check a name content (slot_of (length r) name L)))
    replace_only acc = go (replace_case a (length r) name content L)
      where
        same : plain_listing r a ≡ guarded_listing r a
        same = walks_agree r a acc

        -- The slot's component is the only one with the name.
        it : (z : EntrySlot) → slot_of (length r) name L ≡ Some z → Bearer L name z.entry
        it z e = let m = slot_member (length r) name L z e in (m.0, bears_name_lem name z.entry m.1)

        only : (z : EntrySlot) → slot_of (length r) name L ≡ Some z → (t : Entry) → Bearer L name t → t ≡ z.entry
        only z e t b =
            let one : filter (bears t.component.name) L ≡ t ∷ [] = lone L acc.names_are_distinct t b.0 in
            let k : Memᴰ z.entry (filter (bears t.component.name) L) =
            filter_mem (bears t.component.name) L z.entry (it z e).0 (name_bears t.component.name z.entry ((it z e).1 ∙ sym b.1)) in
            by (mathlib.Core.List.Memᴰ.cases_cons (rw one at k))
          where
            by : (z.entry ≡ t) ⊎ Memᴰ z.entry [] → t ≡ z.entry
            by (inl q) = sym q
            by (inr m) = absurd (mathlib.Core.List.Memᴰ.not-nil m)

        some_bearer : (z : EntrySlot) → slot_of (length r) name L ≡ Some z → NoBearer L name → ⊥
        some_bearer z e h = h z.entry (it z e)

        own : (z : EntrySlot) → slot_of (length r) name L ≡ Some z → SlotOf a (length r) name L z
        own z e = rw same (slot_of_entry r a pos name 0 (guarded_listing r a) (row r a pos) z (rw same at e))

        -- The slot holds n bytes, or it is short of them.
        short : (z : EntrySlot) → slot_of (length r) name L ≡ Some z → (n : ℕ) → Fails (run_fits n z.run) (SlotShort r a z.entry n)
        short z e n = (λ h. there (own z e).ends (dec_le n 0xFFFFFFFF) (dec_le (z.run.from + n) z.run.to) h, back)
          where
            there : Ends (length r) L z.run.to → Dec (n ≤ 0xFFFFFFFF) → Dec (z.run.from + n ≤ z.run.to) → run_fits n z.run ≡ false
                → SlotShort r a z.entry n
            there o (yes u) (yes v) h = absurd (true≢false (sym (run_fits_of n z.run u v) ∙ h))
            there o (no u) v h = inl (omega arith)
            there (inl o) (yes u) (no v) h = inl (omega (arith, (own z e).from))
            there (inr (d, m, q)) (yes u) (no v) h = inr (d, m, omega (arith, (own z e).from, (own z e).long), omega (arith, (own z e).from))

            beyond : SlotShort r a z.entry n → z.run.to < z.run.from + n
            beyond (inl h) = omega (arith, (own z e).from, (own z e).inside)
            beyond (inr (d, m, lo, hi)) = by ((own z e).sides d m)
              where
                by : (d ≡ z.entry) ⊎ ((entry_end d ≤ z.run.from) ⊎ (z.run.to ≤ d.place)) → z.run.to < z.run.from + n
                by (inl q) = absurd (omega (arith, ap (λ (w : Entry). w.place) q))
                by (inr (inl k)) = absurd (omega (arith, (own z e).from))
                by (inr (inr k)) = omega (arith, (own z e).from)

            back : SlotShort r a z.entry n → run_fits n z.run ≡ false
            back h = go (run_fits n z.run) refl
              where
                go : (b : Bool) → run_fits n z.run ≡ b → b ≡ false
                go true k = absurd (omega (arith, beyond h, run_fits_true n z.run k))
                go false k = refl

        clean : (z : EntrySlot) → slot_of (length r) name L ≡ Some z → contains_magic a (span_for z.entry) ≡ false
            → (t : Entry) × Bearer L name t × ContainsMagic a (span_for t) → ⊥
        clean z e b (t, h, m) = denied (magic_in_lem a pos (span_for z.entry)) b (subst (λ (u : Entry). ContainsMagic a (span_for u)) (only z e t h) m)

        go : ReplaceCase a (length r) name content L
            → FirstRowMet (replace_rows r a name content) (decision_number (replace_after_check a name content (slot_of (length r) name L)))
        go (no_bearer q v) = rw v (inl ((λ t b. denied bearer_words ((slot_none_exactly (length r) name L).0 q) (t, b)), refl))
        go (replace_has_magic z q b v) = rw v (inr (some_bearer z q, inl ((z.entry, it z q, (magic_in_lem a pos (span_for z.entry)).0 b), refl)))
        go (long z q b h v) = rw v (inr (some_bearer z q, inr (clean z q b, inl ((z.entry, it z q, (short z q (length (span_for z.entry))).0 h), refl))))
        go (fitting z q b h v) = rw v (inr (some_bearer z q, inr (clean z q b, inr (fits, refl))))
          where
            fits : (t : Entry) × Bearer L name t × SlotShort r a t (length (span_for t)) → ⊥
            fits (t, k, m) =
                true≢false (sym h ∙ (short z q (length (span_for z.entry))).1 (subst (λ (u : Entry). SlotShort r a u (length (span_for u))) (only z q t k) m))

    pub replace_given : FirstRowMet (check_rows component_limit r a ++ replace_rows r a name content)
        (decision_number (replace_decision component_limit r a name content))
    replace_given = after_check_lem r a pos (replace_rows r a name content) (replace_after_check a name content (slot_of (length r) name L)) replace_only

  -- Remove.
  remove_only : FirstRowMet (remove_rows r a name) (decision_number (remove_after_check (slot_of (length r) name L)))
  remove_only = go (remove_case (length r) name L)
    where
      go : RemoveCase (length r) name L → FirstRowMet (remove_rows r a name) (decision_number (remove_after_check (slot_of (length r) name L)))
      go (missing q v) = rw v (inl ((λ t b. denied bearer_words ((slot_none_exactly (length r) name L).0 q) (t, b)), refl))
      go (remove_done_case z q v) = let m = slot_member (length r) name L z q in
          rw v (inr ((λ h. h z.entry (m.0, bears_name_lem name z.entry m.1)), refl))

  pub remove_given : FirstRowMet (check_rows component_limit r a ++ remove_rows r a name) (decision_number (remove_decision component_limit r a name))
  remove_given = after_check_lem r a pos (remove_rows r a name) (remove_after_check (slot_of (length r) name L)) (λ acc. remove_only)

remove_does : (r : List ℕ) (a : ℕ) (name : List ℕ) → Accepted r a → (z : EntrySlot) → slot_of (length r) name (plain_listing r a) ≡ Some z
    → (remove component_limit r a name).answer ≡ edit_done z.run.from
unfolding remove remove_after_check
remove_does r a name acc z e = is_done r _ z.run [] (check_accepted_lem r a (remove_after_check (slot_of (length r) name (plain_listing r a))) acc ∙ rw e)

-- What add wrote and remove took away again leaves both listings as they were.
pub record Undone (r : List ℕ) (a p : ℕ) (name r' : List ℕ) : Type 0 where
  pub done_again : (remove component_limit r' a name).answer ≡ edit_done p
  pub guardedly : guarded_listing (remove component_limit r' a name).bytes a ≡ guarded_listing r a
  pub plainly : plain_listing (remove component_limit r' a name).bytes a ≡ plain_listing r a

remove_inserted : (t : Entry) (l : List Entry) → ((u : Entry) → Memᴰ u l → u.place ≡ t.place → ⊥) → remove_entry t.place (insert_entry t l) ≡ l
remove_inserted t l h = filter_insert (λ u. not (eqb u.place t.place)) t l (ap not (eq-eqb t.place t.place refl))
    ∙ filter-all (λ u. not (eqb u.place t.place)) l (λ u m. ap not (ne_eqb u.place t.place (h u m)))

pub add_undone : (r : List ℕ) (a : ℕ) → 8 ≤ a → (name : List ℕ) (kind : ℕ) (put : List ℕ) (p : ℕ) → kind < 256 ^ 4
    → (add component_limit r a name kind put).answer ≡ edit_done p
    → Undone r a p name (add component_limit r a name kind put).bytes
add_undone r a big name kind put p typed e = go _ (add_done r a big name kind put p typed e)
  where
    go : (r' : List ℕ) → Added r a name kind put p r' → Undone r a p name r'
    go r' d = by (slot_of (length r') name (plain_listing r' a)) refl
      where
        borne : Memᴰ (at p name kind put) (plain_listing r' a) × (bears name (at p name kind put) ≡ true)
        borne = lookup_member false r' a name (at p name kind put) d.finds.plainly

        again : (q : ℕ) → (remove component_limit r' a name).answer ≡ edit_done q → Removed r' a name q (remove component_limit r' a name).bytes
        again q f = remove_done r' a big name q f

        same : (q : ℕ) → Removed r' a name q (remove component_limit r' a name).bytes → q ≡ p
        same q m =
            let g : lookup_gives m.old ≡ lookup_gives (at p name kind put) = sym m.was ∙ d.finds.guardedly in
            let o : m.old ≡ at p name kind put = cc in
            sym m.there ∙ ap (λ (t : Entry). t.place) o

        finish : (q : ℕ) → q ≡ p → (remove component_limit r' a name).answer ≡ edit_done q → Removed r' a name q (remove component_limit r' a name).bytes
            → Undone r a p name r'
        finish q eq f m =
            let l : guarded_listing (remove component_limit r' a name).bytes a ≡ guarded_listing r a =
            m.guardedly ∙ rw (eq, d.guardedly) (remove_inserted (at p name kind put) (guarded_listing r a) d.fresh) in
            record {
              done_again = f ∙ ap edit_done eq;
              guardedly = l;
              plainly = walks_agree _ a m.accepted ∙ l
                  ∙ sym (walks_agree r a (add_accepted r a name kind put p e));
            }

        by : (o : Option EntrySlot) → slot_of (length r') name (plain_listing r' a) ≡ o → Undone r a p name r'
        by None q =
            absurd (true≢false (sym borne.1 ∙ any_false (bears name) (plain_listing r' a) ((slot_none_exactly (length r') name (plain_listing r' a)).0 q)
            (at p name kind put) borne.0))
        by (Some z) q = let f = remove_does r' a name d.accepted z q in
            finish z.run.from (same z.run.from (again z.run.from f)) f (again z.run.from f)

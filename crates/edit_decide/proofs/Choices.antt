-- The decisions, as the code reaches them test by test, and what a decision to write says of its slot.
use Prim.Native.Nat.{ℕ, ◌+◌, ◌≤◌, ◌<◌}
use native.Mathlib.Omega.{arith}
use mathlib.Core.Path.{◌≡◌, refl, sym, ap, subst, ◌∙◌}
use mathlib.Core.List.Memᴰ
use mathlib.Core.List.{List, [], ◌∷◌, ◌++◌, Memᴰ}
use mathlib.Core.Logic.{◌⊎◌, inl, inr}
use mathlib.Core.Bool.{Bool, true, false}
use Rattle.std.specs.Prelude.{Option, Some, None, Ok, Err, Result}
use lib.ListN.{length, take, drop, length-append}
use lib.Seq.{take_at}
use borrow.Author.Tests.{lt-leb, lt-ltb}
use Rattle.component.specs.Names.{name_fits}
use Rattle.bytes_read.specs.Lists.{any}
use Rattle.walk.specs.Walk.{Entry, next, plain_listing, guarded_listing}
use Rattle.walk_lookup.specs.Lookup.{bears}
use Rattle.walk.proofs.Members.{given}
use Rattle.walk_lookup.proofs.Bearers.{bears_name_lem}
use Rattle.region.specs.Region.{region_bytes, refusal_by, refusal_in}
use Rattle.cbfs_types.specs.declared.Region.{Region}
use Rattle.cbfs_types.specs.declared.Refusal.{Refusal}
use Rattle.strict_rules.specs.Strict.{component_limit, Accepted, Verdict, check_refused, check_accepted, component_places, verdict}
use Rattle.strict_check.specs.StrictCheck.{check_summary, stored_places, has_name}
use Rattle.strict_check.proofs.Answers.{check_into_fine}
use Rattle.strict_rules.proofs.Accepting.{walks_agree}
use Rattle.edit_rules.specs.Edit.{Run, run_fits, runs, free_runs, lowest_fitting, EntrySlot, slot_of, span_bytes, offset_for, contains_magic, Decision}
use Rattle.edit_rules.specs.Edit.{refuse, write}
use Rattle.edit_rules.specs.Edit.{after_check, add_after_check, replace_after_check, remove_after_check, add_decision, replace_decision, remove_decision}
use Rattle.edit_slots.specs.SlotsByPlaces.{run, slot_from, free_run_answer, slot_answer, runs_between, slot_among}
use Rattle.edit_decide.specs.Choices.{ListedPlaces, slot_kind, accepted_decision, kind_for, choice, remove_choice_among, decided}
use Rattle.edit_decide.specs.declared.EditKind.{EditKind}
use Rattle.edit_decide.specs.declared.EditKind.TheVariants.{Add, Replace, Remove}
use Rattle.edit_slots.specs.declared.Slot.{Slot}
use Rattle.edit_decide.specs.Choices.{Choice}
use Rattle.edit_slots.proofs.SlotsByPlaces.{runs-listed, slot_listed, used_listed}
use Rattle.edit_rules.proofs.Written.{name_fit, length_span}
use Rattle.edit_rules.proofs.Runs.{run_fits_true, lowest_some, row, SlotOf, slot_of_entry}
use Rattle.edit_rules.proofs.Decisions.{check_write, not_write, same_write, AddCase, unfit, used, full, add_has_magic, no_run_fits, placed, add_case}
use Rattle.edit_rules.proofs.Decisions.{ReplaceCase, no_bearer, replace_has_magic, long, fitting, replace_case, RemoveCase, missing, remove_done_case}
use Rattle.edit_rules.proofs.Decisions.{remove_case}
use Rattle.edit_rules.proofs.Theorems.{slot_member, listed_fit}
use Rattle.edit_rules.proofs.Exactly.{adding_14, adding_15, adding_13, adding_16}

-- The slots and the runs lie in the region.

runs_inside : (r : List ℕ) (a n : ℕ) (l : List Entry) → ((t : Entry) → Memᴰ t l → t.place ≤ length r) → (x : Run) → Memᴰ x (runs r a n l)
    → x.to ≤ length r
unfolding runs
runs_inside r a n [] h x m = go (Memᴰ.cases_cons m)
  where
    go : (x ≡ run n (length r)) ⊎ Memᴰ x [] → x.to ≤ length r
    go (inl q) = rw q (omega arith)
    go (inr k) = absurd (Memᴰ.not-nil k)
runs_inside r a n (t ∷ ts) h x m = go (Memᴰ.cases_cons m) (λ k. runs_inside r a (next r a t) ts (λ u i. h u (Memᴰ.tail i)) x k)
  where
    go : (x ≡ run n t.place) ⊎ Memᴰ x (runs r a (next r a t) ts) → (Memᴰ x (runs r a (next r a t) ts) → x.to ≤ length r) → x.to ≤ length r
    go (inl q) ih = rw q (h t (Memᴰ.head refl))
    go (inr k) ih = ih k

lowest_inside : (r : List ℕ) (a n : ℕ) (x : Run) → lowest_fitting n (free_runs r a) ≡ Some x → x.to ≤ length r
lowest_inside r a n x e = runs_inside r a 0 (plain_listing r a) (λ t m. omega (arith, (given false r a t m).inside)) x (lowest_some n (free_runs r a) x e).0

slot_inside : (r : List ℕ) (a : ℕ) → Accepted r a → (name : List ℕ) (z : EntrySlot) → slot_of (length r) name (plain_listing r a) ≡ Some z
    → (z.run.from < z.run.to) × (z.run.to ≤ length r)
slot_inside r a acc name z e =
    let m = slot_member (length r) name (plain_listing r a) z e in
    let pos = (given false r a z.entry m.0).pos in
    let o : SlotOf a (length r) name (guarded_listing r a) z =
    slot_of_entry r a pos name 0 (guarded_listing r a) (row r a pos) z (rw (walks_agree r a acc) at e) in
    (o.long, o.inside)

pub slot_short : (r : List ℕ) (a : ℕ) (name : List ℕ) (z : EntrySlot) → slot_of (length r) name (plain_listing r a) ≡ Some z → length name ≤ 255
slot_short r a name z e =
    let m = slot_member (length r) name (plain_listing r a) z e in
    (name_fit name (rw (bears_name_lem name z.entry m.1) at (listed_fit r a z.entry m.0))).short

-- A span of 2^32 bytes or more fits nowhere.

pub long_not_found : (n : ℕ) (l : List Run) → 0xFFFFFFFF < n → lowest_fitting n l ≡ None
unfolding lowest_fitting
long_not_found n [] h = refl
long_not_found n (x ∷ xs) h = rw (lt-leb n 0xFFFFFFFF h) (long_not_found n xs h)

pub long_not_fits : (n : ℕ) (x : Run) → 0xFFFFFFFF < n → run_fits n x ≡ false
long_not_fits n x h = rw (lt-leb n 0xFFFFFFFF h)

-- What is decided, read back from the choice.

pub choice_refuse : (s k : ℕ) (d : Decision) (x : Refusal) → choice s k d ≡ Err x
    → (n : ℕ) × (p : ℕ) × (d ≡ refuse n p) × (refusal_in s n p ≡ x)
choice_refuse s k (refuse n p) x e = (n, p, refl, (cc))
choice_refuse s k (write y b) x e = let z : ◌≡◌ {A = ℕ} 0 1 = cc in absurd (omega arith)

pub choice_write : (s k : ℕ) (d : Decision) (z : Slot) → choice s k d ≡ Ok z → (x : Run) × (b : List ℕ) × (d ≡ write x b) × (slot_from x k ≡ z)
choice_write s k (refuse n p) z e = let o : ◌≡◌ {A = ℕ} 0 1 = cc in absurd (omega arith)
choice_write s k (write y b) z e = (y, b, refl, (cc))

pub run_some : (k : ℕ) (o : Option Run) (z : Slot) → free_run_answer k o ≡ Some z → (x : Run) × (o ≡ Some x) × (slot_from x k ≡ z)
run_some k None z e = let o : ◌≡◌ {A = ℕ} 0 1 = cc in absurd (omega arith)
run_some k (Some x) z e = (x, refl, (cc))

pub run_none : (k : ℕ) (o : Option Run) → free_run_answer k o ≡ None → o ≡ None
run_none k None e = refl
run_none k (Some x) e = let o : ◌≡◌ {A = ℕ} 0 1 = cc in absurd (omega arith)

pub slot_some : (o : Option EntrySlot) (z : Slot) → slot_answer o ≡ Some z
    → (y : EntrySlot) × (o ≡ Some y) × (slot_from y.run y.entry.component.kind ≡ z)
slot_some None z e = let o : ◌≡◌ {A = ℕ} 0 1 = cc in absurd (omega arith)
slot_some (Some y) z e = (y, refl, (cc))

pub slot_none : (o : Option EntrySlot) → slot_answer o ≡ None → o ≡ None
slot_none None e = refl
slot_none (Some y) e = let o : ◌≡◌ {A = ℕ} 0 1 = cc in absurd (omega arith)

-- Add, test by test.
module _ (r : List ℕ) (a : ℕ) (name : List ℕ) (kind : ℕ) (content : List ℕ) (s : ℕ) where
  abbrev L : List Entry
  L = plain_listing r a

  abbrev b : List ℕ
  b = span_bytes name kind content

  abbrev D : Decision
  D = add_after_check component_limit r a name b L

  pub add_14 : name_fits name ≡ false → Err (refusal_by 14) ≡ choice s kind D
  add_14 p = sym (ap (choice s kind) ((adding_14 component_limit r a name b L).1 p))

  pub add_15 : name_fits name ≡ true → any (bears name) L ≡ true → Err (refusal_by 15) ≡ choice s kind D
  add_15 p q = sym (ap (choice s kind) ((adding_15 component_limit r a name b L).1 (p, q)))

  pub add_13 : name_fits name ≡ true → any (bears name) L ≡ false → component_limit ≤ length L → Err (refusal_by 13) ≡ choice s kind D
  add_13 p q h = sym (ap (choice s kind) ((adding_13 component_limit r a name b L).1 (p, q, h)))

  pub add_16 : name_fits name ≡ true → any (bears name) L ≡ false → length L < component_limit → contains_magic a b ≡ true
      → Err (refusal_by 16) ≡ choice s kind D
  add_16 p q h v = sym (ap (choice s kind) ((adding_16 component_limit r a name b L).1 (record { named = p; unused = q; at_most = h }, v)))

  module _ (p : name_fits name ≡ true) (q : any (bears name) L ≡ false) (h : length L < component_limit) (v : contains_magic a b ≡ false) where
    pub add_17 : lowest_fitting (length b) (free_runs r a) ≡ None → Err (refusal_by 17) ≡ choice s kind D
    unfolding add_after_check
    add_17 e = rw (p, q, lt-ltb (length L) component_limit h, v, e)

    pub add_write : (x : Run) → lowest_fitting (length b) (free_runs r a) ≡ Some x → Ok (slot_from x kind) ≡ choice s kind D
    unfolding add_after_check
    add_write x e = rw (p, q, lt-ltb (length L) component_limit h, v, e)

-- Names, slots and free runs as they are found by the places of the components.
module _ (r : List ℕ) (a : ℕ) (ps : List ℕ) (q : ListedPlaces r a ps) where
  pub used_by : (name : List ℕ) {b : Bool} → b ≡ any (has_name r name) ps → b ≡ any (bears name) (plain_listing r a)
  used_by name e = e ∙ ap (any (has_name r name)) q ∙ used_listed r a name

  pub slot_by : (name : List ℕ) {x : Option Slot} → x ≡ slot_among r name ps → x ≡ slot_answer (slot_of (length r) name (plain_listing r a))
  slot_by name e = e ∙ ap (slot_among r name) q ∙ slot_listed r a name

  pub run_by : (k n : ℕ) {x : Option Slot} → x ≡ free_run_answer k (lowest_fitting n (runs_between r a 0 ps)) → x ≡ free_run_answer k
      (lowest_fitting n (free_runs r a))
  run_by k n e =
      e ∙ ap (λ (l : List ℕ). free_run_answer k (lowest_fitting n (runs_between r a 0 l))) q
      ∙ ap (λ (l : List Run). free_run_answer k (lowest_fitting n l)) (runs-listed r a)

-- The strict check's answer d, and what comes after it.
module _ (r : List ℕ) (a s k : ℕ) (e : Decision) (d : Result ℕ Refusal) (q : d ≡ check_summary s (verdict component_limit r a)) where
  pub checked_refused : (x : Refusal) → d ≡ Err x → Err x ≡ choice s k (after_check (verdict component_limit r a) e)
  checked_refused x h = go (verdict component_limit r a) (sym h ∙ q)
    where
      go : (v : Verdict) → Err x ≡ check_summary s v → Err x ≡ choice s k (after_check v e)
      go (check_refused n p) z = let y : x ≡ refusal_in s n p = cc in ap Err y
      go (check_accepted ps) z = let y : ◌≡◌ {A = ℕ} 0 1 = cc in absurd (omega arith)

  module _ (m : ℕ) (h : d ≡ Ok m) where
    fine : (verdict component_limit r a ≡ check_accepted (component_places (plain_listing r a))) × (m ≡ length (component_places (plain_listing r a)))
    fine = check_into_fine r a s m (sym h ∙ q)

    pub checked_fine : after_check (verdict component_limit r a) e ≡ e
    checked_fine = rw fine.0

    -- The lent array f has become g: the first of its places are those of the components.
    module _ (f : List ℕ) {g : List ℕ} (w : g ≡ stored_places f (verdict component_limit r a)) where
      stored : g ≡ component_places (plain_listing r a) ++ drop (length (component_places (plain_listing r a))) f
      stored = w ∙ ap (stored_places f) fine.0

      pub checked_fits : m ≤ length g
      checked_fits = rw stored (simp length-append (omega (arith, fine.1)))

      pub checked_places : ListedPlaces r a (take m g)
      checked_places =
          rw (stored, fine.1) (take_at (component_places (plain_listing r a)) _ (length (component_places (plain_listing r a))) refl)

-- What is to be written fits its slot, and the slot the region.
pub record Ready (r name content : List ℕ) (x : Run) : Type 0 where
  pub short : length name ≤ 255
  pub len-fits : length content ≤ 0xFFFFFFFF
  pub fits : x.from + (offset_for name + length content) ≤ x.to
  pub inside : x.to ≤ length r

pub add_ready : (r : List ℕ) (a : ℕ) (name : List ℕ) (kind : ℕ) (content : List ℕ) (x : Run) (b : List ℕ)
    → add_decision component_limit r a name kind content ≡ write x b
    → (span_bytes name kind content ≡ b) × Ready r name content x
add_ready r a name kind content x b e =
    go (add_case component_limit r a name (span_bytes name kind content) (plain_listing r a))
    (check_write r a (add_after_check component_limit r a name (span_bytes name kind content) (plain_listing r a)) x b e).1
  where
    go : AddCase component_limit r a name (span_bytes name kind content) (plain_listing r a)
        → add_after_check component_limit r a name (span_bytes name kind content) (plain_listing r a) ≡ write x b
        → (span_bytes name kind content ≡ b) × Ready r name content x
    go (unfit u v) w = absurd (not_write 14 0 x b v w)
    go (used u u₂ v) w = absurd (not_write 15 0 x b v w)
    go (full u u₂ u₃ v) w = absurd (not_write 13 0 x b v w)
    go (add_has_magic u u₂ v) w = absurd (not_write 16 0 x b v w)
    go (no_run_fits u u₂ v) w = absurd (not_write 17 0 x b v w)
    go (placed y ok low v) w =
        let z = same_write v w in
        let m = lowest_some (length (span_bytes name kind content)) (free_runs r a) y low in
        let l = length_span name kind content in (
          z.1,
          subst (λ (u : Run). Ready r name content u) z.0 (record {
            short = (name_fit name ok.passes_to_13.named).short;
            len-fits = omega (arith, m.1);
            fits = omega (arith, m.2);
            inside = lowest_inside r a (length (span_bytes name kind content)) y low;
          }),
        )

pub replace_ready : (r : List ℕ) (a : ℕ) (name content : List ℕ) (x : Run) (b : List ℕ) → replace_decision component_limit r a name content ≡ write x b
    → (span_bytes name (slot_kind (slot_of (length r) name (plain_listing r a))) content ≡ b) × Ready r name content x
replace_ready r a name content x b e =
    let c = check_write r a (replace_after_check a name content (slot_of (length r) name (plain_listing r a))) x b e in
    go c.0 (replace_case a (length r) name content (plain_listing r a)) c.1
  where
    go : Accepted r a → ReplaceCase a (length r) name content (plain_listing r a)
        → replace_after_check a name content (slot_of (length r) name (plain_listing r a)) ≡ write x b
        → (span_bytes name (slot_kind (slot_of (length r) name (plain_listing r a))) content ≡ b) × Ready r name content x
    go acc (no_bearer u v) w = absurd (not_write 10 0 x b v w)
    go acc (replace_has_magic z u u₂ v) w = absurd (not_write 16 0 x b v w)
    go acc (long z u u₂ u₃ v) w = absurd (not_write 17 0 x b v w)
    go acc (fitting z own clean held v) w =
        let y = same_write v w in
        let m = run_fits_true (length (span_bytes name z.entry.component.kind content)) z.run held in
        let l = length_span name z.entry.component.kind content in (
          rw own y.1,
          subst (λ (u : Run). Ready r name content u) y.0 (record {
            short = slot_short r a name z own;
            len-fits = omega (arith, m.0);
            fits = omega (arith, m.1);
            inside = (slot_inside r a acc name z own).1;
          }),
        )

pub remove_ready : (r : List ℕ) (a : ℕ) (name : List ℕ) (x : Run) (b : List ℕ) → remove_decision component_limit r a name ≡ write x b
    → ([] ≡ b) × (x.from < x.to) × (x.to ≤ length r)
remove_ready r a name x b e =
    let c = check_write r a (remove_after_check (slot_of (length r) name (plain_listing r a))) x b e in
    go c.0 (remove_case (length r) name (plain_listing r a)) c.1
  where
    go : Accepted r a → RemoveCase (length r) name (plain_listing r a) → remove_after_check (slot_of (length r) name (plain_listing r a)) ≡ write x b
        → ([] ≡ b) × (x.from < x.to) × (x.to ≤ length r)
    go acc (missing u v) w = absurd (not_write 10 0 x b v w)
    go acc (remove_done_case z own v) w =
        let y = same_write v w in
        let i = slot_inside r a acc name z own in
        (y.1, rw (← y.0) i.0, rw (← y.0) i.1)

-- The strict check's refusals come first, and then what the edit decides on an accepted region.
pub decided_so : (e : EditKind) (i : List ℕ) (g : Region) (name : List ℕ) (kind : ℕ) (content : List ℕ) → let r = region_bytes i g in
    choice g.start (kind_for e r g.align name kind) (after_check (verdict component_limit r g.align) (accepted_decision e r g.align name kind content))
    ≡ decided e i g name kind content
decided_so Add i g name kind content = refl
decided_so Replace i g name kind content = refl
decided_so Remove i g name kind content = refl

-- Remove and replace, by the slot that was found.

pub removed : (s : ℕ) (o : Option EntrySlot) → remove_choice_among (slot_answer o) ≡ choice s (slot_kind o) (remove_after_check o)
unfolding remove_after_check
removed s None = refl
removed s (Some z) = refl

module _ (s : ℕ) (o : Option EntrySlot) where
  module _ (a : ℕ) (name content : List ℕ) where
    pub replace_10 : slot_answer o ≡ None → Err (refusal_by 10) ≡ choice s (slot_kind o) (replace_after_check a name content o)
    unfolding replace_after_check
    replace_10 e = rw (slot_none o e)

    module _ (z : Slot) (e : slot_answer o ≡ Some z) where
      abbrev c : List ℕ
      c = span_bytes name z.kind content

      abbrev D₂ : Choice
      D₂ = choice s (slot_kind o) (replace_after_check a name content o)

      pub replace_16 : contains_magic a c ≡ true → Err (refusal_by 16) ≡ D₂
      unfolding replace_after_check
      replace_16 h = let (y, q, w) = slot_some o z e in go y q w
        where
          go : (y : EntrySlot) → o ≡ Some y → slot_from y.run y.entry.component.kind ≡ z → Err (refusal_by 16) ≡ D₂
          go y q w = subst (λ (x : Slot). contains_magic a (span_bytes name x.kind content) ≡ true → Err (refusal_by 16) ≡ D₂) w (λ k. rw (q, k)) h

      pub replace_17 : contains_magic a c ≡ false → run_fits (length c) (run z.start z.end) ≡ false → Err (refusal_by 17) ≡ D₂
      unfolding replace_after_check
      replace_17 h f = let (y, q, w) = slot_some o z e in go y q w
        where
          go : (y : EntrySlot) → o ≡ Some y → slot_from y.run y.entry.component.kind ≡ z → Err (refusal_by 17) ≡ D₂
          go y q w =
              subst (λ (x : Slot). let d = span_bytes name x.kind content in
              contains_magic a d ≡ false → run_fits (length d) (run x.start x.end) ≡ false → Err (refusal_by 17) ≡ D₂) w
              (λ k g. rw (q, k, g)) h f

      pub replace_write : contains_magic a c ≡ false → run_fits (length c) (run z.start z.end) ≡ true → Ok z ≡ D₂
      unfolding replace_after_check
      replace_write h f = let (y, q, w) = slot_some o z e in go y q w
        where
          go : (y : EntrySlot) → o ≡ Some y → slot_from y.run y.entry.component.kind ≡ z → Ok z ≡ D₂
          go y q w =
              subst (λ (x : Slot). let d = span_bytes name x.kind content in
              contains_magic a d ≡ false → run_fits (length d) (run x.start x.end) ≡ true → Ok x ≡ D₂) w
              (λ k g. rw (q, k, g)) h f

pub run_short : (r : List ℕ) (a : ℕ) (name : List ℕ) (z : Slot) → slot_answer (slot_of (length r) name (plain_listing r a)) ≡ Some z → length name ≤ 255
run_short r a name z e = let (y, q, w) = slot_some (slot_of (length r) name (plain_listing r a)) z e in slot_short r a name y q

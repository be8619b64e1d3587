-- Each refusal of a call over a whole image is given exactly when document 01's table says, in the order of the call; and the place that it reports.
use Rattle.std.specs.Prelude.{Option, Result, Ok, Err}
use Prim.Native.Nat.{ℕ, ◌+◌, ◌-◌, ◌%◌, ◌≤◌, ◌<◌}
use native.Mathlib.Omega.{arith}
use native.Mathlib.Decide.{dec_lt}
use mathlib.Core.Path.{◌≡◌, refl, sym, ap, subst, ◌∙◌}
use mathlib.Core.Bool.{Bool, true, false, cond, true≢false}
use mathlib.Core.List.{List, [], ◌∷◌, ◌++◌, Memᴰ}
use mathlib.Core.Logic.{◌⊎◌, inl, inr, ◌↔◌}
use lib.ListN.{length}
use lib.Dec.{eqb}
use borrow.Author.Tests.{eq-eqb, ne_eqb}
use Rattle.bytes_read.specs.Lists.{filter}
use Rattle.bytes_read.proofs.Tested.{filter_empty, mem_filter}
use Rattle.region.specs.Region.{refusal_by}
use Rattle.region.specs.Table.{Row, row, FirstRowMet}
use Rattle.cbfs_types.specs.declared.Region.{Region}
use Rattle.cbfs_types.specs.declared.Refusal.{Refusal}
use Rattle.region.proofs.Tables.{Fails, later_row, other_fails, neither, last_fails, either, one_fails, said, given_exactly, given_here, given_later, not_given}
use Rattle.master_header.specs.Master.{master}
use Rattle.master_header.specs.Table.{align, region, master_rows}
use Rattle.master_header.proofs.Facts.{known, refused_number, refused_place}
use Rattle.master_header.proofs.Exactly.{master_read, master_refused}
use Rattle.walk.specs.Walk.{Entry, step, pick_of, plain_listing, guarded_listing}
use Rattle.walk_lookup.specs.Lookup.{LookupResult, lookup_gives, bears, first_or_refused, only_or_refused, lookup_of, NoBearer, TwoBearers}
use Rattle.walk_lookup.specs.Lookup.{lookup_refused as lookup-refused}
use Rattle.walk_lookup.proofs.Bearers.{bears_name_lem, name_bears, two_bearers}
use Rattle.strict_rules.specs.Strict.{component_limit, Verdict, check_refused, check_accepted, verdict}
use Rattle.strict_rules.specs.Table.{check_rows, verdict_number}
use Rattle.strict_rules.proofs.Exactly.{check_exactly, lowest_untaken}
use Rattle.strict_rules.proofs.Verdicts.{no_other}
use Rattle.strict_check.specs.StrictCheck.{directory_answer}
use Rattle.edit_rules.specs.Edit.{Decision, refuse, write, carried_out, after_check, add_decision, replace_decision, remove_decision, add_after_check}
use Rattle.edit_rules.specs.Edit.{replace_after_check, remove_after_check, EntrySlot, slot_of, span_bytes, add, replace, remove}
use Rattle.edit_rules.specs.Table.{add_rows, replace_rows, remove_rows, decision_number}
use Rattle.edit_rules.proofs.Exactly.{EditNumber, add_numbers, replace_numbers, remove_numbers, add_given, replace_given, remove_given}
use Rattle.edit_write.specs.EditWrite.{EditResult, edit_answer, edit_result_in, add_in, replace_in, remove_in}
use Rattle.region_read.specs.RegionRead.{is_step_start, step_by, step_answer_in, find_answer_in}
use Rattle.region_read.proofs.Numbers as Numbers
use Rattle.image_walk.specs.ImageWalk.{image_step, strict_check}
use Rattle.image_find.specs.ImageFind.{image_find, image_content, plain_find, guarded_find}
use Rattle.image_edit.specs.ImageEdit.{edit_on, image_add, image_replace, image_remove}
use Rattle.image_claims.specs.Table.{answer_number, image_region_bytes, listed_by, NotStepStart, step_rows, plain_rows}
use Rattle.image_claims.specs.Table.{guarded_rows}
use Rattle.image_claims.specs.Table.{strict_rows, LowestUntakenInImage, RefusalHas, image_add_rows, image_replace_rows, image_remove_rows}
use Rattle.image_claims.proofs.Images.{bytes_length}

-- The number n of a call: the master header's, or else what the call gives over the image's region.
on_image : (i : List ℕ) (rest : List Row) (n : ℕ) → ((x : Refusal) → master i ≡ Err x → n ≡ x.number)
    → (master i ≡ Ok (region i) → FirstRowMet rest n) → (m : ℕ) → (n ≡ m) ↔ FirstRowMet (master_rows i ++ rest) m
on_image i rest n early late = given_exactly (master_rows i ++ rest) n (go (master i) refl)
  where
    go : (m : Result Region Refusal) → master i ≡ m → FirstRowMet (master_rows i ++ rest) n
    go (Ok g) e = let (z, s) = master_read i g e in given_later (master_rows i) rest n refl z (late s)
    go (Err x) e = let (s, g) = master_refused i x e in rw (early x e) (given_here (master_rows i) rest x.number s g)

-- 1 to 8.
pub region_exactly : (i : List ℕ) (n : ℕ) → (answer_number (master i) ≡ n) ↔ FirstRowMet (master_rows i) n
region_exactly i = given_exactly (master_rows i) (answer_number (master i)) (go (master i) refl)
  where
    go : (m : Result Region Refusal) → master i ≡ m → FirstRowMet (master_rows i) (answer_number m)
    go (Ok g) e = (master_read i g e).0
    go (Err x) e = (master_refused i x e).1

-- An image i, the bytes s of its region g, and its align a.
module _ (i : List ℕ) where
  abbrev g : Region
  g = region i

  abbrev s : List ℕ
  s = image_region_bytes i

  abbrev a : ℕ
  a = align i

  abbrev v : Verdict
  v = verdict component_limit s a

  -- The image is read.
  abbrev Is : Type 0
  Is = master i ≡ Ok g

  align_some : Is → 0 < a
  align_some e = omega (arith, (known i g e).least)

  small : Is → length s ≤ 0xFFFFFFFF
  small e = omega (arith, bytes_length i g e i refl, (known i g e).short, (known i g e).inside)

  -- 9, in the paper's words: for a master header the region's start is a multiple of align.
  module _ (n : ℕ) where
    -- What the test says.
    abbrev Unfit : Type 0
    Unfit = (n < g.start) ⊎ ((g.end < n) ⊎ ((n ≡ g.end → ⊥) × ((n - g.start) % a ≡ 0 → ⊥)))

    unfit : Fails (is_step_start g n) Unfit
    unfolding is_step_start
    unfit =
        one_fails (either (later_row g.start n)
        (either (later_row n g.end) (last_fails (neither (other_fails n g.end) (other_fails ((n - g.start) % a) 0)))))

    pub nine : Is → Fails (is_step_start g n) (NotStepStart i n)
    nine e = said unfit (λ c. there c (dec_lt n g.start) (dec_lt g.end n)) (λ c. back c (dec_lt n g.start) (dec_lt g.end n))
      where
        same : g.start ≤ n → (n - g.start) % a ≡ n % a
        same h = Numbers.same_places a g.start n (known i g e).whole h

        there : Unfit → Dec (n < g.start) → Dec (g.end < n) → NotStepStart i n
        there c (yes l) h = inl l
        there c (no l) (yes h) = inr (inl h)
        there (inl c) (no l) (no h) = inl c
        there (inr (inl c)) (no l) (no h) = inr (inl c)
        there (inr (inr c)) (no l) (no h) = inr (inr (omega (arith, c.0), λ z. c.1 (same (omega arith) ∙ z)))

        back : NotStepStart i n → Dec (n < g.start) → Dec (g.end < n) → Unfit
        back c (yes l) h = inl l
        back c (no l) (yes h) = inr (inl h)
        back (inl c) (no l) (no h) = inl c
        back (inr (inl c)) (no l) (no h) = inr (inl c)
        back (inr (inr c)) (no l) (no h) = inr (inr ((λ q. omega (arith, c.0)), λ z. c.1 (sym (same (omega arith)) ∙ z)))

  -- What is taken from a number on.
  abbrev taken : Bool → ℕ → Option Entry
  taken w from = step (pick_of w s a) s a (from - g.start)

  -- A step of either walk: 1 to 9.
  pub step_exactly : (w : Bool) (from n : ℕ) → (answer_number (image_step w i from) ≡ n) ↔ FirstRowMet (step_rows i from) n
  unfolding step_by
  step_exactly w from =
      on_image i (row 9 (NotStepStart i from) ∷ []) (answer_number (image_step w i from)) (λ x e. rw e) (λ e. rw e (go e (is_step_start g from) refl))
    where
      go : Is → (b : Bool) → is_step_start g from ≡ b
          → FirstRowMet (row 9 (NotStepStart i from) ∷ []) (answer_number (cond b (Ok (step_answer_in i g (taken w from))) (Err (refusal_by 9))))
      go e true q = inr (λ c. true≢false (sym q ∙ (nine from e).1 c), refl)
      go e false q = inl ((nine from e).0 q, refl)

  -- Lookups: 1 to 8, 10, and 11 for the guarded one.
  module _ (name : List ℕ) where
    -- The bearers in a walk's listing.
    abbrev kept : Bool → List Entry
    kept w = filter (bears name) (listed_by i w)

    no_bearer : (w : Bool) → kept w ≡ [] → NoBearer (listed_by i w) name
    no_bearer w e t (m, q) = true≢false (sym (name_bears name t q) ∙ filter_empty (bears name) (listed_by i w) e t m)

    some_bearer : (w : Bool) (t : Entry) (ts : List Entry) → kept w ≡ t ∷ ts → NoBearer (listed_by i w) name → ⊥
    some_bearer w t ts e h =
        let m : Memᴰ t (kept w) = rw e (mathlib.Core.List.Memᴰ.head refl) in
        let k = mem_filter (bears name) (listed_by i w) t m in
        h t (k.0, bears_name_lem name t k.1)

    pub plain_find_exactly : (n : ℕ) → (answer_number (plain_find i name) ≡ n) ↔ FirstRowMet (plain_rows i name) n
    unfolding first_or_refused
    plain_find_exactly =
        on_image i (row 10 (NoBearer (listed_by i false) name) ∷ []) (answer_number (plain_find i name)) (λ x e. rw e) (λ e. rw e (go (kept false) refl))
      where
        go : (k : List Entry) → kept false ≡ k → FirstRowMet (row 10 (NoBearer (listed_by i false) name) ∷ []) (answer_number (find_answer_in i g (first_or_refused k)))
        go [] q = inl (no_bearer false q, refl)
        go (t ∷ ts) q = inr (some_bearer false t ts q, refl)

    abbrev rows : List Row
    rows = row 10 (NoBearer (listed_by i true) name) ∷ row 11 (TwoBearers name (listed_by i true)) ∷ []

    pub guarded_find_exactly : (n : ℕ) → (answer_number (guarded_find i name) ≡ n) ↔ FirstRowMet (guarded_rows i name) n
    unfolding only_or_refused
    guarded_find_exactly = on_image i rows (answer_number (guarded_find i name)) (λ x e. rw e) (λ e. rw e (go (kept true) refl))
      where
        one : (t : Entry) → kept true ≡ t ∷ [] → TwoBearers name (listed_by i true) → ⊥
        one t q w =
            let z : lookup_gives t ≡ lookup-refused 11 = rw q at ((two_bearers name (listed_by i true)).1 w) in
            let y : ◌≡◌ {A = ℕ} 0 1 = cc in
            omega arith

        go : (k : List Entry) → kept true ≡ k → FirstRowMet rows (answer_number (find_answer_in i g (only_or_refused k)))
        go [] q = inl (no_bearer true q, refl)
        go (t ∷ []) q = inr (some_bearer true t [] q, inr (one t q, refl))
        go (t ∷ u ∷ us) q = inr (some_bearer true t (u ∷ us) q, inl ((two_bearers name (listed_by i true)).0 (rw q), refl))

  -- The strict check: 1 to 8, 12, 13, 11.
  pub strict_exactly : (n : ℕ) → (answer_number (strict_check i) ≡ n) ↔ FirstRowMet (strict_rows i) n
  strict_exactly = on_image i (check_rows component_limit s a) (answer_number (strict_check i)) (λ x e. rw e)
      (λ e. rw e (go v ((check_exactly component_limit s a (align_some e) (verdict_number v)).0 refl)))
    where
      go : (w : Verdict) → FirstRowMet (check_rows component_limit s a) (verdict_number w)
          → FirstRowMet (check_rows component_limit s a) (answer_number (directory_answer component_limit g.start w))
      go (check_refused n p) h = h
      go (check_accepted ps) h = h

  -- Edits: the same, then their own.

  edit_number_lem : (d : Decision) → answer_number (edit_answer g.start (carried_out s d).answer) ≡ decision_number d
  unfolding carried_out
  edit_number_lem (refuse n p) = refl
  edit_number_lem (write y b) = refl

  module _ (name : List ℕ) where
    pub add_exactly : (kind : ℕ) (content : List ℕ) (n : ℕ)
        → (answer_number (image_add i name kind content).answer ≡ n) ↔ FirstRowMet (image_add_rows i name kind content) n
    unfolding add
    add_exactly kind content =
        on_image i (check_rows component_limit s a ++ add_rows component_limit s a name kind content) (answer_number (image_add i name kind content).answer)
        (λ x e. rw e)
        (λ e. rw (e, edit_number_lem (add_decision component_limit s a name kind content)) (add_given s a (align_some e) (small e) name kind content))

    pub replace_exactly : (content : List ℕ) (n : ℕ) → (answer_number (image_replace i name content).answer ≡ n) ↔ FirstRowMet (image_replace_rows i name content) n
    unfolding replace
    replace_exactly content =
        on_image i (check_rows component_limit s a ++ replace_rows s a name content) (answer_number (image_replace i name content).answer) (λ x e. rw e)
        (λ e. rw (e, edit_number_lem (replace_decision component_limit s a name content)) (replace_given s a (align_some e) (small e) name content))

    pub remove_exactly : (n : ℕ) → (answer_number (image_remove i name).answer ≡ n) ↔ FirstRowMet (image_remove_rows i name) n
    unfolding remove
    remove_exactly = on_image i (check_rows component_limit s a ++ remove_rows s a name) (answer_number (image_remove i name).answer) (λ x e. rw e)
        (λ e. rw (e, edit_number_lem (remove_decision component_limit s a name)) (remove_given s a (align_some e) (small e) name))

-- What a refusal says: a number that is not 0, and its place, which is the lowest such place for 12 and 0 for every other one.

-- The strict check's own numbers.
check_number : (n p : ℕ) → (n ≡ 12) ⊎ ((n ≡ 13) × (p ≡ 0)) ⊎ ((n ≡ 11) × (p ≡ 0)) → n ≡ 0 → ⊥
check_number n p (inl h) z = omega arith
check_number n p (inr (inl h)) z = omega (arith, h.0)
check_number n p (inr (inr h)) z = omega (arith, h.0)

-- A lookup's own numbers.
lookup_number : (w : Bool) (x : List ℕ) (b : ℕ) (name : List ℕ) (n : ℕ) → lookup_of w x b name ≡ lookup-refused n → (n ≡ 0 → ⊥) × (n ≡ 12 → ⊥)
unfolding first_or_refused only_or_refused
lookup_number true x b name n = go (filter (bears name) (guarded_listing x b))
  where
    go : (l : List Entry) → only_or_refused l ≡ lookup-refused n → (n ≡ 0 → ⊥) × (n ≡ 12 → ⊥)
    go [] q = let y : 10 ≡ n = cc in (λ z. omega arith, λ z. omega arith)
    go (t ∷ []) q = let y : ◌≡◌ {A = ℕ} 0 1 = cc in absurd (omega arith)
    go (t ∷ u ∷ us) q = let y : 11 ≡ n = cc in (λ z. omega arith, λ z. omega arith)
lookup_number false x b name n = go (filter (bears name) (plain_listing x b))
  where
    go : (l : List Entry) → first_or_refused l ≡ lookup-refused n → (n ≡ 0 → ⊥) × (n ≡ 12 → ⊥)
    go [] q = let y : 10 ≡ n = cc in (λ z. omega arith, λ z. omega arith)
    go (t ∷ ts) q = let y : ◌≡◌ {A = ℕ} 0 1 = cc in absurd (omega arith)

module _ (i : List ℕ) where
  abbrev Says : Refusal → Type 0
  Says x = RefusalHas i x

  -- A refusal with place 0; one that the region's check or edit gives, counted from the image's start.

  no_place : (n : ℕ) → (n ≡ 0 → ⊥) × (n ≡ 12 → ⊥) → Says (refusal_by n)
  no_place n k = record { some_number = k.0; place = ((λ z. absurd (k.1 z)), λ z. refl) }

  abbrev from_start : ℕ → ℕ → Refusal
  from_start n p = record { number = n; place = cond (eqb n 12) ((g i).start + p) 0 }

  says_from_start : (n p : ℕ) → (n ≡ 0 → ⊥) → (n ≡ 12 → LowestUntakenInImage i ((g i).start + p)) → Says (from_start n p)
  says_from_start n p k h = record { some_number = k; place = ((λ z. rw (eq-eqb n 12 z) (h z)), λ z. rw (ne_eqb n 12 z)) }

  lowest : Is i → (p : ℕ) → v i ≡ check_refused 12 p → LowestUntakenInImage i ((g i).start + p)
  lowest e p q = let (u, l) = lowest_untaken component_limit (s i) (a i) (align_some i e) p q in (p, refl, u, l)

  checked : Is i → (n p : ℕ) → v i ≡ check_refused n p → Says (from_start n p)
  checked e n p q = says_from_start n p (check_number n p (no_other component_limit (s i) (a i) n p q)) (λ z. lowest e p (rw z at q))

  -- An answer is one refusal.
  same : {A : Type 0} (x y : Refusal) → ◌≡◌ {A = Result A Refusal} (Err y) (Err x) → Says y → Says x
  same x y q h = let z : y ≡ x = cc in subst Says z h

  -- The master header's refusals.
  pub region_refusal : (x : Refusal) → master i ≡ Err x → Says x
  region_refusal x e = record {
    some_number = refused_number i x e;
    place = ((λ z. absurd (not_given 12 (master_rows i) refl (rw z at (master_refused i x e).1))), λ n. ap (λ (y : Refusal). y.place) (refused_place i x e));
  }

  pub step_refusal : (w : Bool) (from : ℕ) (x : Refusal) → image_step w i from ≡ Err x → Says x
  unfolding step_by
  step_refusal w from x e = go (master i) refl e
    where
      by : (b : Bool) → cond b (Ok (step_answer_in i (g i) (taken i w from))) (Err (refusal_by 9)) ≡ Err x → Says x
      by true q = let z : ◌≡◌ {A = ℕ} 0 1 = cc in absurd (omega arith)
      by false q = same x (refusal_by 9) q (no_place 9 (λ z. omega arith, λ z. omega arith))

      go : (m : Result Region Refusal) → master i ≡ m → image_step w i from ≡ Err x → Says x
      go (Ok h) q f = by (is_step_start (g i) from) (rw (master_read i h q).1 at f)
      go (Err y) q f = same x y (rw q at f) (region_refusal y q)

  -- "A refusal gives an empty part."
  pub find_refusal : (w : Bool) (name : List ℕ) (x : Refusal) → image_find w i name ≡ Err x → Says x × (image_content w i name ≡ [])
  find_refusal w name x e = go (master i) refl e
    where
      by : Is i → (o : LookupResult) → lookup_of w (s i) (a i) name ≡ o → find_answer_in i (g i) o ≡ Err x → Says x × (image_content w i name ≡ [])
      by f (lookup-refused n) q h = (same x (refusal_by n) h (no_place n (lookup_number w (s i) (a i) name n q)), rw (f, q))
      by f (lookup_gives t) q h = let z : ◌≡◌ {A = ℕ} 0 1 = cc in absurd (omega arith)

      go : (m : Result Region Refusal) → master i ≡ m → image_find w i name ≡ Err x → Says x × (image_content w i name ≡ [])
      go (Ok h) q f = let p = (master_read i h q).1 in by p (lookup_of w (s i) (a i) name) refl (rw p at f)
      go (Err y) q f = (same x y (rw q at f) (region_refusal y q), rw q)

  pub strict_refusal : (x : Refusal) → strict_check i ≡ Err x → Says x
  strict_refusal x e = go (master i) refl e
    where
      by : Is i → (w : Verdict) → v i ≡ w → directory_answer component_limit (g i).start w ≡ Err x → Says x
      by f (check_refused n p) q h = same x (from_start n p) h (checked f n p q)
      by f (check_accepted ps) q h = let z : ◌≡◌ {A = ℕ} 0 1 = cc in absurd (omega arith)

      go : (m : Result Region Refusal) → master i ≡ m → strict_check i ≡ Err x → Says x
      go (Ok h) q f = let p = (master_read i h q).1 in by p (v i) refl (rw p at f)
      go (Err y) q f = same x y (rw q at f) (region_refusal y q)

  -- An edit with its own decision d, after the strict check.
  module _ (call : Region → EditResult) (d : Decision) (is : call (g i) ≡ edit_result_in i (g i) (carried_out (s i) (after_check (v i) d))) (numbers : EditNumber d)
      (x : Refusal) where
    -- The region's answer is this refusal.
    abbrev Gave : Decision → Type 0
    Gave f = edit_answer (g i).start (carried_out (s i) f).answer ≡ Err x

    own : (f : Decision) → EditNumber f → Gave f → Says x
    unfolding carried_out
    own (refuse n p) k q = same x (from_start n p) q (says_from_start n p k.0 (λ z. absurd (k.1 z)))
    own (write y b) k q = let z : ◌≡◌ {A = ℕ} 0 1 = cc in absurd (omega arith)

    by : Is i → (w : Verdict) → v i ≡ w → Gave (after_check w d) → Says x
    unfolding carried_out
    by e (check_refused n p) f q = same x (from_start n p) q (checked e n p f)
    by e (check_accepted ps) f q = own d numbers q

    edit_refusal : (edit_on i (master i) call).answer ≡ Err x → Says x
    edit_refusal e = go (master i) refl e
      where
        go : (m : Result Region Refusal) → master i ≡ m → (edit_on i m call).answer ≡ Err x → Says x
        go (Ok h) q f =
            let p = (master_read i h q).1 in
            let w : Ok h ≡ Ok (g i) = sym q ∙ p in
            let z : h ≡ g i = cc in
            by p (v i) refl (rw (z, is) at f)
        go (Err y) q f = same x y f (region_refusal y q)

  module _ (name : List ℕ) where
    abbrev L : List Entry
    L = plain_listing (s i) (a i)

    abbrev slot : Option EntrySlot
    slot = slot_of (length (s i)) name L

    pub add_refusal : (kind : ℕ) (content : List ℕ) (x : Refusal) → (image_add i name kind content).answer ≡ Err x → Says x
    unfolding add
    add_refusal kind content =
        edit_refusal (λ h. add_in i h name kind content) (add_after_check component_limit (s i) (a i) name (span_bytes name kind content) L) refl
        (add_numbers component_limit (s i) (a i) name (span_bytes name kind content) L)

    pub replace_refusal : (content : List ℕ) (x : Refusal) → (image_replace i name content).answer ≡ Err x → Says x
    unfolding replace
    replace_refusal content = edit_refusal (λ h. replace_in i h name content) (replace_after_check (a i) name content slot) refl
        (replace_numbers (a i) (length (s i)) name content L)

    pub remove_refusal : (x : Refusal) → (image_remove i name).answer ≡ Err x → Says x
    unfolding remove
    remove_refusal = edit_refusal (λ h. remove_in i h name) (remove_after_check slot) refl (remove_numbers (length (s i)) name L)

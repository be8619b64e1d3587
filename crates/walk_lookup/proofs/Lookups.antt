-- Laws of bearers, for a loop that takes one step after the other. g is true for the guarded walk.
use Prim.Native.Nat.{ℕ, zero, suc, ◌+◌, ◌-◌, ◌<◌, ◌≤◌}
use native.Mathlib.Omega.{arith}
use native.Mathlib.Decide.{dec_lt}
use mathlib.Core.Logic.{inl}
use mathlib.Core.Path.{◌≡◌, refl, sym, ap, subst, ◌∙◌}
use mathlib.Core.List.{List, [], ◌∷◌}
use mathlib.Core.Bool.{Bool, true, false, cond, true≢false, false≢true}
use Rattle.std.specs.Prelude.{ok_or, Option, Some, None, Ok, Err}
use Rattle.std.proofs.lemmas.Option.{none-some, same_Some}
use lib.ListN.{length, take, drop, get_or}
use Rattle.bytes_read.specs.Bytes.{part_of, eq_bytes}
use Rattle.std.specs.Prelude.{not}
use Rattle.std.specs.List.{find}
use Rattle.bytes_read.specs.Lists.{filter}
use Rattle.component.specs.Sums.{checksum_matches}
use Rattle.walk.specs.Walk.{Entry, Pick, guarded_pick, pick_of, pick_skipping_sum, pick_with_sum_if, step, next, entry_end, taken_of, step_answer}
use Rattle.walk.specs.Walk.{PlaceOrPastEnd}
use Rattle.walk_lookup.specs.Lookup.{taken_from, bears_by, bears, bearers_from, bears_at, bears_with_sum_at, first_of, first_or_refused, only_or_refused}
use Rattle.walk_lookup.specs.Lookup.{bearer_answer, plain_lookup, guarded_lookup}
use Rattle.cbfs_types.specs.declared.Taken.{Taken}
use Rattle.region.specs.Region.{refusal_by}
use Rattle.walk.proofs.Standing.{answer_some, answer_none, stands}
use Rattle.walk.proofs.Steps.{First, step_some, next_place_later, rest_none, rest_some, rest_same, next_place_end}
use Rattle.walk.proofs.Stepping.{pick_fits, pick_for_fits, step_past, none_left, step_no_places}
use Rattle.walk.proofs.Unsummed.{right, wrong_next}

-- The bearers from n on, by the step from n.
module _ (g : Bool) (r : List ℕ) (a n : ℕ) where
  pub bearers_same : (m : ℕ) (name : List ℕ) → step (pick_of g r a) r a n ≡ step (pick_of g r a) r a m
      → bearers_from (pick_of g r a) r a name n ≡ bearers_from (pick_of g r a) r a name m
  unfolding bearers_from
  bearers_same m name s = rw (rest_same (pick_of g r a) r a n m s)

module _ (g : Bool) (r : List ℕ) (a n : ℕ) (name : List ℕ) where
  pub bearers_end : step (pick_of g r a) r a n ≡ None → bearers_from (pick_of g r a) r a name n ≡ []
  unfolding bearers_from filter
  bearers_end s = rw (rest_none (pick_of g r a) r a n s)

  pub bearers_here : (e : Entry) → step (pick_of g r a) r a n ≡ Some e
      → bearers_from (pick_of g r a) r a name n ≡ cond (bears name e) (e ∷ bearers_from (pick_of g r a) r a name (next r a e))
      (bearers_from (pick_of g r a) r a name (next r a e))
  unfolding bearers_from filter
  bearers_here e s = let pos = (stands g r a n e s).pos in rw (rest_some (pick_of g r a) r a pos (pick_fits g r a pos) n e s)

  -- The same by what a step answered, t.

  module _ (t : Taken) (s : step_answer r a (step (pick_of g r a) r a n) ≡ Some t) where
    bears_said : (e : Entry) → step (pick_of g r a) r a n ≡ Some e → taken_of r a e ≡ t
        → eq_bytes (part_of (drop t.place r) 24 t.header.namelen) name ≡ bears name e
    unfolding bears
    bears_said e o q = subst (λ (x : Taken). eq_bytes (part_of (drop x.place r) 24 x.header.namelen) name ≡ bears name e) q
        (ap (λ (l : List ℕ). eq_bytes l name) (stands g r a n e o).named)

    pub bearer_here : eq_bytes (part_of (drop t.place r) 24 t.header.namelen) name ≡ true
        → Some t ≡ step_answer r a (first_of (bearers_from (pick_of g r a) r a name n))
    bearer_here b = let (e, o, q) = answer_some r a (step (pick_of g r a) r a n) t s in go e o q
      where
        go : (e : Entry) → step (pick_of g r a) r a n ≡ Some e → taken_of r a e ≡ t
            → Some t ≡ step_answer r a (first_of (bearers_from (pick_of g r a) r a name n))
        go e o q = rw (bearers_here e o, sym (bears_said e o q) ∙ b, ← q)

    pub bearer_on : eq_bytes (part_of (drop t.place r) 24 t.header.namelen) name ≡ false
        → bearers_from (pick_of g r a) r a name n ≡ bearers_from (pick_of g r a) r a name t.next
    bearer_on b = let (e, o, q) = answer_some r a (step (pick_of g r a) r a n) t s in go e o q
      where
        go : (e : Entry) → step (pick_of g r a) r a n ≡ Some e → taken_of r a e ≡ t
            → bearers_from (pick_of g r a) r a name n ≡ bearers_from (pick_of g r a) r a name t.next
        go e o q = rw (bearers_here e o, sym (bears_said e o q) ∙ b) (ap (λ (x : Taken). bearers_from (pick_of g r a) r a name x.next) q)

-- The guarded walk by its candidates: the one that was found from n on, t. What it bears is compared before its sum is taken.
module _ (r : List ℕ) (a n : ℕ) (name : List ℕ) (stop : PlaceOrPastEnd r a n) (t : Taken)
    (s : step_answer r a (step (pick_skipping_sum true r a) r a n) ≡ Some t) where
  abbrev borne : Bool
  borne = bears_at r name t

  abbrev sum : Bool
  sum = checksum_matches (take (t.header.offset + t.header.len) (drop t.place r))

  abbrev bearers : ℕ → List Entry
  bearers m = bearers_from (guarded_pick r a) r a name m

  pub bears_with_sum : bears_with_sum_at r name t ≡ true → Some t ≡ step_answer r a (first_of (bearers n))
  bears_with_sum e = go borne sum refl refl e
    where
      go : (b k : Bool) → borne ≡ b → sum ≡ k → cond b k false ≡ true → Some t ≡ step_answer r a (first_of (bearers n))
      go true true y z e = bearer_here true r a n name t (sym (right r a n t s z)) y
      go true false y z e = absurd (false≢true e)
      go false k y z e = absurd (false≢true e)

  pub bears_without_sum : bears_with_sum_at r name t ≡ false → bearers n ≡ bearers t.next
  bears_without_sum e = go borne sum refl refl e
    where
      wrong_sum : sum ≡ false → bearers n ≡ bearers t.next
      wrong_sum z = bearers_same true r a n t.next name (wrong_next r a n t s stop z)

      go : (b k : Bool) → borne ≡ b → sum ≡ k → cond b k false ≡ false → bearers n ≡ bearers t.next
      go true true y z e = absurd (true≢false e)
      go true false y z e = wrong_sum z
      go false true y z e = bearer_on true r a n name t (sym (right r a n t s z)) y
      go false false y z e = wrong_sum z

-- The number that a component gives to go on from is one to step from.
pub took_stop : (r : List ℕ) (a : ℕ) (o : Option Entry) (t : Taken) → step_answer r a o ≡ Some t → PlaceOrPastEnd r a t.next
took_stop r a o t s = let (e, f, q) = answer_some r a o t s in subst (λ (x : Taken). PlaceOrPastEnd r a x.next) q (next_place_end r a (entry_end e))

-- The bearers from n on are the first one and those from the number that it gives on.
module _ (g : Bool) (r : List ℕ) (a : ℕ) (name : List ℕ) where
  abbrev After : ℕ → Type 0
  After n = (e : Entry) → first_of (bearers_from (pick_of g r a) r a name n) ≡ Some e
      → bearers_from (pick_of g r a) r a name n ≡ e ∷ bearers_from (pick_of g r a) r a name (next r a e)

  after_one : (n : ℕ) → ((m : ℕ) → n < m → After m) → After n
  after_one n ih e f = by (step (pick_of g r a) r a n) refl
    where
      same : (x : Entry) (l : List Entry) → bearers_from (pick_of g r a) r a name n ≡ x ∷ l → x ≡ e
      same x l q = same_Some x e (ap first_of (sym q) ∙ f)

      go : (x : Entry) → step (pick_of g r a) r a n ≡ Some x → (b : Bool) → bears name x ≡ b
          → bearers_from (pick_of g r a) r a name n ≡ cond b (x ∷ bearers_from (pick_of g r a) r a name (next r a x))
          (bearers_from (pick_of g r a) r a name (next r a x))
          → bearers_from (pick_of g r a) r a name n ≡ e ∷ bearers_from (pick_of g r a) r a name (next r a e)
      go x s true b q = q ∙ ap (λ (y : Entry). y ∷ bearers_from (pick_of g r a) r a name (next r a y)) (same x _ q)
      go x s false b q = q ∙ ih (next r a x) (stands g r a n x s).later e (ap first_of (sym q) ∙ f)

      by : (o : Option Entry) → step (pick_of g r a) r a n ≡ o
          → bearers_from (pick_of g r a) r a name n ≡ e ∷ bearers_from (pick_of g r a) r a name (next r a e)
      by None s = absurd (none-some e (ap first_of (sym (bearers_end g r a n name s)) ∙ f))
      by (Some x) s = go x s (bears name x) refl (bearers_here g r a n name x s)

  after_from : (d n : ℕ) → length r < n + d → After n
  after_from zero n h e f = absurd (none-some e (ap first_of (sym (bearers_end g r a n name (step_past (pick_of g r a) r a n (omega arith)))) ∙ f))
  after_from (suc d) n h e f = after_one n (λ m l. after_from d m (omega arith)) e f

  pub bearers_after : (n : ℕ) → After n
  bearers_after n = after_from (suc (length r)) n (omega arith)

-- What a lookup goes by, one after the other: none is left from n on, or the first is t.
module _ (g : Bool) (r : List ℕ) (a n : ℕ) where
  abbrev by_sum : Pick
  by_sum = pick_with_sum_if (not g) g r a

  pub taken_none : None ≡ step_answer r a (step by_sum r a n) → taken_from g r a n ≡ []
  unfolding taken_from
  taken_none s = rw (rest_none by_sum r a n (answer_none r a (step by_sum r a n) (sym s)))

  module _ (t : Taken) (s : Some t ≡ step_answer r a (step by_sum r a n)) where
    found_place : (e : Entry) → step by_sum r a n ≡ Some e → 0 < a
    found_place e o = go (dec_lt 0 a)
      where
        go : Dec (0 < a) → 0 < a
        go (yes h) = h
        go (no h) = absurd (none-some e (sym (step_no_places by_sum r a n (omega arith)) ∙ o))

    pub taken_next : taken_from g r a n ≡ t ∷ taken_from g r a t.next
    unfolding taken_from
    taken_next = let (e, o, q) = answer_some r a (step by_sum r a n) t (sym s) in go e o q
      where
        go : (e : Entry) → step by_sum r a n ≡ Some e → taken_of r a e ≡ t → taken_from g r a n ≡ t ∷ taken_from g r a t.next
        go e o q =
            let pos = found_place e o in
            rw (rest_some by_sum r a pos (pick_for_fits g r a (not g) pos) n e o, ← q)

    taken_within : t.place + (t.header.offset + t.header.len) ≤ length r
    taken_within = let (e, o, q) = answer_some r a (step by_sum r a n) t (sym s) in go e o q
      where
        go : (e : Entry) → step by_sum r a n ≡ Some e → taken_of r a e ≡ t → t.place + (t.header.offset + t.header.len) ≤ length r
        go e o q =
            let pos = found_place e o in
            let f : First by_sum r a pos n e = step_some by_sum r a pos n e o in
            subst (λ (x : Taken). x.place + (x.header.offset + x.header.len) ≤ length r) q (pick_for_fits g r a (not g) pos e.place e.component f.taken).1

    -- Fewer bytes are left to look at.
    pub taken_later : length r - t.next < length r - n
    taken_later = let (e, o, q) = answer_some r a (step by_sum r a n) t (sym s) in go e o q
      where
        go : (e : Entry) → step by_sum r a n ≡ Some e → taken_of r a e ≡ t → length r - t.next < length r - n
        go e o q =
            let pos = found_place e o in
            let l = next_place_later by_sum r a pos (pick_for_fits g r a (not g) pos) n e o in
            subst (λ (x : Taken). length r - x.next < length r - n) q (omega (arith, l))

-- Each of them lies in the region.
module _ (g : Bool) (r : List ℕ) (a : ℕ) where
  within_by : (d n : ℕ) → length r - n < d → (k : ℕ) (x : Taken) → k < length (taken_from g r a n) → x ≡ get_or (taken_from g r a n) k x
      → x.place + (x.header.offset + x.header.len) ≤ length r
  within_by zero n h k x l e = absurd (omega arith)
  within_by (suc d) n h k x l e =
      go (step_answer r a (step (by_sum g r a n) r a n)) refl (λ m w. within_by d m (omega arith)) k l e
    where
      at : (t : Taken) (ts : List Taken) → t.place + (t.header.offset + t.header.len) ≤ length r
          → ((k : ℕ) (x : Taken) → k < length ts → x ≡ get_or ts k x → x.place + (x.header.offset + x.header.len) ≤ length r)
          → (k : ℕ) → k < length (t ∷ ts) → x ≡ get_or (t ∷ ts) k x → x.place + (x.header.offset + x.header.len) ≤ length r
      at t ts f ih zero l e = subst (λ (y : Taken). y.place + (y.header.offset + y.header.len) ≤ length r) (sym e) f
      at t ts f ih (suc k) l e = ih k x (omega arith) e

      go : (o : Option Taken) → step_answer r a (step (by_sum g r a n) r a n) ≡ o
          → ((m : ℕ) → length r - m < length r - n → (k : ℕ) (x : Taken) → k < length (taken_from g r a m) → x ≡ get_or (taken_from g r a m) k x
          → x.place + (x.header.offset + x.header.len) ≤ length r)
          → (k : ℕ) → k < length (taken_from g r a n) → x ≡ get_or (taken_from g r a n) k x → x.place + (x.header.offset + x.header.len) ≤ length r
      go None s ih k l e = absurd (omega (arith, l, ap length (taken_none g r a n (sym s))))
      go (Some t) s ih k l e =
          let q = taken_next g r a n t (sym s) in
          at t (taken_from g r a t.next) (taken_within g r a n t (sym s)) (ih t.next (taken_later g r a n t (sym s))) k (rw q at l) (rw q at e)

  pub taken_fits : (n k : ℕ) (x : Taken) → k < length (taken_from g r a n) → x ≡ get_or (taken_from g r a n) k x
      → x.place + (x.header.offset + x.header.len) ≤ length r
  taken_fits n = within_by (suc (length r - n)) n (omega arith)

-- The first of them that bears the name.
module _ (g : Bool) (r : List ℕ) (a : ℕ) (name : List ℕ) where
  abbrev sought : ℕ → Option Entry
  sought n = step (pick_with_sum_if (not g) g r a) r a n

  abbrev first_bearing : ℕ → Option Taken
  first_bearing n = step_answer r a (first_of (bearers_from (pick_of g r a) r a name n))

  none_bears : (n : ℕ) → sought n ≡ None → bearers_from (pick_of g r a) r a name n ≡ []
  none_bears n s = bearers_end g r a n name (go g s)
    where
      go : (g : Bool) → step (pick_with_sum_if (not g) g r a) r a n ≡ None → step (pick_of g r a) r a n ≡ None
      go true s = none_left r a n s
      go false s = s

  module _ (n : ℕ) (stop : PlaceOrPastEnd r a n) (t : Taken) (s : step_answer r a (sought n) ≡ Some t) where
    bears_here : bears_by g r name t ≡ true → Some t ≡ first_bearing n
    bears_here = go g s
      where
        go : (g : Bool) → step_answer r a (step (pick_with_sum_if (not g) g r a) r a n) ≡ Some t → bears_by g r name t ≡ true
            → Some t ≡ step_answer r a (first_of (bearers_from (pick_of g r a) r a name n))
        go true s b = bears_with_sum r a n name stop t s b
        go false s b = bearer_here false r a n name t s b

    bears_later : bears_by g r name t ≡ false → bearers_from (pick_of g r a) r a name n ≡ bearers_from (pick_of g r a) r a name t.next
    bears_later = go g s
      where
        go : (g : Bool) → step_answer r a (step (pick_with_sum_if (not g) g r a) r a n) ≡ Some t → bears_by g r name t ≡ false
            → bearers_from (pick_of g r a) r a name n ≡ bearers_from (pick_of g r a) r a name t.next
        go true s b = bears_without_sum r a n name stop t s b
        go false s b = bearer_on false r a n name t s b

  found_by : (d n : ℕ) → length r - n < d → PlaceOrPastEnd r a n → find (bears_by g r name) (taken_from g r a n) ≡ first_bearing n
  found_by zero n h stop = absurd (omega arith)
  found_by (suc d) n h stop = go (step_answer r a (sought n)) refl (λ m l k. found_by d m (omega arith) k)
    where
      by : (t : Taken) → step_answer r a (sought n) ≡ Some t → (b : Bool) → bears_by g r name t ≡ b
          → find (bears_by g r name) (taken_from g r a t.next) ≡ first_bearing t.next
          → cond b (Some t) (find (bears_by g r name) (taken_from g r a t.next)) ≡ first_bearing n
      by t s true e ih = bears_here n stop t s e
      by t s false e ih = ih ∙ sym (ap (λ (l : List Entry). step_answer r a (first_of l)) (bears_later n stop t s e))

      go : (o : Option Taken) → step_answer r a (sought n) ≡ o
          → ((m : ℕ) → length r - m < length r - n → PlaceOrPastEnd r a m → find (bears_by g r name) (taken_from g r a m) ≡ first_bearing m)
          → find (bears_by g r name) (taken_from g r a n) ≡ first_bearing n
      go None s ih = rw (taken_none g r a n (sym s), none_bears n (answer_none r a _ s))
      go (Some t) s ih =
          rw (taken_next g r a n t (sym s)) (by t s (bears_by g r name t) refl (ih t.next (taken_later g r a n t (sym s)) (took_stop r a _ t s)))

  pub found : (n : ℕ) → PlaceOrPastEnd r a n → find (bears_by g r name) (taken_from g r a n) ≡ first_bearing n
  found n stop = found_by (suc (length r - n)) n (omega arith) stop

-- The plain lookup, by the first bearer; and the guarded one, by the first and by the first one after it.
module _ (r : List ℕ) (a : ℕ) (name : List ℕ) where
  abbrev first_found : Bool → ℕ → Option Taken
  first_found g n = find (bears_by g r name) (taken_from g r a n)

  start : PlaceOrPastEnd r a 0
  start = inl (0, omega arith)

  pub plain_answer : bearer_answer r a (plain_lookup r a name) ≡ ok_or (first_found false 0) (refusal_by 10)
  unfolding bearers_from first_or_refused
  plain_answer = rw (found false r a name 0 start) (go (bearers_from (pick_of false r a) r a name 0))
    where
      go : (l : List Entry) → bearer_answer r a (first_or_refused l) ≡ ok_or (step_answer r a (first_of l)) (refusal_by 10)
      go [] = refl
      go (x ∷ l) = refl

  pub guarded_missing : first_found true 0 ≡ None → bearer_answer r a (guarded_lookup r a name) ≡ Err (refusal_by 10)
  unfolding bearers_from only_or_refused
  guarded_missing s = go (bearers_from (pick_of true r a) r a name 0) (sym (found true r a name 0 start) ∙ s)
    where
      go : (l : List Entry) → step_answer r a (first_of l) ≡ None → bearer_answer r a (only_or_refused l) ≡ Err (refusal_by 10)
      go [] s = refl
      go (x ∷ l) s = let z : ◌≡◌ {A = ℕ} 0 1 = cc in absurd (omega arith)

  module _ (t : Taken) (s : first_found true 0 ≡ Some t) where
    abbrev rest : Entry → List Entry
    rest e = bearers_from (pick_of true r a) r a name (next r a e)

    first_one : (e : Entry) × (bearers_from (pick_of true r a) r a name 0 ≡ e ∷ rest e) × (taken_of r a e ≡ t)
    first_one =
        let (e, f, q) = answer_some r a (first_of (bearers_from (pick_of true r a) r a name 0)) t (sym (found true r a name 0 start) ∙ s) in
        (e, bearers_after true r a name 0 e f, q)

    second : (e : Entry) → taken_of r a e ≡ t → first_found true t.next ≡ step_answer r a (first_of (rest e))
    second e q = subst (λ (x : Taken). first_found true x.next ≡ step_answer r a (first_of (rest e))) q
        (found true r a name (next r a e) (next_place_end r a (entry_end e)))

    pub guarded_only : first_found true t.next ≡ None → bearer_answer r a (guarded_lookup r a name) ≡ Ok t
    unfolding bearers_from only_or_refused
    guarded_only u = let (e, f, q) = first_one in rw f (go e q (rest e) (sym (second e q) ∙ u))
      where
        go : (e : Entry) → taken_of r a e ≡ t → (l : List Entry) → step_answer r a (first_of l) ≡ None → bearer_answer r a (only_or_refused (e ∷ l)) ≡ Ok t
        go e q [] u = ap Ok q
        go e q (x ∷ l) u = let z : ◌≡◌ {A = ℕ} 0 1 = cc in absurd (omega arith)

    pub guarded_twice : (v : Taken) → first_found true t.next ≡ Some v → bearer_answer r a (guarded_lookup r a name) ≡ Err (refusal_by 11)
    unfolding bearers_from only_or_refused
    guarded_twice v u = let (e, f, q) = first_one in rw f (go e (rest e) (sym (second e q) ∙ u))
      where
        go : (e : Entry) (l : List Entry) → step_answer r a (first_of l) ≡ Some v → bearer_answer r a (only_or_refused (e ∷ l)) ≡ Err (refusal_by 11)
        go e [] u = let z : ◌≡◌ {A = ℕ} 0 1 = cc in absurd (omega arith)
        go e (x ∷ l) u = refl

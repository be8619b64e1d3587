-- A step by way of the search, for either walk: g is true for the guarded one. First what is found by document 01's tests alone, then what its sum leaves of
-- it.
use Prim.Native.Nat.{ℕ, zero, suc, ◌+◌, ◌*◌, ◌-◌, ◌≤◌, ◌<◌, min}
use native.Mathlib.Omega.{arith}
use native.Mathlib.Decide.{dec_lt}
use mathlib.Core.Path.{◌≡◌, refl, sym, ap, subst, ◌∙◌}
use mathlib.Core.List.{List}
use mathlib.Core.Bool.{Bool, true, false, cond, true≢false}
use Rattle.std.specs.Prelude.{Option, Some, None}
use Rattle.std.proofs.lemmas.Option.{same_Some, none-some}
use lib.ListN.{length, take, drop, length-drop}
use borrow.Author.Tests.{lt-ltb, le-ltb, ltb-false}
use Rattle.component.specs.Sums.{checksum_matches}
use Rattle.component.specs.Component.{Component, span_length, judge_numbers, judge_skipping_sum, judge, judged, header_of}
use Rattle.cbfs_types.specs.declared.Header.{Header}
use Rattle.cbfs_types.specs.declared.Header.{Header}
use Rattle.component.proofs.Judging.{judge-fits, judge_fields, judged_some, judged_none, header_summed, unsummed_numbers, unsummed_no_magic}
use Rattle.component.proofs.Judging.{unsummed_fits_region, summed_of, judge_unsummed}
use Rattle.bytes_read.proofs.Splice.{rest}
use Rattle.walk.specs.Walk.{Pick, Entry, place_count_below, magic_at, next_magic, magic_inside, plain_pick, unless, guarded_pick, pick_of, pick_skipping_sum}
use Rattle.walk.specs.Walk.{pick_with_sum_if, or_else}
use Rattle.walk.specs.Walk.{first, step, next_place, step_answer, entry_end}
use Rattle.walk.proofs.Places.{no_places, below_next, below_pos}
use Rattle.walk.proofs.Searching.{next_none, next_above, next_has_magic, over_no_magic, no_magic_all, inside_by_search, behind}
use Rattle.walk.proofs.Steps.{Fits, First, step_some, step_end, step_here, step-next}
use Rattle.walk.proofs.Picks.{plain_fits, plain_none, guarded_none, guarded_fits, unless_some, unless_bad, unless_good}

-- Without places nothing is taken.
pub step_no_places : (pick : Pick) (r : List ℕ) (a n : ℕ) → a ≡ 0 → step pick r a n ≡ None
unfolding step first
step_no_places pick r a n e = rw (e, no_places (length r - n))

-- Nor is anything past the end.
pub step_past : (pick : Pick) (r : List ℕ) (a n : ℕ) → length r ≤ n → step pick r a n ≡ None
step_past pick r a n h = go (dec_lt 0 a)
  where
    go : Dec (0 < a) → step pick r a n ≡ None
    go (yes pos) = step_end pick r a pos n h
    go (no g) = step_no_places pick r a n (omega arith)

-- What a step from n is at p: the same, and p carries the magic if it lies in the region.
pub record Searched (pick : Pick) (r : List ℕ) (a n p : ℕ) : Type 0 where
  pub same : step pick r a n ≡ step pick r a p
  pub found : p < length r → (0 < a) × (magic_at r p ≡ true)

pub searched_on : {pick : Pick} {r : List ℕ} {a n p q : ℕ} → Searched pick r a n p → Searched pick r a p q → Searched pick r a n q
searched_on h k = record { same = h.same ∙ k.same; found = k.found }

-- For what picks nothing where no magic is carried.
module _ (pick : Pick) (r : List ℕ) (a : ℕ) (no_magic : 0 < a → (p : ℕ) → magic_at r p ≡ false → pick p ≡ None) where
  module _ (pos : 0 < a) where
    -- Places without the magic are passed over.
    step_no_magic : (n : ℕ) → n < length r → magic_at r n ≡ false → step pick r a n ≡ step pick r a (n + a)
    step_no_magic n l y = step-next pick r a pos n l (no_magic pos n y)

    step_search : (b n : ℕ) → b ≤ length r → next_magic r a n b < b → step pick r a n ≡ step pick r a (next_magic r a n b)
    step_search b n h = over_no_magic r a pos (step pick r a) b (λ n l y. step_no_magic n (omega arith) y) n

    step_search_end : (n : ℕ) → step pick r a n ≡ step pick r a (next_magic r a n (length r))
    step_search_end n = no_magic_all r a pos (step pick r a) (length r) step_no_magic
        (λ n l. step_end pick r a pos n l ∙ sym (step_end pick r a pos (length r) (omega arith))) n

  -- From the number that a step begins with to the first place with the magic.
  searched_by : (n p : ℕ) → p ≡ next_magic r a n (length r) → Searched pick r a n p
  searched_by n p e = rw e (go (dec_lt 0 a))
    where
      go : Dec (0 < a) → Searched pick r a n (next_magic r a n (length r))
      go (yes pos) = record { same = step_search_end pos n; found = λ l. (pos, next_has_magic r a pos n (length r) l) }
      go (no h) =
          let z : a ≡ 0 = omega arith in
          record {
            same = step_no_places pick r a n z ∙ sym (step_no_places pick r a (next_magic r a n (length r)) z);
            found = λ l. absurd (omega (arith, l, next_none r a n (length r) z));
          }

-- A walk takes of the candidates those whose sum fits.
pub taken_summed : (g : Bool) (r : List ℕ) (a p : ℕ) (o : Option Component) → pick_skipping_sum g r a p ≡ o → pick_of g r a p ≡ summed_of (drop p r) o
unfolding plain_pick guarded_pick unless
taken_summed false r a p o e = judge_unsummed (drop p r) o e
taken_summed true r a p o e = go (judge_skipping_sum (drop p r)) refl o e
  where
    by : (c : Component) (b k : Bool) → magic_inside r a p (span_length c) ≡ b → checksum_matches (take (span_length c) (drop p r)) ≡ k → (o : Option Component)
        → cond b None (Some c) ≡ o
        → unless (λ x. magic_inside r a p (span_length x)) (cond k (Some c) None) ≡ summed_of (drop p r) o
    by c true true q f o e = rw q (subst (λ (x : Option Component). None ≡ summed_of (drop p r) x) e refl)
    by c true false q f o e = subst (λ (x : Option Component). None ≡ summed_of (drop p r) x) e refl
    by c false true q f o e = rw q (subst (λ (x : Option Component). Some c ≡ summed_of (drop p r) x) e (rw f))
    by c false false q f o e = subst (λ (x : Option Component). None ≡ summed_of (drop p r) x) e (rw f)

    go : (h : Option Component) → judge_skipping_sum (drop p r) ≡ h → (o : Option Component) → unless (λ c. magic_inside r a p (span_length c)) h ≡ o
        → unless (λ c. magic_inside r a p (span_length c)) (judge (drop p r)) ≡ summed_of (drop p r) o
    go None q o e = rw (judge_unsummed (drop p r) None q) (subst (λ (x : Option Component). None ≡ summed_of (drop p r) x) e refl)
    go (Some c) q o e =
        rw (judge_unsummed (drop p r) (Some c) q) (by c (magic_inside r a p (span_length c)) (checksum_matches (take (span_length c) (drop p r))) refl refl o e)

module _ (g : Bool) (r : List ℕ) (a : ℕ) where
  pub pick_no_magic : 0 < a → (p : ℕ) → magic_at r p ≡ false → pick_of g r a p ≡ None
  pick_no_magic pos p e = go g
    where
      go : (g : Bool) → pick_of g r a p ≡ None
      go true = guarded_none r a pos p e
      go false = plain_none r p e

  pub pick_fits : (pos : 0 < a) → Fits (pick_of g r a) r a pos
  pick_fits pos = go g
    where
      go : (g : Bool) → Fits (pick_of g r a) r a pos
      go true = guarded_fits r a pos
      go false = λ p h e. let b = plain_fits r p h e in (omega (arith, b.0), b.1)

  pub searched : (n p : ℕ) → p ≡ next_magic r a n (length r) → Searched (pick_of g r a) r a n p
  searched = searched_by (pick_of g r a) r a pick_no_magic

  -- Candidates.

  unsummed_pick_none : (p : ℕ) → judge_skipping_sum (drop p r) ≡ None → pick_skipping_sum g r a p ≡ None
  unfolding unless
  unsummed_pick_none p e = go g
    where
      go : (g : Bool) → pick_skipping_sum g r a p ≡ None
      go true = rw e
      go false = e

  unsummed_pick_no_magic : 0 < a → (p : ℕ) → magic_at r p ≡ false → pick_skipping_sum g r a p ≡ None
  unfolding magic_at
  unsummed_pick_no_magic pos p e = unsummed_pick_none p (unsummed_no_magic (drop p r) e)

  -- What is a candidate has its span in the region, and in the guarded walk no later place in it carries the magic.

  judged_unsummed : (p : ℕ) (c : Component) → pick_skipping_sum g r a p ≡ Some c → judge_skipping_sum (drop p r) ≡ Some c
  judged_unsummed p c e = go g e
    where
      go : (g : Bool) → pick_skipping_sum g r a p ≡ Some c → judge_skipping_sum (drop p r) ≡ Some c
      go true e = (unless_some (λ c. magic_inside r a p (span_length c)) (judge_skipping_sum (drop p r)) c e).0
      go false e = e

  pub unsummed_pick_fits : (p : ℕ) (c : Component) → p < length r → pick_skipping_sum g r a p ≡ Some c → (40 ≤ c.offset) × (p + span_length c ≤ length r)
  unsummed_pick_fits p c l e =
      let f = unsummed_fits_region (drop p r) c (judged_unsummed p c e) in
      let k : span_length c ≤ length r - p = rw length-drop at f.1 in
      (f.0, omega arith)

  -- Of the two, s says whether the sum is asked for.

  pub pick_for_fits : (s : Bool) (pos : 0 < a) → Fits (pick_with_sum_if s g r a) r a pos
  pick_for_fits true pos = pick_fits pos
  pick_for_fits false pos = λ p c e.
      let f = unsummed_fits_region (drop p r) c (judged_unsummed p c e) in
      let k : span_length c ≤ length r - p = rw length-drop at f.1 in
      (omega (arith, f.0), omega (arith, f.0))

  pick_for_none : (s : Bool) (p : ℕ) → pick_skipping_sum g r a p ≡ None → pick_with_sum_if s g r a p ≡ None
  pick_for_none true p e = taken_summed g r a p None e
  pick_for_none false p e = e

  pub pick_for_searched : (s : Bool) (n p : ℕ) → p ≡ next_magic r a n (length r) → Searched (pick_with_sum_if s g r a) r a n p
  pick_for_searched s = searched_by (pick_with_sum_if s g r a) r a (λ pos p e. pick_for_none s p (unsummed_pick_no_magic pos p e))

  -- At a place p with the magic: numbers that are ill formed, a header with a later magic inside its span, and one that is taken or has a wrong sum.

  module _ (s : Bool) (pos : 0 < a) (p : ℕ) (inside : p < length r) where
    passed : (q : ℕ) → pick_with_sum_if s g r a p ≡ None → q ≡ next_magic r a (p + a) (length r) → Searched (pick_with_sum_if s g r a) r a p q
    passed q j e =
        let h : Searched (pick_with_sum_if s g r a) r a (p + a) q = pick_for_searched s (p + a) q e in
        record { same = step-next (pick_with_sum_if s g r a) r a pos p inside j ∙ h.same; found = h.found }

    pub ill_formed : (q : ℕ) → judge_skipping_sum (drop p r) ≡ None → q ≡ next_magic r a (p + a) (length r) → Searched (pick_with_sum_if s g r a) r a p q
    ill_formed q j e = passed q (pick_for_none s p (unsummed_pick_none p j)) e

    module _ (c : Component) (e q : ℕ) (j : judge_skipping_sum (drop p r) ≡ Some c) (f : e ≡ p + span_length c) where
      within : p + span_length c ≤ length r
      within = let k : span_length c ≤ length r - p = rw length-drop at (unsummed_fits_region (drop p r) c j).1 in omega arith

      pub has_magic_inside : q ≡ cond g (next_magic r a (p + a) e) e → q < e → Searched (pick_with_sum_if s g r a) r a p q
      has_magic_inside k l = go g refl k
        where
          go : (b : Bool) → g ≡ b → q ≡ cond b (next_magic r a (p + a) e) e → Searched (pick_with_sum_if s g r a) r a p q
          go false z k' = absurd (omega (arith, k'))
          go true z k' =
              let m : next_magic r a (p + a) e < e = omega (arith, k') in
              let b : magic_inside r a p (span_length c) ≡ true = inside_by_search r a pos p (span_length c) ∙ rw (← f) (lt-ltb _ _ m) in
              rw k' (record {
                same = step-next (pick_with_sum_if s g r a) r a pos p inside (pick_for_none s p (rw z (bad b)))
                    ∙ step_search (pick_with_sum_if s g r a) r a (λ pos p e. pick_for_none s p (unsummed_pick_no_magic pos p e)) pos e (p + a)
                    (omega (arith, within)) m;
                found = λ _. (pos, next_has_magic r a pos (p + a) e m);
              })
            where
              bad : magic_inside r a p (span_length c) ≡ true → pick_skipping_sum true r a p ≡ None
              bad b = unless_bad (λ c. magic_inside r a p (span_length c)) c (judge_skipping_sum (drop p r)) j b

      -- No later magic in its span: it is a candidate.
      unsummed_pick_there : q ≡ cond g (next_magic r a (p + a) e) e → e ≤ q → pick_skipping_sum g r a p ≡ Some c
      unsummed_pick_there k l = go g k
        where
          go : (b : Bool) → q ≡ cond b (next_magic r a (p + a) e) e → pick_skipping_sum b r a p ≡ Some c
          go false k' = j
          go true k' =
              let m : e ≤ next_magic r a (p + a) e = omega (arith, k') in
              unless_good (λ c. magic_inside r a p (span_length c)) c (judge_skipping_sum (drop p r)) j
              (inside_by_search r a pos p (span_length c) ∙ rw (← f) (le-ltb _ _ m))

      -- What is asked of its sum.
      abbrev asked : Bool
      asked = cond s (checksum_matches (take (span_length c) (drop p r))) true

      pub takes : q ≡ cond g (next_magic r a (p + a) e) e → e ≤ q → asked ≡ true
          → step (pick_with_sum_if s g r a) r a p ≡ Some (record { place = p; component = c })
      takes k l t = step_here (pick_with_sum_if s g r a) r a pos p c inside (go s t)
        where
          go : (b : Bool) → cond b (checksum_matches (take (span_length c) (drop p r))) true ≡ true → pick_with_sum_if b g r a p ≡ Some c
          go true t' = taken_summed g r a p (Some c) (unsummed_pick_there k l) ∙ rw t'
          go false t' = unsummed_pick_there k l

      pub wrongs : q ≡ cond g (next_magic r a (p + a) e) e → e ≤ q → asked ≡ false → (x : ℕ) → x ≡ next_magic r a (p + a) (length r)
          → Searched (pick_with_sum_if s g r a) r a p x
      wrongs k l t x y = passed x (go s t) y
        where
          go : (b : Bool) → cond b (checksum_matches (take (span_length c) (drop p r))) true ≡ false → pick_with_sum_if b g r a p ≡ None
          go true t' = taken_summed g r a p (Some c) (unsummed_pick_there k l) ∙ rw t'
          go false t' = absurd (true≢false t')

-- What the judge of the numbers answered on all bytes from p on, where the magic stands.
pub unsummed_said : (r : List ℕ) (p : ℕ) {j : Option Header} → magic_at r p ≡ true → j ≡ judged (judge_numbers (take (length r - p) (drop p r)))
    → judged (judge_skipping_sum (drop p r)) ≡ j
unfolding magic_at
unsummed_said r p m e = ap judged (unsummed_numbers (drop p r) m) ∙ sym (rw rest at e)

-- And what the sum of the span leaves of it.

pub summed_said : (r : List ℕ) (p : ℕ) (h : Header) (b : Bool) → magic_at r p ≡ true → judged (judge_skipping_sum (drop p r)) ≡ Some h
    → checksum_matches (take (p + (h.offset + h.len) - p) (drop p r)) ≡ b → judged (judge (drop p r)) ≡ cond b (Some h) None
unfolding magic_at
summed_said r p h b m s k =
    let z : p + (h.offset + h.len) - p ≡ h.offset + h.len = omega arith in
    ap judged (judge_fields (drop p r) m) ∙ header_summed (drop p r) h b (ap judged (sym (unsummed_numbers (drop p r) m)) ∙ s) (rw z at k)

pub ill_said : (r : List ℕ) (p : ℕ) → judged (judge_skipping_sum (drop p r)) ≡ None → judged (judge (drop p r)) ≡ None
ill_said r p s = ap judged (judge_unsummed (drop p r) None (judged_none (judge_skipping_sum (drop p r)) s))

pub header_fits : (r : List ℕ) (p : ℕ) (h : Header) → judged (judge (drop p r)) ≡ Some h → (0 < h.offset) × (p + (h.offset + h.len) ≤ length r)
unfolding plain_pick
header_fits r p h s = let (c, j, e) = judged_some (judge (drop p r)) h s in go c j e
  where
    go : (c : Component) → judge (drop p r) ≡ Some c → header_of c ≡ h → (0 < h.offset) × (p + (h.offset + h.len) ≤ length r)
    go c j e =
        subst (λ (x : Header). (0 < x.offset) × (p + (x.offset + x.len) ≤ length r)) e (omega (arith, (judge-fits (drop p r) c j).0), (plain_fits r p c j).1)

pub unsummed_header_fits : (r : List ℕ) (p : ℕ) (h : Header) → p < length r → judged (judge_skipping_sum (drop p r)) ≡ Some h
    → (40 ≤ h.offset) × (p + (h.offset + h.len) ≤ length r)
unsummed_header_fits r p h l s = let (c, j, e) = judged_some (judge_skipping_sum (drop p r)) h s in
    subst (λ (x : Header). (40 ≤ x.offset) × (p + (x.offset + x.len) ≤ length r)) e (unsummed_pick_fits false r 0 p c l j)

-- The same as above by the header h: its span goes up to e.
module _ (g s : Bool) (r : List ℕ) (a n p : ℕ) (inv : Searched (pick_with_sum_if s g r a) r a n p) (inside : p < length r) (h : Header)
    (said : judged (judge_skipping_sum (drop p r)) ≡ Some h)
    (q : ℕ) (guard : q ≡ cond g (next_magic r a (p + a) (p + (h.offset + h.len))) (p + (h.offset + h.len))) where
  abbrev e : ℕ
  e = p + (h.offset + h.len)

  ends : (c : Component) → header_of c ≡ h → e ≡ p + span_length c
  ends c k = ap (λ (x : Header). p + (x.offset + x.len)) (sym k)

  pub went : q < e → Searched (pick_with_sum_if s g r a) r a n q
  went l = let (c, j, k) = judged_some (judge_skipping_sum (drop p r)) h said in go c j k
    where
      go : (c : Component) → judge_skipping_sum (drop p r) ≡ Some c → header_of c ≡ h → Searched (pick_with_sum_if s g r a) r a n q
      go c j k = searched_on inv (has_magic_inside g r a s (inv.found inside).0 p inside c e q j (ends c k) guard l)

  -- What was asked of the sum of the bytes from p to e.

  abbrev asked_to : Bool → Type 0
  asked_to b = cond s (checksum_matches (take (e - p) (drop p r))) true ≡ b

  same_asked : (c : Component) → header_of c ≡ h → (b : Bool) → asked_to b → cond s (checksum_matches (take (span_length c) (drop p r))) true ≡ b
  same_asked c k b t =
      let z : e - p ≡ h.offset + h.len = omega arith in
      subst (λ (x : Header). cond s (checksum_matches (take (x.offset + x.len) (drop p r))) true ≡ b) (sym k) (rw z at t)

  pub took : asked_to true → (x : ℕ) → e ≤ q → x ≡ next_place r a e
      → Some (record { place = p; header = h; next = x }) ≡ step_answer r a (step (pick_with_sum_if s g r a) r a n)
  took t x l o = let (c, j, k) = judged_some (judge_skipping_sum (drop p r)) h said in go c j k
    where
      go : (c : Component) → judge_skipping_sum (drop p r) ≡ Some c → header_of c ≡ h
          → Some (record { place = p; header = h; next = x }) ≡ step_answer r a (step (pick_with_sum_if s g r a) r a n)
      go c j k =
          let y = inv.same ∙ takes g r a s (inv.found inside).0 p inside c e q j (ends c k) guard l (same_asked c k true t) in
          rw (y, o, ends c k, ← k)

  pub wrong : asked_to false → e ≤ q → (x : ℕ) → x ≡ next_magic r a (p + a) (length r) → Searched (pick_with_sum_if s g r a) r a n x
  wrong t l x y = let (c, j, k) = judged_some (judge_skipping_sum (drop p r)) h said in go c j k
    where
      go : (c : Component) → judge_skipping_sum (drop p r) ≡ Some c → header_of c ≡ h → Searched (pick_with_sum_if s g r a) r a n x
      go c j k = searched_on inv (wrongs g r a s (inv.found inside).0 p inside c e q j (ends c k) guard l (same_asked c k false t) x y)

-- The guard goes on behind p.
pub guard_above : (g : Bool) (r : List ℕ) (a p e : ℕ) {q : ℕ} → 0 < a → q ≡ cond g (next_magic r a (p + a) e) e → p < e → p < q
guard_above true r a p e pos k l = omega (arith, k, next_above r a pos p (p + a) e l (omega arith))
guard_above false r a p e pos k l = omega (arith, k)

-- Where the guard found nothing.
pub guard_end : (g : Bool) {x e : ℕ} → g ≡ true → e ≤ cond g x e → e ≤ x
guard_end true k l = l
guard_end false k l = absurd (true≢false (sym k))

-- Of two picks, where the second takes nothing that the first does not find: it is looked for from where the first one finds something.
module _ (f t : Pick) (r : List ℕ) (a : ℕ) (fewer : (p : ℕ) → f p ≡ None → t p ≡ None) where
  first_none_too : (j n : ℕ) → first f a j n ≡ None → first t a j n ≡ None
  unfolding first or_else
  first_none_too zero n e = refl
  first_none_too (suc j) n e = go (f n) refl e (first_none_too j (n + a))
    where
      go : (o : Option Component) → f n ≡ o → or_else n o (first f a j (n + a)) ≡ None → (first f a j (n + a) ≡ None → first t a j (n + a) ≡ None)
          → or_else n (t n) (first t a j (n + a)) ≡ None
      go None q e ih = rw (fewer n q) (ih e)
      go (Some c) q e ih = absurd (none-some _ (sym e))

  step_none_too : (n : ℕ) → step f r a n ≡ None → step t r a n ≡ None
  unfolding step
  step_none_too n e = first_none_too (place_count_below a (length r - n)) n e

  first_from : 0 < a → (j n : ℕ) (e : Entry) → place_count_below a (length r - n) ≡ j → first f a j n ≡ Some e → step t r a n ≡ step t r a e.place
  unfolding first or_else
  first_from pos zero n e c q = absurd (none-some e q)
  first_from pos (suc j) n e c q = go (f n) refl q (first_from pos j (n + a) e (omega (arith, below_next a pos (length r) n inside)))
    where
      inside : n < length r
      inside = below_pos a pos (length r) n j c

      go : (o : Option Component) → f n ≡ o → or_else n o (first f a j (n + a)) ≡ Some e
          → (first f a j (n + a) ≡ Some e → step t r a (n + a) ≡ step t r a e.place)
          → step t r a n ≡ step t r a e.place
      go None y q ih = step-next t r a pos n inside (fewer n y) ∙ ih q
      go (Some c) y q ih = ap (step t r a) (ap (λ (x : Entry). x.place) (same_Some _ _ q))

  step_from : 0 < a → (n : ℕ) (e : Entry) → step f r a n ≡ Some e → step t r a n ≡ step t r a e.place
  unfolding step
  step_from pos n e q = first_from pos (place_count_below a (length r - n)) n e refl q

-- A step of the guarded walk, by the candidate that it finds first.
module _ (r : List ℕ) (a n : ℕ) where
  fewer : (p : ℕ) → pick_skipping_sum true r a p ≡ None → guarded_pick r a p ≡ None
  fewer p e = taken_summed true r a p None e

  pub none_left : step (pick_skipping_sum true r a) r a n ≡ None → step (guarded_pick r a) r a n ≡ None
  none_left e = step_none_too (pick_skipping_sum true r a) (guarded_pick r a) r a fewer n e

  module _ (t : Entry) (e : step (pick_skipping_sum true r a) r a n ≡ Some t) where
    pub places : 0 < a
    places = go (dec_lt 0 a)
      where
        go : Dec (0 < a) → 0 < a
        go (yes pos) = pos
        go (no h) = absurd (none-some t (sym (step_no_places (pick_skipping_sum true r a) r a n (omega arith)) ∙ e))

    pub found_first : First (pick_skipping_sum true r a) r a places n t
    found_first = step_some (pick_skipping_sum true r a) r a places n t e

    pub found_fits : (40 ≤ t.component.offset) × (entry_end t ≤ length r) × (n ≤ t.place) × (t.place < length r)
    found_fits =
        let f = found_first in
        let b = unsummed_pick_fits true r a t.place t.component f.inside f.taken in
        (b.0, b.1, omega (arith, f.at), f.inside)

    here : step (guarded_pick r a) r a n ≡ step (guarded_pick r a) r a t.place
    here = step_from (pick_skipping_sum true r a) (guarded_pick r a) r a fewer places n t e

    pub sum_right : checksum_matches (take (span_length t.component) (drop t.place r)) ≡ true → step (guarded_pick r a) r a n ≡ Some t
    sum_right k = here ∙ step_here (guarded_pick r a) r a places t.place t.component found_first.inside
        (taken_summed true r a t.place (Some t.component) found_first.taken ∙ rw k)

    -- A wrong sum: no place inside the span is looked at again. What is not below the region's end is its end.
    pub sum_wrong : checksum_matches (take (span_length t.component) (drop t.place r)) ≡ false
        → step (guarded_pick r a) r a n ≡ step (guarded_pick r a) r a (t.place + min (place_count_below a (entry_end t - t.place) * a) (length r - t.place))
    sum_wrong k =
        let h = unless_some (λ c. magic_inside r a t.place (span_length c)) (judge_skipping_sum (drop t.place r)) t.component found_first.taken in
        let q : entry_end t ≤ next_magic r a (t.place + a) (entry_end t) =
        ltb-false _ _ (sym (inside_by_search r a places t.place (span_length t.component)) ∙ h.1) in
        let b = found_fits in
        here
        ∙ step-next (guarded_pick r a) r a places t.place found_first.inside
        (taken_summed true r a t.place (Some t.component) found_first.taken ∙ rw k)
        ∙ next (t.place + a)
        ∙ ap (step (guarded_pick r a) r a) (behind r a places t.place (entry_end t) (length r) _ (omega (arith, b.0)) b.1 q refl)
        ∙ sym (next _)
      where
        next : (m : ℕ) → step (guarded_pick r a) r a m ≡ step (guarded_pick r a) r a (next_magic r a m (length r))
        next m = (searched true r a m (next_magic r a m (length r)) refl).same

-- For `search`: the loop of a step goes on.

pub further : (pick : Pick) (r : List ℕ) (a n p : ℕ) → Searched pick r a n p → p < length r → p < next_magic r a (p + a) (length r)
further pick r a n p s l = let pos = (s.found l).0 in next_above r a pos p (p + a) (length r) l (omega (arith, pos))

pub guard_further : (pick : Pick) (g : Bool) (r : List ℕ) (a n p e : ℕ) → Searched pick r a n p → p < length r → p < e
    → p < cond g (next_magic r a (p + a) e) e
guard_further pick g r a n p e s l k = guard_above g r a p e (s.found l).0 refl k

pub ruleset stepping = (further, guard_further, unsummed_said, unsummed_header_fits, ill_formed, searched_on, judged_none, step_past)

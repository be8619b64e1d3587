-- The strict check's conditions in the paper's words: the lowest untaken place, and two names that are equal (document 01, refusals 12 and 11).
use Prim.Native.Nat.{ℕ, zero, suc, ◌+◌, ◌*◌, ◌≤◌, ◌<◌}
use native.Mathlib.Omega.{arith}
use native.Mathlib.Decide.{dec_lt}
use mathlib.Core.Path.{◌≡◌, refl, sym, ap, ◌∙◌}
use mathlib.Core.List.Memᴰ
use mathlib.Core.List.{List, [], ◌∷◌, ◌++◌, Memᴰ, nil≢cons, head-eq_of_cons-eq}
use mathlib.Core.Logic.{◌↔◌, ◌⊎◌, inl, inr}
use mathlib.Core.Bool.{Bool, true, false, cond, not, ◌&&◌, ◌||◌, true≢false, false≢true, and-false}
use lib.ListN.{length}
use borrow.Author.Tests.{not-true}
use Rattle.bytes_read.specs.Lists.{any, filter, no_two}
use Rattle.walk.specs.Walk.{Entry, place_count_below, places, all_places, magic_at, plain_listing, Place}
use Rattle.walk_lookup.specs.Lookup.{bears, TwoSameName}
use Rattle.walk.proofs.Places.{no_places, mem_places}
use Rattle.walk_lookup.proofs.Bearers.{bears_name_lem, name_bears}
use Rattle.walk.proofs.Picks.{magic-fits}
use Rattle.strict_rules.specs.Strict.{lists_place, is_untaken, untaken_places, distinct_names, LowestUntaken}
use Rattle.bytes_read.proofs.Tested.{both_true, mem_any, filter_empty}
use Rattle.strict_rules.proofs.Picked.{listed_place, place_listed}
use Rattle.strict_rules.proofs.Untaken.{untaken_true}

-- The first that is kept of a row of places.
filtered_first : (f : ℕ → Bool) (a k n : ℕ) (p : ℕ) (ps : List ℕ) → filter f (places a k n) ≡ p ∷ ps
    → Memᴰ p (places a k n) × (f p ≡ true) × ((q : ℕ) → Memᴰ q (places a k n) → f q ≡ true → p ≤ q)
unfolding filter places
filtered_first f a zero n p ps e = absurd (nil≢cons e)
filtered_first f a (suc k) n p ps e = go (f n) refl e (filtered_first f a k (n + a) p ps)
  where
    Goal : Type 0
    Goal = Memᴰ p (n ∷ places a k (n + a)) × (f p ≡ true) × ((q : ℕ) → Memᴰ q (n ∷ places a k (n + a)) → f q ≡ true → p ≤ q)

    after : (q : ℕ) → (i : ℕ) × (i < suc k) × (q ≡ n + i * a) → n ≤ q
    after q (i, l, h) = omega arith

    go : (b : Bool) → f n ≡ b → cond b (n ∷ filter f (places a k (n + a))) (filter f (places a k (n + a))) ≡ p ∷ ps
        → (filter f (places a k (n + a)) ≡ p ∷ ps → Memᴰ p (places a k (n + a)) × (f p ≡ true)
        × ((q : ℕ) → Memᴰ q (places a k (n + a)) → f q ≡ true → p ≤ q)) → Goal
    go true y e' ih =
        let h : n ≡ p = head-eq_of_cons-eq e' in
        (Memᴰ.head (sym h), rw (← h) y, λ q m _. omega (arith, h, after q (mem_places a (suc k) n q m)))
    go false y e' ih = let i = ih e' in (Memᴰ.tail i.0, i.1, λ q m z. by q z (Memᴰ.cases_cons m) (i.2 q))
      where
        by : (q : ℕ) → f q ≡ true → (q ≡ n) ⊎ Memᴰ q (places a k (n + a)) → (Memᴰ q (places a k (n + a)) → f q ≡ true → p ≤ q) → p ≤ q
        by q z (inl h) j = absurd (true≢false (sym z ∙ rw h y))
        by q z (inr m) j = j m z

pub none_untaken : (r : List ℕ) (a : ℕ) → a ≡ 0 → untaken_places r a ≡ []
unfolding untaken_places places filter
none_untaken r a z = rw (z, no_places (length r))

module _ (r : List ℕ) (a : ℕ) where
  listed : 0 < a → (q : ℕ) → Place a q → magic_at r q ≡ true → Memᴰ q (all_places r a)
  listed pos q pl c = place_listed r a pos q pl (omega (arith, magic-fits r q c))

  first_lowest : (p : ℕ) (ps : List ℕ) → untaken_places r a ≡ p ∷ ps → LowestUntaken r a p
  unfolding untaken_places is_untaken
  first_lowest p ps e = go (dec_lt 0 a) (filtered_first (is_untaken r (plain_listing r a)) a (place_count_below a (length r)) 0 p ps e)
    where
      go : Dec (0 < a) → Memᴰ p (all_places r a) × (is_untaken r (plain_listing r a) p ≡ true)
          × ((q : ℕ) → Memᴰ q (all_places r a) → is_untaken r (plain_listing r a) q ≡ true → p ≤ q) → LowestUntaken r a p
      go (no n) f = absurd (nil≢cons (sym (none_untaken r a (omega arith)) ∙ e))
      go (yes pos) f = let b = both_true (magic_at r p) (not (lists_place (plain_listing r a) p)) f.1 in record {
        pos = pos;
        at = (listed_place r a pos p f.0).0;
        magic = b.0;
        untaken = not-true (lists_place (plain_listing r a) p) b.1;
        least = λ q pl c u. f.2 q (listed pos q pl c) (untaken_true r (plain_listing r a) q c u);
      }

  -- The first of the untaken places is the lowest, and the lowest the first.
  pub lowest_first : (p : ℕ) → ((ps : List ℕ) × (untaken_places r a ≡ p ∷ ps)) ↔ LowestUntaken r a p
  lowest_first p = ((λ s. first_lowest p s.0 s.1), λ s. go s (untaken_places r a) refl)
    where
      go : LowestUntaken r a p → (l : List ℕ) → untaken_places r a ≡ l → (ps : List ℕ) × (untaken_places r a ≡ p ∷ ps)
      go s [] e =
          absurd (true≢false (sym (untaken_true r (plain_listing r a) p s.magic s.untaken)
          ∙ filter_empty (is_untaken r (plain_listing r a)) (all_places r a) (unfold untaken_places in e) p (listed s.pos p s.at s.magic)))
      go s (q ∷ qs) e =
          let t = first_lowest q qs e in
          let h : q ≡ p = omega (arith, t.least p s.at s.magic s.untaken, s.least q t.at t.magic t.untaken) in
          (qs, rw h at e)

any_split : (f : Entry → Bool) (l : List Entry) → any f l ≡ true
    → (before : List Entry) × (x : Entry) × (after : List Entry) × (l ≡ before ++ (x ∷ after)) × (f x ≡ true)
any_split f [] e = absurd (false≢true e)
any_split f (y ∷ ys) e = go (f y) refl e (any_split f ys)
  where
    Goal : Type 0
    Goal = (before : List Entry) × (x : Entry) × (after : List Entry) × (y ∷ ys ≡ before ++ (x ∷ after)) × (f x ≡ true)

    go : (b : Bool) → f y ≡ b → b || any f ys ≡ true
        → (any f ys ≡ true → (before : List Entry) × (x : Entry) × (after : List Entry) × (ys ≡ before ++ (x ∷ after)) × (f x ≡ true)) → Goal
    go true q e' ih = ([], y, ys, refl, q)
    go false q e' ih = let (b, x, c, s, p) = ih e' in (y ∷ b, x, c, ap (λ (l : List Entry). y ∷ l) s, p)

distinct_or_same : (l : List Entry) → distinct_names l ≡ false → TwoSameName l
unfolding no_two
distinct_or_same [] e = absurd (true≢false e)
distinct_or_same (t ∷ ts) e = go (any (bears t.component.name) ts) refl e (distinct_or_same ts)
  where
    go : (b : Bool) → any (bears t.component.name) ts ≡ b → not b && distinct_names ts ≡ false → (distinct_names ts ≡ false → TwoSameName ts)
        → TwoSameName (t ∷ ts)
    go true q e' ih = let (b, x, c, s, p) = any_split (bears t.component.name) ts q in
        record {
          before = [];
          one = t;
          between = b;
          other = x;
          after = c;
          split = ap (λ (l : List Entry). t ∷ l) s;
          same = sym (bears_name_lem t.component.name x p);
        }
    go false q e' ih = let k = ih e' in
        record {
          before = t ∷ k.before;
          one = k.one;
          between = k.between;
          other = k.other;
          after = k.after;
          split = ap (λ (l : List Entry). t ∷ l) k.split;
          same = k.same;
        }

same_or_distinct : (before : List Entry) (t : Entry) (between : List Entry) (u : Entry) (after : List Entry) → t.component.name ≡ u.component.name
    → distinct_names (before ++ (t ∷ (between ++ (u ∷ after)))) ≡ false
unfolding no_two
same_or_distinct [] t between u after e = rw (any_append between)
  where
    any_append : (l : List Entry) → any (bears t.component.name) (l ++ (u ∷ after)) ≡ true
    any_append l = mem_any (bears t.component.name) (l ++ (u ∷ after)) u (there l) (name_bears t.component.name u (sym e))
      where
        there : (l : List Entry) → Memᴰ u (l ++ (u ∷ after))
        there [] = Memᴰ.head refl
        there (x ∷ xs) = Memᴰ.tail (there xs)
same_or_distinct (x ∷ before) t between u after e =
    rw (same_or_distinct before t between u after e) (and-false (not (any (bears x.component.name) (before ++ (t ∷ (between ++ (u ∷ after)))))))

-- The names are distinct by the check exactly if no two are equal.
pub same_name_exactly : (l : List Entry) → (distinct_names l ≡ false) ↔ TwoSameName l
same_name_exactly l =
    (distinct_or_same l, λ k. ap distinct_names k.split ∙ same_or_distinct k.before k.one k.between k.other k.after k.same)

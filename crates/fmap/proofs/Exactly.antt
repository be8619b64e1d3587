-- Refusals 1 and 27 to 37 are given exactly when document 01's table says, and a map that is read has what document 01 says.
use Prim.Native.Nat.{ℕ, zero, suc, ◌+◌, ◌*◌, ◌-◌, ◌≤◌, ◌<◌}
use native.Mathlib.Omega.{arith}
use mathlib.Core.Path.{◌≡◌, refl, sym, ap, subst, ◌∙◌}
use mathlib.Core.Logic.{◌⊎◌, inl, inr, ◌↔◌}
use mathlib.Core.Bool.{Bool, true, false, cond, not, ◌&&◌, true≢false}
use mathlib.Core.List.Memᴰ
use mathlib.Core.List.{List, [], ◌∷◌, ◌++◌}
use lib.ListN.{length, take, drop, get_or, replicate, length-append, length-replicate, get_or-append, get_or-replicate}
use lib.Seq.{get_or-append-add}
use lib.Dec.{eqb}
use borrow.Author.Tests.{leb-true, eqb-true, eqb-false}
use Rattle.std.proofs.Common.{Ok, Err}
use Rattle.bytes_read.specs.Lists.{any, no_two, padded}
use Rattle.bytes_read.proofs.Tested.{any_some, any_false, nth_mem, two_none}
use Rattle.region.specs.Refusals.{Test, test, first_failed, length_fits}
use Rattle.region.specs.Region.{refusal_by, unless_refused}
use Rattle.region.specs.Table.{Row, FirstRowMet}
use Rattle.region.proofs.Orders.{numbered, all_passed, first_here, first_later}
use Rattle.region.proofs.Tables.{Fails, Renders, no_more, both_render, exactly, later_row, other_fails, said, last_fails, either, one_fails, given_exactly}
use Rattle.region.proofs.Tables.{given_here, given_later, nonzero}
use Rattle.cbfs_types.specs.declared.Area.{Area}
use Rattle.cbfs_types.specs.declared.FlashMap.{FlashMap}
use Rattle.cbfs_types.specs.declared.Refusal.{Refusal}
use Rattle.fmap_area.specs.Area.{area_at, unused_area, same_name, cross, contains_map, area_tests}
use Rattle.fmap_area.specs.Table.{AreaNamed, area_rows, SameName, Cross}
use Rattle.fmap_area.proofs.Exactly.{fit_named, area_renders, same_name_lem, crosses, contains-map}
use Rattle.fmap_signature.specs.Signatures.{signatures}
use Rattle.fmap_signature.specs.Table.{SignatureAt}
use Rattle.fmap_signature.proofs.Exactly.{listed, none_exactly, several_exactly}
use Rattle.fmap.specs.Fmap.{areas_at, areas_of, count_fits, signature_tests, map_header_tests, each_area_tests, all_areas_tests, map_tests, fmap_tests, map_of}
use Rattle.fmap.specs.Fmap.{fmap_by, fmap, map_place, refusal_number}
use Rattle.fmap.specs.Table.{MapPlace, L, size, nareas, area, each_area_rows, TwoAreas, MapContained, all_areas_rows, map_rows, ReadsMap}
use Rattle.fmap.proofs.Counting.{areas_length}
use Rattle.fmap.proofs.Reading.{each_area_numbered, header_passed}
use Rattle.fmap.proofs.Accepting.{singleton, each_area, accepted}
use Rattle.fmap.proofs.Theorems.{refusal_zero}

-- An order in two parts, of which the second counts where the first refuses nothing.
in_parts : (ts us : List Test) (xs ys : List Row) → Renders ts xs → numbered ts ≡ true → nonzero xs ≡ true
    → (first_failed ts ≡ 0 → FirstRowMet ys (first_failed us))
    → FirstRowMet (xs ++ ys) (first_failed (ts ++ us))
in_parts ts us xs ys r m z f = go (eqb (first_failed ts) 0) refl
  where
    go : (b : Bool) → eqb (first_failed ts) 0 ≡ b → FirstRowMet (xs ++ ys) (first_failed (ts ++ us))
    go true q =
        let e = eqb-true _ _ q in
        subst (FirstRowMet (xs ++ ys)) (sym (first_later ts us m e)) (given_later xs ys (first_failed us) z ((exactly r 0).0 e) (f e))
    go false q =
        let n = eqb-false _ _ q in
        subst (FirstRowMet (xs ++ ys)) (sym (first_here ts us n)) (given_here xs ys (first_failed ts) n ((exactly r (first_failed ts)).0 refl))

joined : {ts us : List Test} {xs ys : List Row} → Renders ts xs → Renders us ys → Renders (ts ++ us) (xs ++ ys)
joined no_more s = s
joined (both_render f r) s = both_render f (joined r s)

-- Tests on some element and on two of a list, by the indices.

module _ {A : Type 0} (d : A) where
  two_some : (t : A → A → Bool) (l : List A) → no_two t l ≡ false → (j : ℕ) × (k : ℕ) × (j < k) × (k < length l) × (t (get_or l j d) (get_or l k d) ≡ true)
  unfolding no_two
  two_some t [] e = absurd (true≢false e)
  two_some t (x ∷ l) e = go (any (t x) l) refl e (two_some t l)
    where
      go : (b : Bool) → any (t x) l ≡ b → not b && no_two t l ≡ false
          → (no_two t l ≡ false → (j : ℕ) × (k : ℕ) × (j < k) × (k < length l) × (t (get_or l j d) (get_or l k d) ≡ true))
          → (j : ℕ) × (k : ℕ) × (j < k) × (k < suc (length l)) × (t (get_or (x ∷ l) j d) (get_or (x ∷ l) k d) ≡ true)
      go true q f ih = let (k, h, y) = any_some d (t x) l q in (0, suc k, omega arith, omega arith, y)
      go false q f ih = let (j, k, g, h, y) = ih f in (suc j, suc k, omega arith, omega arith, y)

  two_fails : (t : A → A → Bool) (l : List A) → Fails (no_two t l) ((j : ℕ) × (k : ℕ) × (j < k) × (k < length l) × (t (get_or l j d) (get_or l k d) ≡ true))
  two_fails t l = (two_some t l, λ x. go (no_two t l) refl x)
    where
      go : (b : Bool) → no_two t l ≡ b → (j : ℕ) × (k : ℕ) × (j < k) × (k < length l) × (t (get_or l j d) (get_or l k d) ≡ true) → b ≡ false
      go true q (j, k, g, h, y) = absurd (true≢false (sym y ∙ two_none d t l q j k g h))
      go false q x = refl

  any_fails : (f : A → Bool) (l : List A) → Fails (any f l) (((k : ℕ) × (k < length l) × (f (get_or l k d) ≡ true)) → ⊥)
  any_fails f l = (λ e (k, h, y). true≢false (sym y ∙ any_false f l e (get_or l k d) (nth_mem d l k h)), λ n. go (any f l) refl n)
    where
      go : (b : Bool) → any f l ≡ b → (((k : ℕ) × (k < length l) × (f (get_or l k d) ≡ true)) → ⊥) → b ≡ false
      go true q n = absurd (n (any_some d f l q))
      go false q n = refl

-- The k-th of n areas, the first of which stands at p.
nth_area : (i : List ℕ) (n p k : ℕ) (d : Area) → k < n → get_or (areas_at i n p) k d ≡ area_at i (p + 42 * k)
unfolding areas_at
nth_area i zero p k d h = absurd (omega arith)
nth_area i (suc n) p zero d h = let e : p ≡ p + 42 * 0 = omega arith in ap (area_at i) e
nth_area i (suc n) p (suc k) d h = let e : p + 42 + 42 * k ≡ p + 42 * suc k = omega arith in nth_area i n (p + 42) k d (omega arith) ∙ ap (area_at i) e

module _ (i : List ℕ) (p : ℕ) where
  -- 1, 27 and 28.
  signature_renders : Renders (test 1 (length_fits i) ∷ signature_tests (signatures i)) (take 3 (map_rows i p))
  unfolding length_fits signature_tests
  signature_renders =
      both_render (one_fails (either (later_row _ _) (last_fails (later_row _ _))))
      (both_render (said (later_row _ _) (none_exactly i).0 (none_exactly i).1)
      (both_render (said (later_row _ _) (several_exactly i).0 (several_exactly i).1)
      no_more))

  -- 29 to 32.
  header_renders : Renders (map_header_tests i p (L i)) (take 4 (drop 3 (map_rows i p)))
  unfolding map_header_tests count_fits
  header_renders =
      both_render (said (later_row _ _) (λ h. inr h) past)
      (both_render (other_fails _ _)
      (both_render (other_fails _ _)
      (both_render (one_fails (either (said (later_row 1 (nareas i p)) none one) (last_fails (later_row (nareas i p) 256))))
      no_more)))
    where
      past : (L i < p + 56) ⊎ (L i < p + 56 + 42 * nareas i p) → L i < p + 56 + 42 * nareas i p
      past (inl h) = omega arith
      past (inr h) = h

      none : nareas i p < 1 → nareas i p ≡ 0
      none h = omega arith

      one : nareas i p ≡ 0 → nareas i p < 1
      one e = omega arith

  -- 33 and 35 of n areas, from the k-th on, which stands at q.
  each_area_renders : (n k q : ℕ) → q ≡ area i p k → Renders (each_area_tests i (size i p) (areas_at i n q)) (each_area_rows i p n k)
  unfolding each_area_tests areas_at
  each_area_renders zero k q e = no_more
  each_area_renders (suc n) k q e =
      let r = area_renders i (size i p) (area i p k) in
      joined (subst (λ (x : ℕ). Renders (area_tests i (size i p) (area_at i x)) (area_rows i (size i p) (area i p k))) (sym e) r)
      (each_area_renders n (suc k) (q + 42) (omega arith))

  each_area_nonzero : (n k : ℕ) → nonzero (each_area_rows i p n k) ≡ true
  each_area_nonzero zero k = refl
  each_area_nonzero (suc n) k = each_area_nonzero n (suc k)

  -- 34, 36 and 37, of areas whose names are fit.

  count : length (areas_of i p) ≡ nareas i p
  count = areas_length i (nareas i p) (p + 56)

  pairs : (t : Area → Area → Bool) (R : ℕ → ℕ → Type 0)
      → ((j k : ℕ) → j < nareas i p → k < nareas i p → (t (area_at i (area i p j)) (area_at i (area i p k)) ≡ true) ↔ R (area i p j) (area i p k))
      → Fails (no_two t (areas_of i p)) (TwoAreas i p R)
  pairs t R f = said (two_fails unused_area t (areas_of i p)) there back
    where
      there : (j : ℕ) × (k : ℕ) × (j < k) × (k < length (areas_of i p)) × (t (get_or (areas_of i p) j unused_area) (get_or (areas_of i p) k unused_area) ≡ true)
          → TwoAreas i p R
      there (j, k, g, h, y) =
          let l : k < nareas i p = omega (arith, count) in
          let m : j < nareas i p = omega arith in
          (j, k, g, l, (f j k m l).0 (rw (nth_area i (nareas i p) (p + 56) j unused_area m, nth_area i (nareas i p) (p + 56) k unused_area l) at y))

      back : TwoAreas i p R → (j : ℕ) × (k : ℕ) × (j < k) × (k < length (areas_of i p))
          × (t (get_or (areas_of i p) j unused_area) (get_or (areas_of i p) k unused_area) ≡ true)
      back (j, k, g, l, r) =
          let m : j < nareas i p = omega arith in (
            j,
            k,
            g,
            omega (arith, count),
            rw (nth_area i (nareas i p) (p + 56) j unused_area m, nth_area i (nareas i p) (p + 56) k unused_area l)
                ((f j k m l).1 r),
          )

  -- Where the map ends.
  abbrev map_end_lem : ℕ
  map_end_lem = area i p (nareas i p)

  Counted : Type 0
  Counted = (k : ℕ) × (k < length (areas_of i p)) × (contains_map i p map_end_lem (get_or (areas_of i p) k unused_area) ≡ true)

  map-area : Fails (any (contains_map i p map_end_lem) (areas_of i p)) (MapContained i p → ⊥)
  unfolding Counted
  map-area = said (any_fails unused_area (contains_map i p map_end_lem) (areas_of i p)) there back
    where
      there : (Counted → ⊥) → MapContained i p → ⊥
      there n (k, h, x) =
          n (k, omega (arith, count), rw (nth_area i (nareas i p) (p + 56) k unused_area h) ((contains-map i p map_end_lem (area i p k) (omega arith)).1 x))

      back : (MapContained i p → ⊥) → Counted → ⊥
      back n (k, h, y) =
          let l : k < nareas i p = omega (arith, count) in
          n (k, l, (contains-map i p map_end_lem (area i p k) (omega arith)).0 (rw (nth_area i (nareas i p) (p + 56) k unused_area l) at y))

  all_areas_render : ((k : ℕ) → k < nareas i p → (n : ℕ) × AreaNamed i (area i p k) n) → Renders (all_areas_tests i p (areas_of i p)) (all_areas_rows i p)
  unfolding all_areas_tests
  all_areas_render f =
      both_render (pairs (same_name i) (SameName i) (λ j k g h. same_name_lem i (area i p j) (area i p k) (f j g).0 (f k h).0 (f j g).1 (f k h).1))
      (both_render (pairs cross (Cross i) (λ j k g h. crosses i (area i p j) (area i p k)))
      (both_render map-area
      no_more))

  -- All areas have fit names where none is refused in turn.
  fit_names : first_failed (each_area_tests i (L i) (areas_of i p)) ≡ 0 → (k : ℕ) → k < nareas i p → (n : ℕ) × AreaNamed i (area i p k) n
  unfolding area_at
  fit_names e k h =
      let y = (each_area i (L i) (areas_of i p) e k (omega (arith, count))).0 in
      fit_named i (area i p k) (rw (nth_area i (nareas i p) (p + 56) k unused_area h) at y)

  -- The map at the place p.

  abbrev area_tests_lem : List Test
  area_tests_lem = each_area_tests i (L i) (areas_of i p)

  abbrev all_tests : List Test
  all_tests = all_areas_tests i p (areas_of i p)

  given_at : FirstRowMet (drop 3 (map_rows i p)) (first_failed (map_tests i p (L i)))
  unfolding map_tests map_header_tests
  given_at = in_parts (map_header_tests i p (L i)) (area_tests_lem ++ all_tests) (take 4 (drop 3 (map_rows i p)))
      (drop 7 (map_rows i p)) header_renders refl refl
      (λ h.
      let s : size i p ≡ L i = eqb-true _ _ (all_passed (map_header_tests i p (L i)) refl h 2) in
      in_parts area_tests_lem all_tests (each_area_rows i p (nareas i p) 0) (all_areas_rows i p)
      (subst (λ (l : ℕ). Renders (each_area_tests i l (areas_of i p)) (each_area_rows i p (nareas i p) 0)) s
      (each_area_renders (nareas i p) 0 (p + 56) (omega arith)))
      (each_area_numbered i (L i) (areas_of i p))
      (each_area_nonzero (nareas i p) 0)
      (λ t. (exactly (all_areas_render (fit_names t)) (first_failed all_tests)).0 refl))

  -- The only signature stands at the map's place.
  only : MapPlace i p → signatures i ≡ map_place i ∷ [] → map_place i ≡ p
  only (inl a) e = sym (Memᴰ.eq_of_singleton (rw e at ((listed i p).1 a)))
  only (inr n) e = absurd (n (map_place i) ((listed i (map_place i)).0 (rw e (Memᴰ.head refl))))

  given : MapPlace i p → FirstRowMet (map_rows i p) (first_failed (fmap_tests i (signatures i)))
  unfolding fmap_tests signature_tests
  given a = in_parts first (map_tests i (map_place i) (L i)) (take 3 (map_rows i p)) (drop 3 (map_rows i p)) signature_renders refl refl
      (λ e. subst (λ (q : ℕ). FirstRowMet (drop 3 (map_rows i p)) (first_failed (map_tests i q (L i)))) (sym (only a (one e))) given_at)
    where
      first : List Test
      first = test 1 (length_fits i) ∷ signature_tests (signatures i)

      one : first_failed first ≡ 0 → signatures i ≡ map_place i ∷ []
      one e = singleton (signatures i) (leb-true _ _ (all_passed first refl e 1)) (leb-true _ _ (all_passed first refl e 2))

-- The number of an answer.
answer_number : (n : ℕ) (m : FlashMap) → refusal_number (unless_refused n m) ≡ n
answer_number n m = go (eqb n 0) refl
  where
    go : (b : Bool) → eqb n 0 ≡ b → refusal_number (cond b (Ok m) (Err (refusal_by n))) ≡ n
    go true q = sym (eqb-true _ _ q)
    go false q = refl

-- The number of the refusal, or 0 where the map is read: exactly as document 01's table has it.
pub fmap_exactly : (i : List ℕ) (p : ℕ) → MapPlace i p → (n : ℕ) → (refusal_number (fmap i) ≡ n) ↔ FirstRowMet (map_rows i p) n
unfolding fmap fmap_by
fmap_exactly i p a n =
    let e = answer_number (first_failed (fmap_tests i (signatures i))) (map_of i (map_place i)) in
    given_exactly (map_rows i p) (refusal_number (fmap i)) (subst (FirstRowMet (map_rows i p)) (sym e) (given i p a)) n

-- Every image has such a place.
pub some_place : (i : List ℕ) → (p : ℕ) × MapPlace i p
some_place i = go (signatures i) refl
  where
    go : (ps : List ℕ) → signatures i ≡ ps → (p : ℕ) × MapPlace i p
    go [] e = (0, inr (λ q a. Memᴰ.not-nil (rw e at ((listed i q).1 a))))
    go (p ∷ ps) e = (p, inl ((listed i p).0 (rw e (Memᴰ.head refl))))

-- What is read, and what a refusal has.

of_map : (i : List ℕ) (p : ℕ) → nareas i p ≤ 256 → ReadsMap i p (map_of i p)
unfolding map_of padded area_at
of_map i p h = record {
  minor_read = refl;
  base_read = refl;
  count_read = refl;
  records = length-append xs (replicate (256 - length xs) unused_area) ∙ omega (arith, c, length-replicate (256 - length xs) unused_area);
  record_read = λ d k l.
      let m : k < length xs = omega (arith, c) in
      get_or-append xs (replicate (256 - length xs) unused_area) d k m ∙ nth_area i (nareas i p) (p + 56) k d l;
  record_zero = λ d k l m. past d k (k - length xs) (omega (arith, c)) (omega (arith, c));
}
  where
    xs : List Area
    xs = areas_of i p

    c : length xs ≡ nareas i p
    c = count i p

    past : (d : Area) (k j : ℕ) → k ≡ length xs + j → j < 256 - length xs → get_or (xs ++ replicate (256 - length xs) unused_area) k d ≡ unused_area
    past d k j e l = rw e (get_or-append-add xs (replicate (256 - length xs) unused_area) j d ∙ get_or-replicate (256 - length xs) j unused_area d l)

-- A map that is read has what its bytes say.
pub fmap_read : (i : List ℕ) (p : ℕ) (m : FlashMap) → fmap i ≡ Ok m → SignatureAt i p → ReadsMap i p m
fmap_read i p m ok a =
    let x = accepted i m ok in
    let h = header_passed i (map_place i) (length i) x.header in
    subst (λ (q : ℕ). ReadsMap i q m) (only i p (inl a) x.one)
    (subst (ReadsMap i (map_place i)) (sym x.answer) (of_map i (map_place i) h.no_more))

-- A refusal has its number, which is not 0, and place 0.
pub fmap_refused : (i : List ℕ) (r : Refusal) → fmap i ≡ Err r → (r.number ≡ 0 → ⊥) × (r.place ≡ 0)
fmap_refused i r h = let (z, e) = refusal_zero i r h in (z, ap (λ (x : Refusal). x.place) e)

-- The only bearer of a name.
use Prim.Native.Nat.{ℕ}
use mathlib.Core.Path.{◌≡◌, refl, sym, ap, subst, ◌∙◌}
use mathlib.Core.List.Memᴰ
use mathlib.Core.List.{List, [], ◌∷◌, Memᴰ, cons≢nil, nil≢cons, head-eq_of_cons-eq}
use mathlib.Core.List.{tail-eq_of_cons-eq}
use mathlib.Core.Logic.{◌⊎◌, inl, inr}
use mathlib.Core.Bool.{Bool, true, false, cond, not, true≢false}
use borrow.Author.Tests.{not-true}
use Rattle.bytes_read.specs.Lists.{any, filter, no_two}
use Rattle.walk.specs.Walk.{Entry}
use Rattle.walk_lookup.specs.Lookup.{lookup_refused, lookup_gives, first_or_refused, only_or_refused, bears}
use Rattle.bytes_read.proofs.Tested.{any_false, mem_filter, both_true, filter_none}
use Rattle.walk_lookup.proofs.Bearers.{bears_name_lem, name_bears}
use Rattle.strict_rules.specs.Strict.{distinct_names}

-- A list of which some are corrupted, and one bearer is not.
module _ (bearing corrupted : Entry → Bool) where
  -- Beside a bearer, a bearer in a part is one too many.
  two : (f : Entry → Bool) (l : List Entry) (t : Entry) (ts : List Entry) → filter bearing (filter f l) ≡ t ∷ ts → (y : Entry)
      → only_or_refused (y ∷ filter bearing l) ≡ lookup_refused 11
  unfolding filter only_or_refused
  two f [] t ts e y = absurd (nil≢cons e)
  two f (x ∷ xs) t ts e y = go (f x) refl (bearing x) refl (λ e'. two f xs t ts e' y)
    where
      go : (b : Bool) → f x ≡ b → (c : Bool) → bearing x ≡ c
          → (filter bearing (filter f xs) ≡ t ∷ ts → only_or_refused (y ∷ filter bearing xs) ≡ lookup_refused 11)
          → only_or_refused (y ∷ cond c (x ∷ filter bearing xs) (filter bearing xs)) ≡ lookup_refused 11
      go b p true q ih = refl
      go true p false q ih = ih (rw (p, q) at e)
      go false p false q ih = ih (rw p at e)

  -- With no bearer outside, a bearer before the list is the only one exactly if none is corrupted.
  more : (l : List Entry) → filter bearing (filter (λ u. not (corrupted u)) l) ≡ [] → (y : Entry)
      → only_or_refused (y ∷ filter bearing l) ≡ cond (any bearing (filter corrupted l)) (lookup_refused 11) (lookup_gives y)
  unfolding filter only_or_refused
  more [] e y = refl
  more (x ∷ xs) e y = go (corrupted x) refl (bearing x) refl (λ e'. more xs e' y)
    where
      go : (b : Bool) → corrupted x ≡ b → (c : Bool) → bearing x ≡ c
          → (filter bearing (filter (λ u. not (corrupted u)) xs) ≡ []
          → only_or_refused (y ∷ filter bearing xs) ≡ cond (any bearing (filter corrupted xs)) (lookup_refused 11) (lookup_gives y))
          → only_or_refused (y ∷ filter bearing (x ∷ xs)) ≡ cond (any bearing (filter corrupted (x ∷ xs))) (lookup_refused 11) (lookup_gives y)
      go true p true q ih = rw (p, q)
      go true p false q ih = rw (p, q) (ih (rw p at e))
      go false p true q ih = absurd (cons≢nil (rw (p, q) at e))
      go false p false q ih = rw (p, q) (ih (rw (p, q) at e))

  pub only_one : (l : List Entry) (t : Entry) → filter bearing (filter (λ u. not (corrupted u)) l) ≡ t ∷ []
      → only_or_refused (filter bearing l) ≡ cond (any bearing (filter corrupted l)) (lookup_refused 11) (lookup_gives t)
  unfolding filter
  only_one [] t e = absurd (nil≢cons e)
  only_one (x ∷ xs) t e = go (corrupted x) refl (bearing x) refl (λ e'. only_one xs t e')
    where
      go : (b : Bool) → corrupted x ≡ b → (c : Bool) → bearing x ≡ c
          → (filter bearing (filter (λ u. not (corrupted u)) xs) ≡ t ∷ []
          → only_or_refused (filter bearing xs) ≡ cond (any bearing (filter corrupted xs)) (lookup_refused 11) (lookup_gives t))
          → only_or_refused (filter bearing (x ∷ xs)) ≡ cond (any bearing (filter corrupted (x ∷ xs))) (lookup_refused 11) (lookup_gives t)
      go true p true q ih = rw (p, q) (two (λ u. not (corrupted u)) xs t [] (rw p at e) x)
      go true p false q ih = rw (p, q) (ih (rw p at e))
      go false p true q ih =
          let e' : x ∷ filter bearing (filter (λ u. not (corrupted u)) xs) ≡ t ∷ [] = rw (p, q) at e in
          rw (p, q, ← head-eq_of_cons-eq e') (more xs (tail-eq_of_cons-eq e') x)
      go false p false q ih = rw (p, q) (ih (rw (p, q) at e))

-- Where no two names are equal, a component is the only bearer of its name.
pub lone : (l : List Entry) → distinct_names l ≡ true → (t : Entry) → Memᴰ t l → filter (bears t.component.name) l ≡ t ∷ []
unfolding no_two filter
lone [] d t m = absurd (Memᴰ.not-nil m)
lone (x ∷ xs) d t m = go (Memᴰ.cases_cons m) (λ n. lone xs s.1 t n)
  where
    s : (not (any (bears x.component.name) xs) ≡ true) × (distinct_names xs ≡ true)
    s = both_true (not (any (bears x.component.name) xs)) (distinct_names xs) d

    no_bearer : (u : Entry) → Memᴰ u xs → bears x.component.name u ≡ false
    no_bearer = any_false (bears x.component.name) xs (not-true (any (bears x.component.name) xs) s.0)

    other : (b : Bool) → bears t.component.name x ≡ b → Memᴰ t xs → b ≡ false
    other false e n = refl
    other true e n = absurd (true≢false (sym (name_bears x.component.name t (sym (bears_name_lem t.component.name x e))) ∙ no_bearer t n))

    here : filter (bears x.component.name) (x ∷ xs) ≡ x ∷ []
    here = rw (name_bears x.component.name x refl) (ap (λ (l : List Entry). x ∷ l) (filter_none (bears x.component.name) xs no_bearer))

    go : (t ≡ x) ⊎ Memᴰ t xs → (Memᴰ t xs → filter (bears t.component.name) xs ≡ t ∷ []) → filter (bears t.component.name) (x ∷ xs) ≡ t ∷ []
    go (inl q) ih = subst (λ (y : Entry). filter (bears y.component.name) (x ∷ xs) ≡ y ∷ []) (sym q) here
    go (inr n) ih = rw (other (bears t.component.name x) refl n) (ih n)

-- And then the first bearer of any name is the only one.
pub first_only : (l : List Entry) → distinct_names l ≡ true → (name : List ℕ) → first_or_refused (filter (bears name) l) ≡ only_or_refused
    (filter (bears name) l)
unfolding first_or_refused only_or_refused
first_only l d name = go (filter (bears name) l) refl
  where
    go : (k : List Entry) → filter (bears name) l ≡ k → first_or_refused k ≡ only_or_refused k
    go [] e = refl
    go (t ∷ ts) e =
        let m = mem_filter (bears name) l t (rw e (Memᴰ.head refl)) in
        let one : filter (bears name) l ≡ t ∷ [] = subst (λ (n : List ℕ). filter (bears n) l ≡ t ∷ []) (bears_name_lem name t m.1) (lone l d t m.0) in
        rw (tail-eq_of_cons-eq (sym e ∙ one))

-- Listings with one component put in, changed or left out.
use Prim.Native.Nat.{ℕ, suc, ◌<◌}
use native.Mathlib.Omega.{arith}
use mathlib.Core.Path.{◌≡◌, refl, sym, ap, ◌∙◌}
use mathlib.Core.List.Memᴰ
use mathlib.Core.List.{List, [], ◌∷◌, Memᴰ}
use mathlib.Core.Logic.{◌⊎◌, inl, inr}
use mathlib.Core.Bool.{Bool, true, false, cond, not, true≢false}
use lib.ListN.{length}
use lib.Dec.{ltb, eqb}
use borrow.Author.Tests.{eqb-true, eq-eqb, ne_eqb, lt-ltb, le-ltb, not-true}
use Rattle.bytes_read.specs.Bytes.{eq_bytes}
use Rattle.bytes_read.proofs.SameBytes.{eq_true, eq_sym}
use Rattle.bytes_read.specs.Lists.{any, filter, no_two}
use Rattle.walk.specs.Walk.{Entry}
use Rattle.walk_lookup.specs.Lookup.{bears}
use Rattle.bytes_read.proofs.Tested.{or_false, mem_filter, both_true, filter_comm, filter-all}
use Rattle.strict_rules.specs.Strict.{distinct_names}
use Rattle.strict_rules.proofs.Slots.{Rising}
use Rattle.edit_rules.specs.Edit.{insert_entry, replace_entry, remove_entry}

abbrev pub After : Entry → List Entry → Type 0
After t l = (d : Entry) → Memᴰ d l → t.place < d.place

insert_first : (t : Entry) (l : List Entry) → After t l → insert_entry t l ≡ t ∷ l
unfolding insert_entry
insert_first t [] h = refl
insert_first t (x ∷ xs) h = rw (lt-ltb t.place x.place (h x (Memᴰ.head refl)))

-- A list is what it holds besides t, with t put in.
pub insert_back : (anew : ℕ → Bool) (t : Entry) → anew t.place ≡ true → (l : List Entry) → Rising l → Memᴰ t l
    → ((u : Entry) → Memᴰ u l → anew u.place ≡ true → u ≡ t)
    → l ≡ insert_entry t (filter (λ u. not (anew u.place)) l)
unfolding filter insert_entry
insert_back anew t at [] up m only = absurd (Memᴰ.not-nil m)
insert_back anew t at (x ∷ xs) up m only = go (Memᴰ.cases_cons m) (λ n. insert_back anew t at xs up.1 n (λ u k. only u (Memᴰ.tail k)))
  where
    later : t ≡ x → (u : Entry) → Memᴰ u xs → (b : Bool) → anew u.place ≡ b → not b ≡ true
    later q u k false e = refl
    later q u k true e = absurd (omega (arith, up.0 u k, ap (λ (w : Entry). w.place) (only u (Memᴰ.tail k) e ∙ q)))

    here : x.place < t.place → (b : Bool) → anew x.place ≡ b → b ≡ false
    here lt false e = refl
    here lt true e = absurd (omega (arith, ap (λ (w : Entry). w.place) (only x (Memᴰ.head refl) e)))

    go : (t ≡ x) ⊎ Memᴰ t xs → (Memᴰ t xs → xs ≡ insert_entry t (filter (λ u. not (anew u.place)) xs))
        → x ∷ xs ≡ insert_entry t (filter (λ u. not (anew u.place)) (x ∷ xs))
    go (inl q) ih =
        let ax : anew x.place ≡ true = rw q at at in
        let all : filter (λ u. not (anew u.place)) xs ≡ xs = filter-all (λ u. not (anew u.place)) xs (λ u k. later q u k (anew u.place) refl) in
        rw (ax, all, q) (sym (insert_first x xs up.0))
    go (inr n) ih =
        let lt : x.place < t.place = up.0 t n in
        rw (here lt (anew x.place) refl, le-ltb t.place x.place (omega arith)) (ap (λ (w : List Entry). x ∷ w) (ih n))

replace_none : (t : Entry) (l : List Entry) → After t l → replace_entry t l ≡ l
unfolding replace_entry
replace_none t [] h = refl
replace_none t (x ∷ xs) h = rw (ne_eqb x.place t.place (λ e. omega (arith, h x (Memᴰ.head refl))), replace_none t xs (λ d m. h d (Memᴰ.tail m)))

-- To put t in without what stands at its place is to put it instead.
pub insert_replace : (t : Entry) (l : List Entry) → Rising l → (u : Entry) → Memᴰ u l → u.place ≡ t.place
    → insert_entry t (remove_entry t.place l) ≡ replace_entry t l
unfolding filter insert_entry replace_entry
insert_replace t [] up u m e = absurd (Memᴰ.not-nil m)
insert_replace t (x ∷ xs) up u m e = go (Memᴰ.cases_cons m) (λ n. insert_replace t xs up.1 u n e)
  where
    go : (u ≡ x) ⊎ Memᴰ u xs → (Memᴰ u xs → insert_entry t (remove_entry t.place xs) ≡ replace_entry t xs)
        → insert_entry t (remove_entry t.place (x ∷ xs)) ≡ replace_entry t (x ∷ xs)
    go (inl q) ih =
        let same : x.place ≡ t.place = rw q at e in
        let far : After t xs = λ d k. omega (arith, up.0 d k) in
        let all : remove_entry t.place xs ≡ xs =
        filter-all (λ w. not (eqb w.place t.place)) xs (λ d k. ap not (ne_eqb d.place t.place (λ z. omega (arith, up.0 d k)))) in
        rw (eq-eqb x.place t.place same, all, replace_none t xs far) (insert_first t xs far)
    go (inr n) ih =
        let lt : x.place < t.place = omega (arith, up.0 u n) in
        rw (ne_eqb x.place t.place (λ z. omega arith), le-ltb t.place x.place (omega arith)) (ap (λ (w : List Entry). x ∷ w) (ih n))

-- What was listed still is.
pub insert_mem : (t : Entry) (l : List Entry) (d : Entry) → Memᴰ d l → Memᴰ d (insert_entry t l)
unfolding insert_entry
insert_mem t [] d m = absurd (Memᴰ.not-nil m)
insert_mem t (u ∷ us) d m = go (ltb t.place u.place) (Memᴰ.cases_cons m) (insert_mem t us d)
  where
    go : (b : Bool) → (d ≡ u) ⊎ Memᴰ d us → (Memᴰ d us → Memᴰ d (insert_entry t us)) → Memᴰ d (cond b (t ∷ u ∷ us) (u ∷ insert_entry t us))
    go true n ih = Memᴰ.tail m
    go false (inl e) ih = Memᴰ.head e
    go false (inr n) ih = Memᴰ.tail (ih n)

pub length_insert : (t : Entry) (l : List Entry) → length (insert_entry t l) ≡ suc (length l)
unfolding insert_entry
length_insert t [] = refl
length_insert t (x ∷ xs) = go (ltb t.place x.place) (length_insert t xs)
  where
    go : (b : Bool) → length (insert_entry t xs) ≡ suc (length xs) → length (cond b (t ∷ x ∷ xs) (x ∷ insert_entry t xs)) ≡ suc (suc (length xs))
    go true ih = refl
    go false ih = ap suc ih

pub length-replace : (t : Entry) (l : List Entry) → length (replace_entry t l) ≡ length l
unfolding replace_entry
length-replace t [] = refl
length-replace t (x ∷ xs) = ap suc (length-replace t xs)

any_insert : (f : Entry → Bool) (t : Entry) (l : List Entry) → f t ≡ false → any f l ≡ false → any f (insert_entry t l) ≡ false
unfolding insert_entry
any_insert f t [] p q = rw p
any_insert f t (x ∷ xs) p q = go (ltb t.place x.place) (any_insert f t xs p (or_false (f x) (any f xs) q).1)
  where
    go : (b : Bool) → any f (insert_entry t xs) ≡ false → any f (cond b (t ∷ x ∷ xs) (x ∷ insert_entry t xs)) ≡ false
    go true ih = rw p q
    go false ih = rw (or_false (f x) (any f xs) q).0 ih

-- No other component has its name.
pub bears_not : (n : List ℕ) (t : Entry) → (n ≡ t.component.name → ⊥) → bears n t ≡ false
unfolding bears
bears_not n t h = go (eq_bytes t.component.name n) refl
  where
    go : (b : Bool) → eq_bytes t.component.name n ≡ b → b ≡ false
    go false q = refl
    go true q = absurd (h (sym (eq_true t.component.name n q)))

pub distinct_insert : (t : Entry) (l : List Entry) → any (bears t.component.name) l ≡ false → distinct_names l ≡ true
    → distinct_names (insert_entry t l) ≡ true
unfolding insert_entry no_two
distinct_insert t [] p q = refl
distinct_insert t (x ∷ xs) p q = go (ltb t.place x.place) (distinct_insert t xs o.1 s.1)
  where
    o : (bears t.component.name x ≡ false) × (any (bears t.component.name) xs ≡ false)
    o = or_false (bears t.component.name x) (any (bears t.component.name) xs) p

    s : (not (any (bears x.component.name) xs) ≡ true) × (distinct_names xs ≡ true)
    s = both_true (not (any (bears x.component.name) xs)) (distinct_names xs) q

    flipped : bears x.component.name t ≡ false
    flipped = unfold bears in eq_sym x.component.name t.component.name o.0

    go : (b : Bool) → distinct_names (insert_entry t xs) ≡ true → distinct_names (cond b (t ∷ x ∷ xs) (x ∷ insert_entry t xs)) ≡ true
    go true ih = rw p q
    go false ih = rw (any_insert (bears x.component.name) t xs flipped (not-true _ s.0), ih)

-- What is instead of another bears its name.
abbrev pub SameName : Entry → List Entry → Type 0
SameName t l = (u : Entry) → Memᴰ u l → u.place ≡ t.place → u.component.name ≡ t.component.name

chosen_name : (t x : Entry) (b : Bool) → (b ≡ true → x.component.name ≡ t.component.name) → (cond b t x).component.name ≡ x.component.name
chosen_name t x true h = sym (h refl)
chosen_name t x false h = refl

chosen : (t : Entry) (x : Entry) (xs : List Entry) → SameName t (x ∷ xs) → (cond (eqb x.place t.place) t x).component.name ≡ x.component.name
chosen t x xs h = chosen_name t x (eqb x.place t.place) (λ e. h x (Memᴰ.head refl) (eqb-true x.place t.place e))

any-replace : (n : List ℕ) (t : Entry) (l : List Entry) → SameName t l → any (bears n) (replace_entry t l) ≡ any (bears n) l
unfolding replace_entry bears
any-replace n t [] h = refl
any-replace n t (x ∷ xs) h = rw (chosen t x xs h, any-replace n t xs (λ u m. h u (Memᴰ.tail m)))

pub distinct_replace : (t : Entry) (l : List Entry) → SameName t l → distinct_names (replace_entry t l) ≡ distinct_names l
unfolding replace_entry no_two
distinct_replace t [] h = refl
distinct_replace t (x ∷ xs) h =
    rw (chosen t x xs h, any-replace x.component.name t xs (λ u m. h u (Memᴰ.tail m)), distinct_replace t xs (λ u m. h u (Memᴰ.tail m)))

-- What is kept by a test that fails for what is put, changed or left out.
pub filter_insert : (f : Entry → Bool) (t : Entry) (l : List Entry) → f t ≡ false → filter f (insert_entry t l) ≡ filter f l
unfolding insert_entry filter
filter_insert f t [] p = rw p
filter_insert f t (x ∷ xs) p = go (ltb t.place x.place) (filter_insert f t xs p)
  where
    go : (b : Bool) → filter f (insert_entry t xs) ≡ filter f xs → filter f (cond b (t ∷ x ∷ xs) (x ∷ insert_entry t xs)) ≡ filter f (x ∷ xs)
    go true ih = rw p
    go false ih = rw ih

pub filter-replace : (f : Entry → Bool) (t : Entry) (l : List Entry) → f t ≡ false → ((u : Entry) → Memᴰ u l → u.place ≡ t.place → f u ≡ false)
    → filter f (replace_entry t l) ≡ filter f l
unfolding replace_entry filter
filter-replace f t [] p h = refl
filter-replace f t (x ∷ xs) p h = go (eqb x.place t.place) refl (filter-replace f t xs p (λ u m. h u (Memᴰ.tail m)))
  where
    go : (b : Bool) → eqb x.place t.place ≡ b → filter f (replace_entry t xs) ≡ filter f xs → filter f (cond b t x ∷ replace_entry t xs) ≡ filter f (x ∷ xs)
    go true q ih = rw (p, h x (Memᴰ.head refl) (eqb-true x.place t.place q)) ih
    go false q ih = rw ih

pub filter_removed : (f : Entry → Bool) (p : ℕ) (l : List Entry) → ((u : Entry) → Memᴰ u l → u.place ≡ p → f u ≡ false)
    → filter f (remove_entry p l) ≡ filter f l
filter_removed f p l h =
    filter_comm f (λ u. not (eqb u.place p)) l
    ∙ filter-all (λ u. not (eqb u.place p)) (filter f l) (λ u m. by u (mem_filter f l u m) (eqb u.place p) refl)
  where
    by : (u : Entry) → Memᴰ u l × (f u ≡ true) → (b : Bool) → eqb u.place p ≡ b → not b ≡ true
    by u m false e = refl
    by u m true e = absurd (true≢false (sym m.1 ∙ h u m.0 (eqb-true u.place p e)))

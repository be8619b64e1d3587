-- Laws of lists by a Boolean test: by the elements, and by the index.
use Prim.Native.Nat.{ℕ, zero, suc, ◌≤◌, ◌<◌}
use native.Mathlib.Omega.{arith}
use mathlib.Core.Path.{◌≡◌, refl, sym, ap, ◌∙◌}
use mathlib.Core.Logic.{◌⊎◌, inl, inr}
use mathlib.Core.Bool.{Bool, true, false, cond, not, ◌&&◌, ◌||◌, true≢false, false≢true}
use mathlib.Core.List.Memᴰ
use mathlib.Core.List.{List, [], ◌∷◌, ◌++◌, nil≢cons, head-eq_of_cons-eq, tail-eq_of_cons-eq, Memᴰ}
use lib.ListN.{length, get_or}
use borrow.Author.Tests.{not-true}
use Rattle.bytes_read.specs.Lists.{any, filter, no_two}

pub or_false : (b c : Bool) → b || c ≡ false → (b ≡ false) × (c ≡ false)
or_false true c e = absurd (true≢false e)
or_false false c e = (refl, e)

pub both_true : (b c : Bool) → b && c ≡ true → (b ≡ true) × (c ≡ true)
both_true true c e = (refl, e)
both_true false c e = absurd (false≢true e)

module _ {A : Type 0} where
  pub any_false : (f : A → Bool) (l : List A) → any f l ≡ false → (x : A) → Memᴰ x l → f x ≡ false
  any_false f [] e x m = absurd (Memᴰ.not-nil m)
  any_false f (y ∷ ys) e x m = go (Memᴰ.cases_cons m) (any_false f ys (or_false (f y) (any f ys) e).1 x)
    where
      go : (x ≡ y) ⊎ Memᴰ x ys → (Memᴰ x ys → f x ≡ false) → f x ≡ false
      go (inl q) ih = rw q (or_false (f y) (any f ys) e).0
      go (inr m') ih = ih m'

  pub any_true : (f : A → Bool) (l : List A) → any f l ≡ true → (x : A) × Memᴰ x l × (f x ≡ true)
  any_true f [] e = absurd (false≢true e)
  any_true f (y ∷ ys) e = go (f y) refl e (any_true f ys)
    where
      go : (b : Bool) → f y ≡ b → b || any f ys ≡ true → (any f ys ≡ true → (x : A) × Memᴰ x ys × (f x ≡ true))
          → (x : A) × Memᴰ x (y ∷ ys) × (f x ≡ true)
      go true q e' ih = (y, Memᴰ.head refl, q)
      go false q e' ih = let (x, m, p) = ih e' in (x, Memᴰ.tail m, p)

  pub none_any : (f : A → Bool) (l : List A) → ((x : A) → Memᴰ x l → f x ≡ false) → any f l ≡ false
  none_any f [] h = refl
  none_any f (y ∷ ys) h = rw (h y (Memᴰ.head refl)) (none_any f ys (λ x m. h x (Memᴰ.tail m)))

  pub mem_any : (f : A → Bool) (l : List A) (x : A) → Memᴰ x l → f x ≡ true → any f l ≡ true
  mem_any f l x m e = go (any f l) refl
    where
      go : (b : Bool) → any f l ≡ b → b ≡ true
      go true q = refl
      go false q = absurd (true≢false (sym e ∙ any_false f l q x m))

  -- What is kept.

  pub mem_filter : (f : A → Bool) (l : List A) (x : A) → Memᴰ x (filter f l) → Memᴰ x l × (f x ≡ true)
  unfolding filter
  mem_filter f [] x m = absurd (Memᴰ.not-nil m)
  mem_filter f (y ∷ ys) x m = go (f y) refl m (λ m'. mem_filter f ys x m')
    where
      go : (b : Bool) → f y ≡ b → Memᴰ x (cond b (y ∷ filter f ys) (filter f ys)) → (Memᴰ x (filter f ys) → Memᴰ x ys × (f x ≡ true))
          → Memᴰ x (y ∷ ys) × (f x ≡ true)
      go true q m' ih = by (Memᴰ.cases_cons m')
        where
          by : (x ≡ y) ⊎ Memᴰ x (filter f ys) → Memᴰ x (y ∷ ys) × (f x ≡ true)
          by (inl e) = (Memᴰ.head e, rw e q)
          by (inr n) = (Memᴰ.tail (ih n).0, (ih n).1)
      go false q m' ih = (Memᴰ.tail (ih m').0, (ih m').1)

  pub filter_mem : (f : A → Bool) (l : List A) (x : A) → Memᴰ x l → f x ≡ true → Memᴰ x (filter f l)
  unfolding filter
  filter_mem f [] x m e = absurd (Memᴰ.not-nil m)
  filter_mem f (y ∷ ys) x m e = go (Memᴰ.cases_cons m) (λ m'. filter_mem f ys x m' e)
    where
      later : (b : Bool) → Memᴰ x (filter f ys) → Memᴰ x (cond b (y ∷ filter f ys) (filter f ys))
      later true n = Memᴰ.tail n
      later false n = n

      go : (x ≡ y) ⊎ Memᴰ x ys → (Memᴰ x ys → Memᴰ x (filter f ys)) → Memᴰ x (cond (f y) (y ∷ filter f ys) (filter f ys))
      go (inl q) ih = rw (← q, e) (Memᴰ.head refl)
      go (inr n) ih = later (f y) (ih n)

  pub filter_empty : (f : A → Bool) (l : List A) → filter f l ≡ [] → (x : A) → Memᴰ x l → f x ≡ false
  filter_empty f l e x m = go (f x) refl
    where
      go : (b : Bool) → f x ≡ b → b ≡ false
      go true q = absurd (Memᴰ.not-nil (rw e at (filter_mem f l x m q)))
      go false q = refl

  pub filter_none : (f : A → Bool) (l : List A) → ((x : A) → Memᴰ x l → f x ≡ false) → filter f l ≡ []
  unfolding filter
  filter_none f [] h = refl
  filter_none f (y ∷ ys) h = rw (h y (Memᴰ.head refl)) (filter_none f ys (λ x m. h x (Memᴰ.tail m)))

  pub filter-all : (f : A → Bool) (l : List A) → ((x : A) → Memᴰ x l → f x ≡ true) → filter f l ≡ l
  unfolding filter
  filter-all f [] h = refl
  filter-all f (x ∷ xs) h = rw (h x (Memᴰ.head refl), filter-all f xs (λ y m. h y (Memᴰ.tail m)))

  pub length-filter : (f : A → Bool) (l : List A) → length (filter f l) ≤ length l
  unfolding filter
  length-filter f [] = omega arith
  length-filter f (x ∷ xs) = go (f x) (length-filter f xs)
    where
      go : (b : Bool) → length (filter f xs) ≤ length xs → length (cond b (x ∷ filter f xs) (filter f xs)) ≤ suc (length xs)
      go true ih = omega arith
      go false ih = omega arith

  -- Where the first that is kept stands: nothing before it is kept, and the rest after it.
  pub record FirstFiltered (f : A → Bool) (l : List A) (x : A) (rest : List A) : Type 0 where
    pub before : List A
    pub after : List A
    pub split : l ≡ before ++ (x ∷ after)
    pub passed : f x ≡ true
    pub none : (y : A) → Memᴰ y before → f y ≡ false
    pub others : filter f after ≡ rest

  pub first_filtered : (f : A → Bool) (l : List A) (x : A) (rest : List A) → filter f l ≡ x ∷ rest → FirstFiltered f l x rest
  unfolding filter
  first_filtered f [] x rest e = absurd (nil≢cons e)
  first_filtered f (y ∷ ys) x rest e = go (f y) refl e (first_filtered f ys x rest)
    where
      go : (b : Bool) → f y ≡ b → cond b (y ∷ filter f ys) (filter f ys) ≡ x ∷ rest → (filter f ys ≡ x ∷ rest → FirstFiltered f ys x rest)
          → FirstFiltered f (y ∷ ys) x rest
      go true q g ih = let h : y ≡ x = head-eq_of_cons-eq g in record {
        before = [];
        after = ys;
        split = ap (λ (z : A). z ∷ ys) h;
        passed = rw (← h) q;
        none = λ z m. absurd (Memᴰ.not-nil m);
        others = tail-eq_of_cons-eq g;
      }
      go false q g ih = let k = ih g in record {
        before = y ∷ k.before;
        after = k.after;
        split = ap (λ (zs : List A). y ∷ zs) k.split;
        passed = k.passed;
        none = λ z m. by z k.none (Memᴰ.cases_cons m);
        others = k.others;
      }
        where
          by : {b : List A} (z : A) → ((w : A) → Memᴰ w b → f w ≡ false) → (z ≡ y) ⊎ Memᴰ z b → f z ≡ false
          by z n (inl r) = rw r q
          by z n (inr m) = n z m

  -- An element that is kept adds one to what is kept after it.
  pub filtered_more : (f : A → Bool) (xs : List A) (x : A) (ys : List A) → f x ≡ true → suc (length (filter f ys)) ≤ length (filter f (xs ++ (x ∷ ys)))
  unfolding filter
  filtered_more f [] x ys e = rw e (omega arith)
  filtered_more f (z ∷ xs) x ys e = go (f z) (filtered_more f xs x ys e)
    where
      go : (b : Bool) → suc (length (filter f ys)) ≤ length (filter f (xs ++ (x ∷ ys)))
          → suc (length (filter f ys)) ≤ length (cond b (z ∷ filter f (xs ++ (x ∷ ys))) (filter f (xs ++ (x ∷ ys))))
      go true ih = omega arith
      go false ih = ih

  pub two_filter : (t : A → A → Bool) (f : A → Bool) (l : List A) → no_two t l ≡ true → no_two t (filter f l) ≡ true
  unfolding filter no_two
  two_filter t f [] e = refl
  two_filter t f (x ∷ xs) e = go (f x) (two_filter t f xs s.1)
    where
      s : (not (any (t x) xs) ≡ true) × (no_two t xs ≡ true)
      s = both_true (not (any (t x) xs)) (no_two t xs) e

      fresh : any (t x) (filter f xs) ≡ false
      fresh = none_any (t x) (filter f xs) (λ y m. any_false (t x) xs (not-true _ s.0) y (mem_filter f xs y m).0)

      go : (b : Bool) → no_two t (filter f xs) ≡ true → no_two t (cond b (x ∷ filter f xs) (filter f xs)) ≡ true
      go true ih = rw (fresh, ih)
      go false ih = ih

  -- Tests that agree on the list keep the same.
  pub filter_same : (f g : A → Bool) (l : List A) → ((x : A) → Memᴰ x l → f x ≡ g x) → filter f l ≡ filter g l
  unfolding filter
  filter_same f g [] h = refl
  filter_same f g (y ∷ ys) h = rw (h y (Memᴰ.head refl), filter_same f g ys (λ x m. h x (Memᴰ.tail m)))

  pub filter_comm : (f g : A → Bool) (l : List A) → filter f (filter g l) ≡ filter g (filter f l)
  unfolding filter
  filter_comm f g [] = refl
  filter_comm f g (x ∷ xs) = go (f x) refl (g x) refl (filter_comm f g xs)
    where
      go : (b : Bool) → f x ≡ b → (c : Bool) → g x ≡ c → filter f (filter g xs) ≡ filter g (filter f xs)
          → filter f (cond c (x ∷ filter g xs) (filter g xs)) ≡ filter g (cond b (x ∷ filter f xs) (filter f xs))
      go true p true q ih = rw (p, q, ih)
      go true p false q ih = rw q ih
      go false p true q ih = rw p ih
      go false p false q ih = ih

  -- An element of the list stands at an index, and the other way round.

  pub nth_mem : (d : A) (l : List A) (k : ℕ) → k < length l → Memᴰ (get_or l k d) l
  nth_mem d [] k h = absurd (omega arith)
  nth_mem d (x ∷ l) zero h = Memᴰ.head refl
  nth_mem d (x ∷ l) (suc k) h = Memᴰ.tail (nth_mem d l k (omega arith))

  pub mem_nth : (d : A) (l : List A) (x : A) → Memᴰ x l → (k : ℕ) × (k < length l) × (get_or l k d ≡ x)
  mem_nth d [] x m = absurd (Memᴰ.not-nil m)
  mem_nth d (y ∷ l) x m = go (Memᴰ.cases_cons m) (mem_nth d l x)
    where
      go : (x ≡ y) ⊎ Memᴰ x l → (Memᴰ x l → (k : ℕ) × (k < length l) × (get_or l k d ≡ x)) → (k : ℕ) × (k < suc (length l)) × (get_or (y ∷ l) k d ≡ x)
      go (inl q) ih = (0, omega arith, sym q)
      go (inr m') ih = let (k, h, e) = ih m' in (suc k, omega arith, e)

  pub any_some : (d : A) (f : A → Bool) (l : List A) → any f l ≡ true → (k : ℕ) × (k < length l) × (f (get_or l k d) ≡ true)
  any_some d f l e =
      let (x, m, y) = any_true f l e in
      let (k, h, q) = mem_nth d l x m in
      (k, h, rw q y)

  pub two_none : (d : A) (t : A → A → Bool) (l : List A) → no_two t l ≡ true → (j k : ℕ) → j < k → k < length l → t (get_or l j d) (get_or l k d) ≡ false
  unfolding no_two
  two_none d t [] e j k g h = absurd (omega arith)
  two_none d t (x ∷ l) e j zero g h = absurd (omega arith)
  two_none d t (x ∷ l) e zero (suc k) g h =
      any_false (t x) l (not-true _ (both_true (not (any (t x) l)) (no_two t l) e).0) (get_or l k d) (nth_mem d l k (omega arith))
  two_none d t (x ∷ l) e (suc j) (suc k) g h = two_none d t l (both_true (not (any (t x) l)) (no_two t l) e).1 j k (omega arith) (omega arith)

-- What the plain and the guarded walk take at a place, and the guarded listing.
use Prim.Native.Nat.{ℕ, suc, ◌+◌, ◌*◌, ◌-◌, ◌≤◌, ◌<◌, min}
use native.Mathlib.Nat.{lt_of_mul-lt-mul_right, mul-le-mul_right}
use native.Mathlib.Omega.{arith}
use mathlib.Core.Path.{◌≡◌, refl, sym, ap, ◌∙◌}
use mathlib.Core.List.Memᴰ
use mathlib.Core.List.{List}
use mathlib.Core.Bool.{Bool, true, false, cond, true≢false}
use Rattle.std.specs.Prelude.{Option, Some, None}
use Rattle.std.proofs.lemmas.Option.{same_Some, none-some}
use lib.ListN.{length, get_or, take, drop, length-take, length-drop}
use Rattle.component.specs.Component.{Component, span_length, judge, starts_with_magic, magic}
use Rattle.component.proofs.Judging.{judge-fits, judge-magic, judge_no_magic, window}
use Rattle.bytes_read.proofs.SameBytes.{eq_true}
use Rattle.walk.specs.Walk.{place_count_below, places, magic_at, magic_inside, plain_pick, unless, guarded_pick, listing, picked, all_places, Place}
use Rattle.walk.proofs.Places.{below_ge, below_lt, gap, mem_places, places_mem}
use Rattle.bytes_read.proofs.Tested.{any_false, none_any}
use Rattle.walk.proofs.Steps.{Fits, Exclusive, listing-all}

-- The magic has room where it is carried.
pub magic-fits : (r : List ℕ) (p : ℕ) → magic_at r p ≡ true → p + 8 ≤ length r
unfolding magic_at starts_with_magic magic
magic-fits r p e =
    let m : take 8 (drop p r) ≡ magic = eq_true (take 8 (drop p r)) magic e in
    let l : length (take 8 (drop p r)) ≡ 8 = ap length m in
    let k : min 8 (length r - p) ≡ 8 = rw (length-take, length-drop) at l in
    omega arith

pub magic_local : (r r' : List ℕ) (p : ℕ) → length r' ≡ length r → ((i : ℕ) → p ≤ i → i < p + 8 → i < length r → get_or r' i 0 ≡ get_or r i 0)
    → magic_at r' p ≡ magic_at r p
unfolding magic_at starts_with_magic
magic_local r r' p l h = rw (window 8 p r' r (rw l) (λ j j< k. h (p + j) (omega arith) (omega arith) (omega arith)))

pub plain_has_magic : (r : List ℕ) (p : ℕ) (h : Component) → plain_pick r p ≡ Some h → magic_at r p ≡ true
unfolding plain_pick magic_at
plain_has_magic r p h e = judge-magic (drop p r) h e

pub plain_none : (r : List ℕ) (p : ℕ) → magic_at r p ≡ false → plain_pick r p ≡ None
unfolding plain_pick magic_at
plain_none r p e = judge_no_magic (drop p r) e

pub plain_fits : (r : List ℕ) (p : ℕ) (h : Component) → plain_pick r p ≡ Some h → (40 ≤ span_length h) × (p + span_length h ≤ length r)
unfolding plain_pick
plain_fits r p h e =
    let b = judge-fits (drop p r) h e in
    let k : span_length h ≤ length r - p = rw (length-drop) at b.1 in
    (omega (arith, b.0), omega (arith, b.0))

pub unless_some : (bad : Component → Bool) (o : Option Component) (h : Component) → unless bad o ≡ Some h → (o ≡ Some h) × (bad h ≡ false)
unfolding unless
unless_some bad None h e = absurd (none-some h e)
unless_some bad (Some g) h e = go (bad g) refl e
  where
    go : (b : Bool) → bad g ≡ b → cond b None (Some g) ≡ Some h → (Some g ≡ Some h) × (bad h ≡ false)
    go true q e' = absurd (none-some h e')
    go false q e' = (e', rw (← same_Some g h e') q)

pub unless_bad : (bad : Component → Bool) (c : Component) (o : Option Component) → o ≡ Some c → bad c ≡ true → unless bad o ≡ None
unfolding unless
unless_bad bad c o e b = rw (e, b)

pub unless_good : (bad : Component → Bool) (c : Component) (o : Option Component) → o ≡ Some c → bad c ≡ false → unless bad o ≡ Some c
unfolding unless
unless_good bad c o e b = rw (e, b)

module _ (r : List ℕ) (a : ℕ) (pos : 0 < a) where
  pub no_magic_inside : (p n : ℕ) → Place a p → magic_inside r a p n ≡ false → (q : ℕ) → Place a q → p < q → q < p + n → magic_at r q ≡ false
  unfolding magic_inside
  no_magic_inside p n (i, pe) e q (j, qe) lt h =
      let ij : i < j = lt_of_mul-lt-mul_right a {m = i} {n = j} (omega arith) in
      go (j - suc i) (gap a p i j pe ij)
    where
      go : (d : ℕ) → p + a + d * a ≡ j * a → magic_at r q ≡ false
      go d g =
          let k : suc d < place_count_below a n = lt_of_mul-lt-mul_right a {m = suc d} {n = place_count_below a n} (omega (arith, below_ge a pos n)) in
          any_false (magic_at r) (places a (place_count_below a n - 1) (p + a)) e q
          (Memᴰ.cast {b = p + a + d * a} (omega arith) (places_mem a (place_count_below a n - 1) (p + a) d (omega arith)))

  pub magic_inside_of : (p n : ℕ) → ((q : ℕ) → Place a q → p < q → q < p + n → magic_at r q ≡ false) → Place a p → magic_inside r a p n ≡ false
  unfolding magic_inside
  magic_inside_of p n h pl =
      none_any (magic_at r) (places a (place_count_below a n - 1) (p + a)) (λ x m. go x (mem_places a (place_count_below a n - 1) (p + a) x m))
    where
      go : (x : ℕ) → (d : ℕ) × (d < place_count_below a n - 1) × (x ≡ p + a + d * a) → magic_at r x ≡ false
      go x (d, d<, e) =
          let k : suc (suc d) * a ≤ place_count_below a n * a = mul-le-mul_right {m = suc (suc d)} {n = place_count_below a n} a (omega arith) in
          h x (suc (pl.0 + d), omega (arith, pl.1)) (omega arith) (omega (arith, below_lt a pos n))

  pub guarded_plain : (p : ℕ) (h : Component) → guarded_pick r a p ≡ Some h → (plain_pick r p ≡ Some h) × (magic_inside r a p (span_length h) ≡ false)
  unfolding guarded_pick plain_pick
  guarded_plain p h e = unless_some (λ g. magic_inside r a p (span_length g)) (judge (drop p r)) h e

  pub guarded_of : (p : ℕ) (h : Component) → plain_pick r p ≡ Some h → magic_inside r a p (span_length h) ≡ false → guarded_pick r a p ≡ Some h
  unfolding guarded_pick plain_pick
  guarded_of p h e b = unless_good (λ c. magic_inside r a p (span_length c)) h (judge (drop p r)) e b

  pub guarded_has_magic : (p : ℕ) (h : Component) → guarded_pick r a p ≡ Some h → magic_at r p ≡ true
  guarded_has_magic p h e = plain_has_magic r p h (guarded_plain p h e).0

  -- Nothing is taken where no magic is carried.
  pub guarded_none : (p : ℕ) → magic_at r p ≡ false → guarded_pick r a p ≡ None
  guarded_none p c = go (guarded_pick r a p) refl
    where
      go : (o : Option Component) → guarded_pick r a p ≡ o → o ≡ None
      go None e = refl
      go (Some h) e = absurd (true≢false (sym (guarded_has_magic p h e) ∙ c))

  pub guarded_fits : Fits (guarded_pick r a) r a pos
  guarded_fits p h e =
      let b : (40 ≤ span_length h) × (p + span_length h ≤ length r) = plain_fits r p h (guarded_plain p h e).0 in
      (omega arith, b.1)

  pub guarded_exclusive : Exclusive (guarded_pick r a) r a pos
  guarded_exclusive p h pl e q ql lt lt' = guarded_none q (no_magic_inside p (span_length h) pl (guarded_plain p h e).1 q ql lt lt')

  -- The guarded listing has every component that may be taken, whatever stands before it, in the places' order.
  pub guarded_context_free : listing (guarded_pick r a) r a ≡ picked (guarded_pick r a) (all_places r a)
  guarded_context_free = listing-all (guarded_pick r a) r a pos guarded_fits guarded_exclusive

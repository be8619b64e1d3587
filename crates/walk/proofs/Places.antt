-- Places, counted and rounded to.
use Prim.Native.Nat.{ℕ, zero, suc, ◌+◌, ◌*◌, ◌-◌, ◌≤◌, ◌<◌}
use native.Mathlib.Nat.{div-zero, div-add-mod', mod-lt, lt_of_mul-lt-mul_right, mul-le-mul_right, eq_of_mul-eq-mul_right}
use native.Mathlib.Omega.{arith}
use native.Mathlib.Decide.{dec_le, dec_lt}
use mathlib.Core.Path.{◌≡◌}
use mathlib.Core.List.Memᴰ
use mathlib.Core.List.{Memᴰ}
use mathlib.Core.Logic.{◌⊎◌, inl, inr}
use Rattle.walk.specs.Walk.{place_count_below, places}

-- An alignment of 0 has no places.
pub no_places : (n : ℕ) → place_count_below 0 n ≡ 0
unfolding place_count_below
no_places n = div-zero (n + 0)

module _ (a : ℕ) (pos : 0 < a) where
  pub below_ge : (n : ℕ) → n ≤ place_count_below a n * a
  unfolding place_count_below
  below_ge n = omega (arith, div-add-mod' (n + (a - 1)) a, mod-lt (n + (a - 1)) pos)

  pub below_lt : (n : ℕ) → place_count_below a n * a < n + a
  unfolding place_count_below
  below_lt n = omega (arith, div-add-mod' (n + (a - 1)) a)

  pub place_le : (c i : ℕ) → c * a < i * a + a → c * a ≤ i * a
  place_le c i h =
      let k : c < suc i = lt_of_mul-lt-mul_right a {m = c} {n = suc i} (omega arith) in
      mul-le-mul_right {m = c} {n = i} a (omega arith)

  pub below_least : (n i : ℕ) → n ≤ i * a → place_count_below a n * a ≤ i * a
  below_least n i h = place_le (place_count_below a n) i (omega (arith, below_lt n))

  pub below_unique : (n c : ℕ) → n ≤ c * a → c * a < n + a → place_count_below a n ≡ c
  below_unique n c h k =
      let ge : n ≤ place_count_below a n * a = below_ge n in
      let lt : place_count_below a n * a < n + a = below_lt n in
      let u : place_count_below a n * a ≤ c * a = place_le (place_count_below a n) c (omega arith) in
      let v : c * a ≤ place_count_below a n * a = place_le c (place_count_below a n) (omega arith) in
      eq_of_mul-eq-mul_right a pos (place_count_below a n) c (omega arith)

  -- Counted on from a place.
  pub below-add : (i n : ℕ) → place_count_below a (i * a + n) ≡ i + place_count_below a n
  below-add i n = let l = below_ge n in let h = below_lt n in below_unique (i * a + n) (i + place_count_below a n) (omega arith) (omega arith)

  pub below_zero : place_count_below a 0 ≡ 0
  below_zero = below_unique 0 0 (omega arith) (omega arith)

  -- One place more, below the end.
  pub below_next : (e p : ℕ) → p < e → place_count_below a (e - p) ≡ suc (place_count_below a (e - (p + a)))
  below_next e p h = go (place_count_below a (e - (p + a))) (below_ge (e - (p + a))) (below_lt (e - (p + a))) (λ z. rw z below_zero)
    where
      go : (c : ℕ) → e - (p + a) ≤ c * a → c * a < (e - (p + a)) + a → (e - (p + a) ≡ 0 → c ≡ 0) → place_count_below a (e - p) ≡ suc c
      go c ge lt z = below_unique (e - p) (suc c) (omega arith) (by (dec_le e (p + a)))
        where
          by : Dec (e ≤ p + a) → suc c * a < e - p + a
          by (yes le) = rw (z (omega arith)) (omega arith)
          by (no g) = omega arith

  pub below_end : (e p : ℕ) → e ≤ p → place_count_below a (e - p) ≡ 0
  below_end e p h = below_unique (e - p) 0 (omega arith) (omega arith)

  pub below_pos : (e p j : ℕ) → place_count_below a (e - p) ≡ suc j → p < e
  below_pos e p j c = go (dec_lt p e)
    where
      go : Dec (p < e) → p < e
      go (yes h) = h
      go (no g) = absurd (omega (arith, below_end e p (omega arith)))

-- The way from the place after p up to a later place.
pub gap : (a p i q : ℕ) → p ≡ i * a → i < q → p + a + (q - suc i) * a ≡ q * a
gap a p i q e h = go (q - suc i) (omega arith)
  where
    go : (d : ℕ) → q ≡ suc i + d → p + a + d * a ≡ q * a
    go d f = rw f (omega arith)

-- The members of a row of places.
pub mem_places : (a k p x : ℕ) → Memᴰ x (places a k p) → (i : ℕ) × (i < k) × (x ≡ p + i * a)
unfolding places
mem_places a zero p x m = absurd (Memᴰ.not-nil m)
mem_places a (suc k) p x m = go (Memᴰ.cases_cons m) (λ m'. mem_places a k (p + a) x m')
  where
    go : (x ≡ p) ⊎ Memᴰ x (places a k (p + a)) → (Memᴰ x (places a k (p + a)) → (i : ℕ) × (i < k) × (x ≡ p + a + i * a))
        → (i : ℕ) × (i < suc k) × (x ≡ p + i * a)
    go (inl e) ih = (0, omega arith, omega arith)
    go (inr m') ih = let (i, h, e) = ih m' in (suc i, omega arith, omega arith)

pub places_mem : (a k p i : ℕ) → i < k → Memᴰ (p + i * a) (places a k p)
unfolding places
places_mem a zero p i h = absurd (omega arith)
places_mem a (suc k) p zero h = Memᴰ.head {x = p} (omega arith)
places_mem a (suc k) p (suc i) h = Memᴰ.tail (Memᴰ.cast {b = p + a + i * a} (omega arith) (places_mem a k (p + a) i (omega arith)))

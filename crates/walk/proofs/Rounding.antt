-- The rounding to places: by the rest that a number leaves, and stated for an alignment of 2^k.
use Prim.Native.Nat.{ℕ, suc, ◌+◌, ◌*◌, ◌-◌, ◌/◌, ◌%◌, ◌^◌, ◌≤◌, ◌<◌, min}
use native.Mathlib.Nat.{mul-mod_left, div-add-mod', mod-lt, min-eq_right}
use native.Mathlib.Omega.{arith}
use mathlib.Core.Path.{◌≡◌, sym}
use mathlib.Core.List.{List}
use lib.ListN.{length}
use lib.Pow.{pow_pos}
use Rattle.walk.specs.Walk.{place_count_below, next_place, Rounded}
use Rattle.walk.proofs.Places.{no_places, below_ge, below_least, below_unique}

-- The first place at or after n, by the rest that n leaves.

pub next_place_is : (r : List ℕ) (a n : ℕ) → 0 < a → n ≤ length r → n % a ≡ 0 → n ≡ next_place r a n
unfolding next_place
next_place_is r a n pos h e = let q : place_count_below a n ≡ n / a =
    below_unique a pos n (n / a) (omega (arith, div-add-mod' n a)) (omega (arith, div-add-mod' n a)) in
    rw q (omega (arith, div-add-mod' n a))

pub next_place_up : (r : List ℕ) (a n : ℕ) → 0 < a → (n % a ≡ 0 → ⊥) → length r < 2 ^ 64
    → next_place r a n ≡ min (min (n + (a - n % a)) (2 ^ 64 - 1)) (length r)
unfolding next_place
next_place_up r a n pos e h =
    let l : n % a < a = mod-lt n pos in
    let d : n / a * a + n % a ≡ n = div-add-mod' n a in
    let q : place_count_below a n ≡ suc (n / a) = below_unique a pos n (suc (n / a)) (omega arith) (omega arith) in
    let m : n + (a - n % a) ≡ suc (n / a) * a = omega arith in
    rw (q, ← m) (omega arith)

pub next_place_none : (r : List ℕ) (a n : ℕ) → a ≡ 0 → 0 ≡ next_place r a n
unfolding next_place
next_place_none r a n e = rw (e, no_places n) (omega arith)

pub next_place_past : (r : List ℕ) (a n : ℕ) → 0 < a → length r ≤ n → length r ≡ next_place r a n
unfolding next_place
next_place_past r a n pos h = let g : n ≤ place_count_below a n * a = below_ge a pos n in sym (min-eq_right (omega arith))

-- For `search`: how the code rounds.
pub ruleset rounding = (next_place_none, next_place_past, next_place_is, next_place_up)

pub rounded : (k n : ℕ) → Rounded (2 ^ k) n (place_count_below (2 ^ k) n * 2 ^ k)
rounded k n = record {
  multiple = mul-mod_left (place_count_below (2 ^ k) n) (2 ^ k);
  after = below_ge (2 ^ k) (pow_pos k) n;
  first = λ m z h.
      let e : m / 2 ^ k * 2 ^ k + m % 2 ^ k ≡ m = div-add-mod' m (2 ^ k) in
      let b : place_count_below (2 ^ k) n * 2 ^ k ≤ m / 2 ^ k * 2 ^ k = below_least (2 ^ k) (pow_pos k) n (m / 2 ^ k) (omega arith) in
      omega arith;
}

-- Laws of sums.
use Prim.Native.Nat.{ℕ, suc, ◌+◌, ◌*◌, ◌%◌, ◌≤◌, ◌<◌}
use native.Mathlib.Omega.{arith}
use native.Mathlib.Numerals.{add-one}
use mathlib.Core.Path.{◌≡◌, refl, sym, ap, ◌∙◌}
use mathlib.Core.List.{List, [], ◌∷◌, ◌++◌}
use mathlib.Core.Bool.{Bool, true, false, true≢false}
use lib.ListN.{length, get_or, take, drop, take-append-drop}
use lib.Dec.{eqb}
use borrow.Author.Tests.{eq-eqb, ne_eqb, eqb-true}
use lib.Seq.{take-suc, take_all, take-add, drop-drop, get_or-drop}
use Rattle.component.specs.Sums.{checksum_of, total, checksum_zeroed, span_sum, checksum_matches, checksum_byte_sum}

pub total-append : (u v : List ℕ) → total (u ++ v) ≡ total u + total v
unfolding total
total-append [] v = omega arith
total-append (b ∷ u) v = omega (arith, total-append u v)

-- The bytes before and after the checksum are what counts.
pub total_zeroed : (s : List ℕ) → total (checksum_zeroed s) ≡ total (take 16 s) + total (drop 20 s)
unfolding total
total_zeroed s = omega (arith, total-append (take 16 s) (0 ∷ 0 ∷ 0 ∷ 0 ∷ drop 20 s))

-- One byte more, and all.

pub sum_none : 0 ≡ total [] % 4294967296
unfolding total
sum_none = refl

pub sum_on : (s : List ℕ) (i : ℕ) → i < length s → (total (take i s) % 4294967296 + get_or s i 0) % 4294967296 ≡ total (take (i + 1) s) % 4294967296
unfolding total
sum_on s i h = rw (add-one i, take-suc s i 0 h, total-append (take i s) (get_or s i 0 ∷ [])) (split (total (take i s)) (get_or s i 0))
  where
    split : (t b : ℕ) → (t % 4294967296 + b) % 4294967296 ≡ (t + (b + 0)) % 4294967296
    split t b = omega arith

pub sum_all : (s : List ℕ) (i : ℕ) → length s ≤ i → total (take i s) % 4294967296 ≡ total s % 4294967296
sum_all s i h = rw (take_all i s h)

-- Two sums make one.
sum_parts : (t u : ℕ) → (t % 4294967296 + u % 4294967296) % 4294967296 ≡ (t + u) % 4294967296
sum_parts t u = omega arith

-- The first bytes taken off what is left to be summed.
pub sum_front : (s : List ℕ) (n : ℕ) (t : ℕ) {u v x : ℕ} → u ≡ total (take n s) % 4294967296 → v ≡ (t + u) % 4294967296 → (t + total s) % 4294967296 ≡ x
    → (v + total (drop n s)) % 4294967296 ≡ x
sum_front s n t e f g =
    let w : total s ≡ total (take n s) + total (drop n s) = ap total (sym (take-append-drop n s)) ∙ total-append (take n s) (drop n s) in
    omega (arith, e, f, g, w)

-- Some bytes more.
pub sum_block : (s : List ℕ) (i n : ℕ) {t u : ℕ} → t ≡ total (take i s) % 4294967296 → u ≡ total (take n (drop i s)) % 4294967296
    → (t + u) % 4294967296 ≡ total (take (i + n) s) % 4294967296
sum_block s i n e f = rw (e, f, sum_parts (total (take i s)) (total (take n (drop i s))), take-add i n s, total-append (take i s) (take n (drop i s)))

-- With its own bytes counted, the checksum stands on both sides.

four : (l : List ℕ) → total (take 4 l) ≡ get_or l 0 0 + get_or l 1 0 + get_or l 2 0 + get_or l 3 0
unfolding total
four [] = refl
four (a ∷ []) = omega arith
four (a ∷ b ∷ []) = omega arith
four (a ∷ b ∷ c ∷ []) = omega arith
four (a ∷ b ∷ c ∷ d ∷ l) = omega arith

total_checksum_bytes : (s : List ℕ) → total s ≡ total (checksum_zeroed s) + checksum_byte_sum s
total_checksum_bytes s =
    let d : drop 4 (drop 16 s) ≡ drop 20 s = drop-drop 4 16 s in
    let e : total (drop 16 s) ≡ total (take 4 (drop 16 s)) + total (drop 4 (drop 16 s)) =
    ap total (sym (take-append-drop 4 (drop 16 s))) ∙ total-append (take 4 (drop 16 s)) (drop 4 (drop 16 s)) in
    let f : total s ≡ total (take 16 s) + total (drop 16 s) = ap total (sym (take-append-drop 16 s)) ∙ total-append (take 16 s) (drop 16 s) in
    omega (arith, f, e, ap total d, four (drop 16 s), total_zeroed s, get_or-drop 16 s 0 0, get_or-drop 16 s 1 0, get_or-drop 16 s 2 0, get_or-drop 16 s 3 0)

-- So the comparison of the two is that of the stated sum and the span's.
pub sum_compared : (s : List ℕ) (x : ℕ) → x < 4294967296 → {t u : ℕ} → t ≡ total s % 4294967296 → u ≡ (x + checksum_byte_sum s) % 4294967296
    → eqb t u ≡ eqb x (span_sum s)
unfolding span_sum
sum_compared s x h {t} {u} e f = go (eqb x (total (checksum_zeroed s) % 4294967296)) refl
  where
    same : x ≡ total (checksum_zeroed s) % 4294967296 → t ≡ u
    same q = omega (arith, e, f, q, total_checksum_bytes s)

    back : t ≡ u → x ≡ total (checksum_zeroed s) % 4294967296
    back q = omega (arith, e, f, q, h, total_checksum_bytes s)

    go : (b : Bool) → eqb x (total (checksum_zeroed s) % 4294967296) ≡ b → eqb t u ≡ b
    go true q = eq-eqb t u (same (eqb-true x _ q))
    go false q = ne_eqb t u (λ z. true≢false (sym (eq-eqb x _ (back z)) ∙ q))

pub stated_fits : (s : List ℕ) (x : ℕ) → x ≡ checksum_of s → (x ≡ 0 → ⊥) → x < 4294967296
    → {t o u : ℕ} → t ≡ total s % 4294967296 → o ≡ checksum_byte_sum s → u ≡ (x + o) % 4294967296 → eqb t u ≡ checksum_matches s
unfolding checksum_matches
stated_fits s x q n h e o f = sum_compared s x h e (f ∙ rw o) ∙ rw (← q, ne_eqb x 0 n)

-- Bytes are at most 255.
pub total_most : (s : List ℕ) → ((j : ℕ) → get_or s j 0 < 256) → total s ≤ 255 * length s
unfolding total
total_most [] h = omega arith
total_most (b ∷ s) h = omega (arith, h 0, total_most s (λ j. h (suc j)))

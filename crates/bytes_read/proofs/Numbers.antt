-- Laws of the numbers in bytes, each over the width.
use Prim.Native.Nat.{ℕ, zero, suc, ◌+◌, ◌-◌, ◌*◌, ◌/◌, ◌%◌, ◌^◌, ◌≤◌, ◌<◌}
use mathlib.Core.Path.{◌≡◌, refl, sym, ◌∙◌}
use mathlib.Core.List.{List, [], ◌∷◌, ◌++◌, append_assoc}
use native.Mathlib.Nat.{div-add-mod', div-lt_iff_lt-mul, pow-suc, add-zero, zero-add, add-suc, sub-zero, suc-add, add-mul, mul_assoc, mul_comm}
use native.Mathlib.Omega.{arith}
use native.Mathlib.Decide.{dec_lt}
use lib.ListN.{length, take, drop, get_or, length-append, get_or-eq_default}
use lib.Seq.{get_or_at, get_or-take, get_or-drop}
use Rattle.std.specs.Int.{sum_through, byte_worth}
use Rattle.bytes_read.specs.Number.{be, le, be_bytes, le_bytes, swap_bytes}

-- Past the end every number is 0.

pub be_past : (w : ℕ) (s : List ℕ) (i : ℕ) → length s ≤ i → be w s i ≡ 0
unfolding be
be_past zero s i h = refl
be_past (suc w) s i h = rw (be_past w s i h, get_or-eq_default s 0 {n = i + w} (omega arith))

pub le_past : (w : ℕ) (s : List ℕ) (i : ℕ) → length s ≤ i → le w s i ≡ 0
unfolding le
le_past zero s i h = refl
le_past (suc w) s i h = rw (le_past w s (i + 1) (omega arith), get_or-eq_default s 0 {n = i} h)

-- A number of m + n bytes is made of one of m and one of n.
pub be_split : (m n : ℕ) (s : List ℕ) (i : ℕ) → be (m + n) s i ≡ be m s i * 256 ^ n + be n s (i + m)
unfolding be
be_split m zero s i = rw add-zero (omega arith)
be_split m (suc n) s i =
    let e : i + (m + n) ≡ i + m + n = omega arith in
    rw (add-suc m n, be_split m n s i, e, pow-suc 256 n) (omega arith)

pub le_split : (m n : ℕ) (s : List ℕ) (i : ℕ) → le (m + n) s i ≡ le m s i + le n s (i + m) * 256 ^ m
unfolding le
le_split zero n s i = rw (zero-add n, add-zero i) (omega arith)
le_split (suc m) n s i =
    let e : i + 1 + m ≡ i + suc m = omega arith in
    rw (suc-add m n, le_split m n s (i + 1), e, pow-suc 256 m) (omega arith)

-- The same for two halves that were read.
pub le_join : (w : ℕ) (s : List ℕ) (i : ℕ) {x y : ℕ} → x ≡ le w s i → y ≡ le w s (i + w) → x + y * 256 ^ w ≡ le (w + w) s i
le_join w s i p q = rw (p, q) (sym (le_split w w s i))

le_one : (s : List ℕ) (i : ℕ) → get_or s i 0 ≡ le 1 s i
unfolding le
le_one s i = omega arith

-- The bytes of a little-endian number in the other order make the big-endian one.

last : (a x : ℕ) → a < 256 → (a + x * 256) % 256 ≡ a
last a x p = omega arith

swap : (a b c d : ℕ) → a < 256 → b < 256 → c < 256
    → swap_bytes (a + (b + (c + (d + 0 * 256) * 256) * 256) * 256) ≡ (((0 * 256 + a) * 256 + b) * 256 + c) * 256 + d
swap a b c d p q r =
    let v : ℕ = a + (b + (c + (d + 0 * 256) * 256) * 256) * 256 in
    let e₁ : v / 256 ≡ b + (c + (d + 0 * 256) * 256) * 256 = omega arith in
    let e₂ : v / 65536 ≡ c + (d + 0 * 256) * 256 = omega arith in
    let e₃ : v / 16777216 ≡ d = omega arith in
    rw (e₁, e₂, e₃, last a (b + (c + (d + 0 * 256) * 256) * 256) p, last b (c + (d + 0 * 256) * 256) q, last c (d + 0 * 256) r) (omega arith)

pub swap_be : (s : List ℕ) (i : ℕ) → ((j : ℕ) → get_or s j 0 < 256) → swap_bytes (le 4 s i) ≡ be 4 s i
unfolding be le
swap_be s i h =
    let e₂ : i + 1 + 1 ≡ i + 2 = omega arith in
    let e₃ : i + 1 + 1 + 1 ≡ i + 3 = omega arith in
    rw (e₃, e₂, add-zero i) (swap (get_or s i 0) (get_or s (i + 1) 0) (get_or s (i + 2) 0) (get_or s (i + 3) 0) (h i) (h (i + 1)) (h (i + 2)))

-- A number of bytes that were copied from elsewhere.

pub be_moved : (w : ℕ) (s b : List ℕ) (i j : ℕ) → ((k : ℕ) → k < w → get_or b (j + k) 0 ≡ get_or s (i + k) 0) → be w b j ≡ be w s i
unfolding be
be_moved zero s b i j h = refl
be_moved (suc w) s b i j h = rw (be_moved w s b i j (λ k l. h k (omega arith)), h w (omega arith))

pub le_moved : (w : ℕ) (s b : List ℕ) (i j : ℕ) → ((k : ℕ) → k < w → get_or b (j + k) 0 ≡ get_or s (i + k) 0) → le w b j ≡ le w s i
unfolding le
le_moved zero s b i j h = refl
le_moved (suc w) s b i j h =
    let first : get_or b j 0 ≡ get_or s i 0 = simp add-zero at (h 0 (omega arith)) in
    let e : (k : ℕ) → j + 1 + k ≡ j + suc k = λ k. omega arith in
    let f : (k : ℕ) → i + 1 + k ≡ i + suc k = λ k. omega arith in
    rw (first, le_moved w s b (i + 1) (j + 1) (λ k l. rw (e k, f k) (h (suc k) (omega arith))))

-- What the library's methods make of such bytes.

worth : (i x : ℕ) → byte_worth i x ≡ x * 256 ^ i
worth zero x = omega arith
worth (suc i) x = refl

from_le : (w : ℕ) (b : List ℕ) → sum_through (λ k. byte_worth k (get_or b k 0)) w ≡ le (suc w) b 0
from_le zero b = le_one b 0
from_le (suc w) b =
    let n : suc (suc w) ≡ suc w + 1 = omega arith in
    rw (n, le_split (suc w) 1 b 0, zero-add (suc w), ← le_one b (suc w), from_le w b)

carried : (x y p : ℕ) → x * (p * 256) + y * p ≡ (x * 256 + y) * p
carried x y p = rw (add-mul, mul_assoc, mul_comm p 256)

from_be : (n w : ℕ) (b : List ℕ) → w ≤ n → sum_through (λ k. byte_worth (n - k) (get_or b k 0)) w ≡ be (suc w) b 0 * 256 ^ (n - w)
unfolding be
from_be n zero b h = rw sub-zero (worth n (get_or b 0 0) ∙ omega arith)
from_be n (suc w) b h =
    let m : n - w ≡ suc (n - suc w) = omega arith in
    let z : 0 + suc w ≡ suc w = omega arith in
    rw (z, from_be n w b (omega arith), worth (n - suc w) (get_or b (suc w) 0), m, pow-suc 256 (n - suc w))
    (carried (be (suc w) b 0) (get_or b (suc w) 0) (256 ^ (n - suc w)))

pub read_le : (w : ℕ) (s b : List ℕ) (i : ℕ) → ((k : ℕ) → k < suc w → get_or b k 0 ≡ get_or s (i + k) 0)
    → sum_through (λ k. byte_worth k (get_or b k 0)) w ≡ le (suc w) s i
read_le w s b i h = from_le w b ∙ le_moved (suc w) s b i 0 (λ k l. rw (zero-add k) (h k l))

pub read_be : (w : ℕ) (s b : List ℕ) (i : ℕ) → ((k : ℕ) → k < suc w → get_or b k 0 ≡ get_or s (i + k) 0)
    → sum_through (λ k. byte_worth (w - k) (get_or b k 0)) w ≡ be (suc w) s i
read_be w s b i h =
    let one : w - w ≡ 0 = omega arith in
    from_be w w b (omega arith) ∙ rw one (omega (arith, be_moved (suc w) s b i 0 (λ k l. rw (zero-add k) (h k l))))

-- A number is determined by its own bytes.

pub be_same : (w : ℕ) (s s' : List ℕ) (i : ℕ) → ((j : ℕ) → i ≤ j → j < i + w → get_or s' j 0 ≡ get_or s j 0) → be w s' i ≡ be w s i
unfolding be
be_same zero s s' i h = refl
be_same (suc w) s s' i h = rw (be_same w s s' i (λ j l k. h j l (omega arith)), h (i + w) (omega arith) (omega arith))

pub le_same : (w : ℕ) (s s' : List ℕ) (i : ℕ) → ((j : ℕ) → i ≤ j → j < i + w → get_or s' j 0 ≡ get_or s j 0) → le w s' i ≡ le w s i
unfolding le
le_same zero s s' i h = refl
le_same (suc w) s s' i h = rw (le_same w s s' (i + 1) (λ j l k. h j (omega arith) (omega arith)), h i (omega arith) (omega arith))

-- In a part of the bytes it is the same as in the whole.

pub be_within : (w : ℕ) (s : List ℕ) (a n i : ℕ) → i + w ≤ n → be w (take n (drop a s)) i ≡ be w s (a + i)
unfolding be
be_within zero s a n i h = refl
be_within (suc w) s a n i h =
    let e : a + (i + w) ≡ a + i + w = omega arith in
    rw (be_within w s a n i (omega arith), get_or-take n (drop a s) (i + w) 0 (omega arith), get_or-drop a s (i + w) 0, e)

pub le_within : (w : ℕ) (s : List ℕ) (a n i : ℕ) → i + w ≤ n → le w (take n (drop a s)) i ≡ le w s (a + i)
unfolding le
le_within zero s a n i h = refl
le_within (suc w) s a n i h =
    let e : a + (i + 1) ≡ a + i + 1 = omega arith in
    rw (le_within w s a n (i + 1) (omega arith), get_or-take n (drop a s) i 0 (omega arith), get_or-drop a s i 0, e)

-- Read in the part that is cut out for it.
pub le_cut : (w : ℕ) (s : List ℕ) (i : ℕ) → le w (take (i + w - i) (drop i s)) 0 ≡ le w s i
le_cut w s i =
    let n : i + w - i ≡ w = omega arith in
    rw (n, le_within w s i w 0 (omega arith), add-zero i)

-- They follow from it: two numbers that are equal have the same bytes.
pub le_tells : (w : ℕ) (s t : List ℕ) (i : ℕ) → ((j : ℕ) → get_or s j 0 < 256) → ((j : ℕ) → get_or t j 0 < 256) → le w s i ≡ le w t i → (j : ℕ) → i ≤ j
    → j < i + w → get_or s j 0 ≡ get_or t j 0
unfolding le
le_tells zero s t i p q e j l h = absurd (omega arith)
le_tells (suc w) s t i p q e j l h = go (dec_lt i j) (le_tells w s t (i + 1) p q (omega (arith, p i, q i)) j)
  where
    go : Dec (i < j) → (i + 1 ≤ j → j < i + 1 + w → get_or s j 0 ≡ get_or t j 0) → get_or s j 0 ≡ get_or t j 0
    go (yes k) ih = ih (omega arith) (omega arith)
    go (no k) ih = let z : j ≡ i = omega arith in rw z (omega (arith, p i, q i))

-- What was written is read again.

pub length-be_bytes : (w v : ℕ) → length (be_bytes w v) ≡ w
unfolding be_bytes
length-be_bytes zero v = refl
length-be_bytes (suc w) v = simp length-append (omega (arith, length-be_bytes w (v / 256)))

shorter : (w v : ℕ) → v < 256 ^ suc w → v / 256 < 256 ^ w
shorter w v h = (div-lt_iff_lt-mul {k = 256} (omega arith)).1 (rw pow-suc at h)

pub be-be_bytes : (w v : ℕ) (p q : List ℕ) (i : ℕ) → length p ≡ i → v < 256 ^ w → be w (p ++ (be_bytes w v ++ q)) i ≡ v
unfolding be be_bytes
be-be_bytes zero v p q i l h = omega arith
be-be_bytes (suc w) v p q i l h =
    let d : v / 256 < 256 ^ w = shorter w v h in
    let a : (be_bytes w (v / 256) ++ (v % 256 ∷ [])) ++ q ≡ be_bytes w (v / 256) ++ (v % 256 ∷ q) = append_assoc (be_bytes w (v / 256)) (v % 256 ∷ []) q in
    let b : length (p ++ be_bytes w (v / 256)) ≡ i + w = simp length-append (omega (arith, length-be_bytes w (v / 256))) in
    let g : get_or (p ++ (be_bytes w (v / 256) ++ (v % 256 ∷ q))) (i + w) 0 ≡ v % 256 =
    rw (← append_assoc p (be_bytes w (v / 256)) (v % 256 ∷ q)) (get_or_at (p ++ be_bytes w (v / 256)) (v % 256) q 0 (i + w) b) in
    rw (a, be-be_bytes w (v / 256) p (v % 256 ∷ q) i l d, g) (div-add-mod' v 256)

pub le-le_bytes : (w v : ℕ) (p q : List ℕ) (i : ℕ) → length p ≡ i → v < 256 ^ w → le w (p ++ (le_bytes w v ++ q)) i ≡ v
unfolding le le_bytes
le-le_bytes zero v p q i l h = omega arith
le-le_bytes (suc w) v p q i l h =
    let d : v / 256 < 256 ^ w = shorter w v h in
    let a : p ++ (v % 256 ∷ (le_bytes w (v / 256) ++ q)) ≡ (p ++ (v % 256 ∷ [])) ++ (le_bytes w (v / 256) ++ q) =
    sym (append_assoc p (v % 256 ∷ []) (le_bytes w (v / 256) ++ q)) in
    let b : length (p ++ (v % 256 ∷ [])) ≡ i + 1 = simp length-append (omega arith) in
    let r : le w (p ++ (v % 256 ∷ (le_bytes w (v / 256) ++ q))) (i + 1) ≡ v / 256 = rw a (le-le_bytes w (v / 256) (p ++ (v % 256 ∷ [])) q (i + 1) b d) in
    rw (get_or_at p (v % 256) (le_bytes w (v / 256) ++ q) 0 i l, r) (omega (arith, div-add-mod' v 256))

-- Laws of the text on a page and of its digits.
use Prim.Native.Nat.{ℕ, zero, suc, ◌+◌, ◌*◌, ◌/◌, ◌%◌, ◌^◌, ◌-◌, ◌<◌}
use mathlib.Core.Path.{◌≡◌, refl, sym, ◌∙◌}
use mathlib.Core.Bool.{true, false, true≢false}
use mathlib.Core.List.{List, [], ◌∷◌, ◌++◌}
use native.Mathlib.Nat.{le_of_suc-le-suc, not-suc-le-zero, div-div-eq-div-mul, div-one, pow-suc, mul_comm}
use native.Mathlib.Decide.{dec_lt}
use native.Mathlib.Omega.{arith}
use lib.ListN.{length, get_or, set, length-append, get_or-append}
use lib.Seq.{get_or_at, ext_get_or}
use lib.Dec.{eqb}
use lib.Pow.{pow-add}
use borrow.Author.Tests.{eqb-true}
use Rattle.bytes_read.proofs.Overwrite.{Over, over_next}
use Rattle.program_text.specs.Digits.{digit_of, digits, hex_pairs, hex_of, type_digits}

pub length_pairs : (s : List ℕ) → length (hex_pairs s) ≡ 2 * length s
unfolding digits hex_pairs
length_pairs [] = refl
length_pairs (b ∷ s) = omega (arith, length_pairs s)

-- The two digits of the byte at i.
pub pairs_at : (s : List ℕ) (i : ℕ) → i < length s
    → (get_or (hex_pairs s) (2 * i) 0 ≡ digit_of 97 (get_or s i 0 / 16 % 16)) × (get_or (hex_pairs s) (2 * i + 1) 0 ≡ digit_of 97 (get_or s i 0 % 16))
unfolding digits hex_pairs
pairs_at [] i h = absurd (not-suc-le-zero h)
pairs_at (b ∷ s) zero h = (refl, refl)
pairs_at (b ∷ s) (suc i) h =
    let e : 2 * suc i ≡ suc (suc (2 * i)) = omega arith in
    let f : 2 * suc i + 1 ≡ suc (suc (2 * i + 1)) = omega arith in
    rw (f, e) (pairs_at s i (le_of_suc-le-suc h))

-- One byte more, by two stores.
pub pairs_next : (s : List ℕ) {d₀ d : List ℕ} {i b x y : ℕ} → Over (hex_pairs s) d₀ d (2 * i) → i < length s → b ≡ get_or s i 0 → x ≡ digit_of 97 (b / 16 % 16)
    → y ≡ digit_of 97 (b % 16)
    → Over (hex_pairs s) d₀ (set (set d (2 * i) x) (2 * i + 1) y) (2 * (i + 1))
pairs_next s {d₀} {d} {i} {b} {x} {y} o h e p q =
    let two = pairs_at s i h in
    let all : length (hex_pairs s) ≡ 2 * length s = length_pairs s in
    let l : 2 * i < length (hex_pairs s) = omega arith in
    let m : 2 * i + 1 < length (hex_pairs s) = omega arith in
    let n : 2 * i + 1 + 1 ≡ 2 * (i + 1) = omega arith in
    rw n at (over_next y (over_next x o l (two.0 ∙ rw (p, e))) m (two.1 ∙ rw (q, e)))

-- No bytes, and some.

pub hex_none : (s : List ℕ) → eqb (length s) 0 ≡ true → hex_of s ≡ 45 ∷ []
unfolding hex_of
hex_none [] h = refl
hex_none (b ∷ s) h = absurd (let e = eqb-true _ _ h in omega arith)

pub hex_some : (s : List ℕ) → eqb (length s) 0 ≡ false → hex_of s ≡ hex_pairs s
unfolding hex_of
hex_some [] h = absurd (true≢false h)
hex_some (b ∷ s) h = refl

-- What `hex` writes, and how long it is.
pub ruleset hex_text = (hex_none, hex_some, length_pairs)

-- The digits one by one.

length-digits : (ten k n : ℕ) → length (digits ten k n) ≡ k
unfolding digits
length-digits ten zero n = refl
length-digits ten (suc k) n = simp length-append (omega (arith, length-digits ten k (n / 16)))

digit_at : (ten k n j : ℕ) → j < k → get_or (digits ten k n) j 0 ≡ digit_of ten (n / 16 ^ (k - suc j) % 16)
unfolding digits
digit_at ten zero n j h = absurd (omega arith)
digit_at ten (suc k) n j h = go (dec_lt j k) (digit_at ten k (n / 16) j)
  where
    last : List ℕ
    last = digit_of ten (n % 16) ∷ []

    go : Dec (j < k) → (j < k → get_or (digits ten k (n / 16)) j 0 ≡ digit_of ten (n / 16 / 16 ^ (k - suc j) % 16))
        → get_or (digits ten k (n / 16) ++ last) j 0 ≡ digit_of ten (n / 16 ^ (suc k - suc j) % 16)
    go (yes l) ih =
        let m : suc k - suc j ≡ suc (k - suc j) = omega arith in
        get_or-append (digits ten k (n / 16)) last 0 j (rw length-digits l)
        ∙ rw (ih l, div-div-eq-div-mul, m, pow-suc 16 (k - suc j), mul_comm 16 (16 ^ (k - suc j)))
    go (no g) ih =
        let m : suc k - suc j ≡ 0 = omega arith in
        get_or_at (digits ten k (n / 16)) (digit_of ten (n % 16)) [] 0 j (rw length-digits (omega arith)) ∙ rw (m, div-one)

-- Four bits make a digit.
sixteen : (m : ℕ) → 2 ^ (4 * m) ≡ 16 ^ m
sixteen zero = refl
sixteen (suc m) =
    let e : 4 * suc m ≡ 4 * m + 4 = omega arith in
    rw (e, pow-add 2 (4 * m) 4, sixteen m, pow-suc 16 m)

-- Eight digits, each found by a shift.
pub eight : (n : ℕ) (l : List ℕ) → length l ≡ 8 → ((k : ℕ) → k < 8 → get_or l k 0 ≡ digit_of 65 (n / 2 ^ (28 - 4 * k) % 16)) → l ≡ type_digits n
unfolding type_digits
eight n l e h = ext_get_or 0 l (digits 65 8 n) (rw length-digits e) (λ j b.
    let i : j < 8 = omega arith in
    let m : 28 - 4 * j ≡ 4 * (8 - suc j) = omega arith in
    rw m at (h j i) ∙ rw (sixteen (8 - suc j)) (sym (digit_at 65 8 n j i)))

-- Laws of names: test by test, and as parts of the bytes.
use Prim.Native.Nat.{ℕ, zero, suc, ◌+◌, ◌≤◌, ◌<◌, min}
use native.Mathlib.Omega.{arith}
use native.Mathlib.Decide.{dec_le}
use mathlib.Core.Path.{◌≡◌, refl, sym, ◌∙◌}
use mathlib.Core.Bool.{Bool, true, false, cond}
use mathlib.Core.List.{List, [], ◌∷◌}
use lib.ListN.{length, take, drop, get_or, length-drop, get_or-eq_default}
use lib.Dec.{leb}
use borrow.Author.Tests.{le-leb, lt-leb, leb-true, eq-eqb, ne_eqb}
use Rattle.bytes_read.specs.Bytes.{part_of}
use Rattle.bytes_read.proofs.Passing.{fails, passes}
use Rattle.bytes_read.proofs.Splice.{part_in}
use Rattle.bytes_read.specs.Printable.{printable_prefix}
use Rattle.bytes_read.proofs.Printable.{prefix_take, prefix_le}
use Rattle.fmap_area.specs.Names.{area_name_tests, area_name_fits, area_name_of, area_name_at}

-- The length of the name, by the tests. n is what was counted, up to 32.

bad : (f : List ℕ) (k : ℕ) → get_or (area_name_tests f (printable_prefix f)) k true ≡ false → 0 ≡ length (area_name_of f)
unfolding area_name_of area_name_fits
bad f k h = rw (fails k (area_name_tests f (printable_prefix f)) h)

pub name_long : (f : List ℕ) (n : ℕ) → n ≡ min 32 (length (printable_prefix f)) → 31 < n → 0 ≡ length (area_name_of f)
unfolding area_name_tests
name_long f n e h = bad f 1 (lt-leb (length (printable_prefix f)) 31 (omega arith))

-- Within the bytes, what stands past their end does not matter.
pub within : (f : List ℕ) (n : ℕ) → n < length f → get_or f n 1 ≡ get_or f n 0
within [] n h = absurd (omega arith)
within (b ∷ f) zero h = refl
within (b ∷ f) (suc n) h = within f n (omega arith)

unended : (f : List ℕ) (n : ℕ) → n ≡ min 32 (length (printable_prefix f)) → n ≤ 31 → (get_or f n 1 ≡ 0 → ⊥) → 0 ≡ length (area_name_of f)
unfolding area_name_tests
unended f n e l h = let q : length (printable_prefix f) ≡ n = omega arith in bad f 2 (rw q (ne_eqb _ _ h))

pub name_cut : (f : List ℕ) (n : ℕ) → n ≡ min 32 (length (printable_prefix f)) → n ≤ 31 → length f ≤ n → 0 ≡ length (area_name_of f)
name_cut f n e l h = unended f n e l (λ z. absurd (omega (arith, z, get_or-eq_default f 1 h)))

pub name_without_zero : (f : List ℕ) (n : ℕ) → n ≡ min 32 (length (printable_prefix f)) → n ≤ 31 → n < length f → (get_or f n 0 ≡ 0 → ⊥)
    → 0 ≡ length (area_name_of f)
name_without_zero f n e l h z = unended f n e l (λ y. z (sym (within f n h) ∙ y))

-- A fit name has a byte.
some_letter : (f : List ℕ) → area_name_fits f ≡ true → 1 ≤ length (printable_prefix f)
unfolding area_name_fits area_name_tests
some_letter f h = leb-true 1 (length (printable_prefix f)) (passes 0 (area_name_tests f (printable_prefix f)) h)

part_none : (s : List ℕ) (p : ℕ) → part_of s p 0 ≡ []
unfolding part_of
part_none s p = go (leb (p + 0) (length s))
  where
    go : (b : Bool) → cond b (take 0 (drop p s)) [] ≡ []
    go true = refl
    go false = refl

pub name_good : (f : List ℕ) (n : ℕ) → n ≡ min 32 (length (printable_prefix f)) → n ≤ 31 → n < length f → get_or f n 0 ≡ 0 → n ≡ length (area_name_of f)
unfolding area_name_of area_name_fits area_name_tests
name_good f n e l m z = by (dec_le 1 n)
  where
    q : length (printable_prefix f) ≡ n
    q = omega arith

    by : Dec (1 ≤ n) → n ≡ length (area_name_of f)
    by (yes h) = rw (q, le-leb 1 n h, le-leb n 31 l, eq-eqb _ _ (within f n m ∙ z)) (sym q)
    by (no g) = omega (arith, bad f 0 (lt-leb 1 (length (printable_prefix f)) (omega (arith, q))))

-- The four ways that a count of bytes ends.
pub ruleset name_counted = (name_long, name_cut, name_without_zero, name_good)

-- A name is fit exactly if it is not empty.

pub name_unfit : (f : List ℕ) → length (area_name_of f) ≡ 0 → area_name_fits f ≡ false
unfolding area_name_of
name_unfit f e = go (area_name_fits f) refl e
  where
    go : (b : Bool) → area_name_fits f ≡ b → length (cond b (printable_prefix f) []) ≡ 0 → b ≡ false
    go false q z = refl
    go true q z = absurd (omega (arith, z, some_letter f q))

pub name_fit : (f : List ℕ) → (length (area_name_of f) ≡ 0 → ⊥) → area_name_fits f ≡ true
unfolding area_name_of
name_fit f h = go (area_name_fits f) refl h
  where
    go : (b : Bool) → area_name_fits f ≡ b → (length (cond b (printable_prefix f) []) ≡ 0 → ⊥) → b ≡ true
    go false q z = absurd (z refl)
    go true q z = refl

pub ruleset name_fitness = (name_fit, name_unfit)

-- The name is a part of the bytes.
pub name_part : (s : List ℕ) (p n : ℕ) → n ≡ length (area_name_at s p) → part_of s p n ≡ area_name_at s p
unfolding area_name_of
name_part s p n e = go (area_name_fits (drop p s)) refl e
  where
    f : List ℕ
    f = drop p s

    go : (b : Bool) → area_name_fits f ≡ b → n ≡ length (cond b (printable_prefix f) []) → part_of s p n ≡ cond b (printable_prefix f) []
    go true q k =
        let l : p + n ≤ length s = omega (arith, some_letter f q, prefix_le f, length-drop p s) in
        sym (part_in s p n l) ∙ rw k (prefix_take f)
    go false q k = rw k (part_none s p)

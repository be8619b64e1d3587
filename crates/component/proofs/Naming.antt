-- Laws of names and their fields: as a loop over the indices meets them, test by test, and what follows from the length of a name.
use Prim.Native.Nat.{ℕ, suc, ◌≤◌, ◌<◌, min}
use mathlib.Core.Path.{◌≡◌, refl, sym, ap, ◌∙◌}
use mathlib.Core.Bool.{Bool, true, false, cond, true≢false, false≢true}
use mathlib.Core.List.{List, [], ◌∷◌}
use native.Mathlib.Omega.{arith}
use native.Mathlib.Decide.{dec_le}
use lib.ListN.{length, take, drop, get_or}
use lib.Dec.{leb, eqb}
use borrow.Author.Tests.{eqb-true, le-leb, leb-true, lt-ltb, ltb-true}
use Rattle.bytes_read.specs.Tests.{all}
use Rattle.bytes_read.specs.Printable.{is_printable, printable_prefix}
use Rattle.bytes_read.proofs.Passing.{fails, passes, all_true_last}
use Rattle.bytes_read.proofs.Printable.{prefix_le, all_prefix, prefix_all}
use Rattle.component.specs.Names.{is_zero, name_tests, name_fits, before_zero, field_tests, field_fits, name_length}

-- before_zero

pub before_take : (f : List ℕ) → take (length (before_zero f)) f ≡ before_zero f
unfolding before_zero
before_take [] = refl
before_take (b ∷ f) = go (eqb b 0) (before_take f)
  where
    go : (t : Bool) → take (length (before_zero f)) f ≡ before_zero f → take (length (cond t [] (b ∷ before_zero f))) (b ∷ f) ≡ cond t [] (b ∷ before_zero f)
    go true e = refl
    go false e = ap (λ (l : List ℕ). b ∷ l) e

pub before_le : (f : List ℕ) → length (before_zero f) ≤ length f
unfolding before_zero
before_le [] = omega arith
before_le (b ∷ f) = go (eqb b 0) (before_le f)
  where
    go : (t : Bool) → length (before_zero f) ≤ length f → length (cond t [] (b ∷ before_zero f)) ≤ suc (length f)
    go true h = omega arith
    go false h = omega arith

-- A fit name, by the tests.

pub name_bad : (n : List ℕ) (k : ℕ) → get_or (name_tests n) k true ≡ false → false ≡ name_fits n
unfolding name_fits
name_bad n k h = rw (fails k (name_tests n) h)

pub name_rest : (n : List ℕ) → 1 ≤ length n → length n ≤ 255 → eqb (min (length n) (length (printable_prefix n))) (length n) ≡ name_fits n
unfolding name_fits name_tests
name_rest n l m =
    let e : min (length n) (length (printable_prefix n)) ≡ length (printable_prefix n) = omega (arith, prefix_le n) in
    rw (le-leb 1 (length n) l, le-leb (length n) 255 m, e) (prefix_all n ∙ sym (all_true_last (all is_printable n)))

-- A fit field holds a name, which its length gives.

pub field_name : (f : List ℕ) → field_fits f ≡ true → name_fits (before_zero f) ≡ true
unfolding field_fits field_tests
field_name f e = passes 1 (field_tests f (before_zero f)) e

fit_long : (n : List ℕ) → name_fits n ≡ true → 1 ≤ length n
unfolding name_fits name_tests
fit_long n e = leb-true 1 (length n) (passes 0 (name_tests n) e)

pub length_fit : (f : List ℕ) → field_fits f ≡ true → name_length f ≡ length (before_zero f)
unfolding name_length
length_fit f e = rw e

pub length_zero : (f : List ℕ) → name_length f ≡ 0 → field_fits f ≡ false
unfolding name_length
length_zero f z = go (field_fits f) refl
  where
    go : (b : Bool) → field_fits f ≡ b → b ≡ false
    go false e = refl
    go true e = absurd (omega (arith, z, length_fit f e, fit_long (before_zero f) (field_name f e)))

pub length_pos : (f : List ℕ) (n : ℕ) → n ≡ name_length f → (n ≡ 0 → ⊥) → field_fits f ≡ true
unfolding name_length
length_pos f n q h = go (field_fits f) refl q
  where
    go : (b : Bool) → field_fits f ≡ b → n ≡ cond b (length (before_zero f)) 0 → field_fits f ≡ true
    go true e p = e
    go false e p = absurd (h p)

-- The bytes before the first zero of a fit field are those of 0x21 to 0x7E at its start; and where only zeros follow these, they are all that stands before
-- the first zero.

printed_before : (f : List ℕ) → all is_printable (before_zero f) ≡ true → length (before_zero f) < length f → printable_prefix f ≡ before_zero f
unfolding printable_prefix before_zero
printed_before [] p h = absurd (omega arith)
printed_before (b ∷ f) p h = go (eqb b 0) refl (is_printable b) refl p h (printed_before f)
  where
    go : (z : Bool) → eqb b 0 ≡ z → (t : Bool) → is_printable b ≡ t → all is_printable (cond z [] (b ∷ before_zero f)) ≡ true
        → length (cond z [] (b ∷ before_zero f)) < suc (length f)
        → (all is_printable (before_zero f) ≡ true → length (before_zero f) < length f → printable_prefix f ≡ before_zero f)
        → cond t (b ∷ printable_prefix f) [] ≡ cond z [] (b ∷ before_zero f)
    go true q true r p h ih = absurd (omega (arith, eqb-true b 0 q, leb-true 0x21 b (passes 0 (leb 0x21 b ∷ leb b 0x7E ∷ []) r)))
    go true q false r p h ih = refl
    go false q true r p h ih = ap (λ (l : List ℕ). b ∷ l) (ih (rw r at p) (omega arith))
    go false q false r p h ih = absurd (false≢true (rw r at p))

before_printed : (f : List ℕ) → length (printable_prefix f) < length f → all is_zero (drop (length (printable_prefix f)) f) ≡ true
    → before_zero f ≡ printable_prefix f
unfolding printable_prefix before_zero
before_printed [] h a = absurd (omega arith)
before_printed (b ∷ f) h a = go (eqb b 0) refl (is_printable b) refl h a (before_printed f)
  where
    go : (z : Bool) → eqb b 0 ≡ z → (t : Bool) → is_printable b ≡ t → length (cond t (b ∷ printable_prefix f) []) < suc (length f)
        → all is_zero (drop (length (cond t (b ∷ printable_prefix f) [])) (b ∷ f)) ≡ true
        → (length (printable_prefix f) < length f → all is_zero (drop (length (printable_prefix f)) f) ≡ true → before_zero f ≡ printable_prefix f)
        → cond z [] (b ∷ before_zero f) ≡ cond t (b ∷ printable_prefix f) []
    go true q true r h a ih = absurd (omega (arith, eqb-true b 0 q, leb-true 0x21 b (passes 0 (leb 0x21 b ∷ leb b 0x7E ∷ []) r)))
    go true q false r h a ih = refl
    go false q true r h a ih = ap (λ (l : List ℕ). b ∷ l) (ih (omega arith) a)
    go false q false r h a ih = absurd (false≢true (rw q at a))

-- The length of the name in a field, by the number n of bytes of 0x21 to 0x7E at its start.
module _ (f : List ℕ) (n : ℕ) (e : n ≡ min (length f) (length (printable_prefix f))) where
  counted : length (printable_prefix f) ≡ n
  counted = omega (arith, prefix_le f)

  -- What the tests say of a fit field.
  fit : field_fits f ≡ true → (length (before_zero f) ≡ n) × (n < length f) × (1 ≤ n) × (n ≤ 255) × (all is_zero (drop n f) ≡ true)
  unfolding field_fits field_tests name_fits name_tests
  fit q =
      let m : List ℕ = before_zero f in
      let short : length m < length f = ltb-true _ _ (passes 0 (field_tests f m) q) in
      let name : name_fits m ≡ true = passes 1 (field_tests f m) q in
      let same : length m ≡ n = sym (ap length (printed_before f (passes 2 (name_tests m) name) short)) ∙ counted in
      let least : 1 ≤ length m = leb-true _ _ (passes 0 (name_tests m) name) in
      let most : length m ≤ 255 = leb-true _ _ (passes 1 (name_tests m) name) in
      (same, omega arith, omega arith, omega arith, rw same at (passes 2 (field_tests f m) q))

  unfit : (field_fits f ≡ true → ⊥) → 0 ≡ name_length f
  unfolding name_length
  unfit h = go (field_fits f) refl
    where
      go : (b : Bool) → field_fits f ≡ b → 0 ≡ cond b (length (before_zero f)) 0
      go true q = absurd (h q)
      go false q = refl

  pub field_long : 255 < n → 0 ≡ name_length f
  field_long h = unfit (λ q. omega (arith, (fit q).3))

  pub field_without_zero : length f ≤ n → 0 ≡ name_length f
  field_without_zero h = unfit (λ q. omega (arith, (fit q).1))

  pub field_padding_not_zero : all is_zero (drop n f) ≡ false → 0 ≡ name_length f
  field_padding_not_zero h = unfit (λ q. true≢false (sym (fit q).4 ∙ h))

  pub field_fit : n ≤ 255 → n < length f → all is_zero (drop n f) ≡ true → n ≡ name_length f
  unfolding name_length field_fits field_tests name_fits name_tests
  field_fit h l z = by (dec_le 1 n)
    where
      same : before_zero f ≡ printable_prefix f
      same = before_printed f (omega (arith, counted)) (rw counted z)

      by : Dec (1 ≤ n) → n ≡ name_length f
      by (no g) = omega (arith, unfit (λ q. g (fit q).2))
      by (yes g) = rw (same, counted, lt-ltb n (length f) l, le-leb 1 n g, le-leb n 255 h, all_prefix f, z)

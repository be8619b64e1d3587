-- Laws of the bytes that a name begins with: as a loop over the indices meets them, and as a part of the bytes.
use Prim.Native.Nat.{ℕ, zero, suc, min, ◌+◌, ◌≤◌}
use native.Mathlib.Numerals.{one-add}
use native.Mathlib.Omega.{arith}
use mathlib.Core.Path.{◌≡◌, refl, sym, ap, ◌∙◌}
use mathlib.Core.Bool.{Bool, true, false, cond, ◌&&◌, true≢false, false≢true}
use mathlib.Core.List.{List, [], ◌∷◌}
use lib.ListN.{length, take}
use lib.Seq.{take-length}
use lib.Dec.{eqb}
use borrow.Author.Tests.{eq-eqb, ne_eqb}
use Rattle.std.specs.List.{prefix_len}
use Rattle.bytes_read.specs.Tests.{all}
use Rattle.bytes_read.specs.Printable.{is_printable, printable_prefix}

-- The longest front of which every byte passes, as the library counts it.
pub prefix_counted : (f : List ℕ) (most : ℕ) → length (take (prefix_len is_printable (take most f)) (take most f)) ≡ min most (length (printable_prefix f))
unfolding printable_prefix
prefix_counted [] zero = omega arith
prefix_counted [] (suc most) = omega arith
prefix_counted (b ∷ f) zero = omega arith
prefix_counted (b ∷ f) (suc most) = go (is_printable b) (prefix_counted f most)
  where
    go : (t : Bool) → length (take (prefix_len is_printable (take most f)) (take most f)) ≡ min most (length (printable_prefix f))
        → length (take (cond t (1 + prefix_len is_printable (take most f)) 0) (b ∷ take most f)) ≡ min (suc most) (length (cond t (b ∷ printable_prefix f) []))
    go true ih = rw one-add (omega arith)
    go false ih = omega arith

pub prefix_take : (f : List ℕ) → take (length (printable_prefix f)) f ≡ printable_prefix f
unfolding printable_prefix
prefix_take [] = refl
prefix_take (b ∷ f) = go (is_printable b) (prefix_take f)
  where
    go : (t : Bool) → take (length (printable_prefix f)) f ≡ printable_prefix f
        → take (length (cond t (b ∷ printable_prefix f) [])) (b ∷ f) ≡ cond t (b ∷ printable_prefix f) []
    go true e = ap (λ (l : List ℕ). b ∷ l) e
    go false e = refl

pub prefix_le : (f : List ℕ) → length (printable_prefix f) ≤ length f
unfolding printable_prefix
prefix_le [] = omega arith
prefix_le (b ∷ f) = go (is_printable b) (prefix_le f)
  where
    go : (t : Bool) → length (printable_prefix f) ≤ length f → length (cond t (b ∷ printable_prefix f) []) ≤ suc (length f)
    go true h = omega arith
    go false h = omega arith

pub all_prefix : (f : List ℕ) → all is_printable (printable_prefix f) ≡ true
unfolding printable_prefix
all_prefix [] = refl
all_prefix (b ∷ f) = go (is_printable b) refl (all_prefix f)
  where
    go : (t : Bool) → is_printable b ≡ t → all is_printable (printable_prefix f) ≡ true → all is_printable (cond t (b ∷ printable_prefix f) []) ≡ true
    go true q ih = rw q ih
    go false q ih = refl

-- Every byte is one of a name exactly if as many are counted as there are.

whole : (s : List ℕ) → all is_printable s ≡ true → printable_prefix s ≡ s
unfolding printable_prefix
whole [] e = refl
whole (b ∷ s) e = go (is_printable b) refl e (whole s)
  where
    go : (t : Bool) → is_printable b ≡ t → t && all is_printable s ≡ true → (all is_printable s ≡ true → printable_prefix s ≡ s)
        → cond t (b ∷ printable_prefix s) [] ≡ b ∷ s
    go true q f ih = ap (λ (l : List ℕ). b ∷ l) (ih f)
    go false q f ih = absurd (false≢true f)

pub prefix_all : (s : List ℕ) → eqb (length (printable_prefix s)) (length s) ≡ all is_printable s
prefix_all s = go (all is_printable s) refl
  where
    go : (t : Bool) → all is_printable s ≡ t → eqb (length (printable_prefix s)) (length s) ≡ t
    go true e = eq-eqb (length (printable_prefix s)) (length s) (ap length (whole s e))
    go false e =
        ne_eqb (length (printable_prefix s)) (length s)
        (λ l. true≢false (sym (all_prefix s) ∙ ap (all is_printable) (sym (prefix_take s) ∙ ap (λ (n : ℕ). take n s) l ∙ take-length s) ∙ e))

-- The least and the greatest byte of a name, and their neighbours.
worked : (printable_prefix (0x21 ∷ 0x7E ∷ 0x7F ∷ 0x21 ∷ []) ≡ 0x21 ∷ 0x7E ∷ []) × (printable_prefix (0x20 ∷ 0x21 ∷ []) ≡ [])
unfolding printable_prefix
worked = (refl, refl)

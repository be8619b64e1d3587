-- Laws of eq_bytes, for a loop over the indices and for whoever compares.
use Prim.Native.Nat.{ℕ, zero, suc, ◌-◌, ◌≤◌, ◌<◌}
use native.Mathlib.Omega.{arith}
use mathlib.Core.Path.{◌≡◌, refl, sym, ap, ◌∙◌}
use mathlib.Core.Bool.{Bool, true, false, cond, ◌&&◌, true≢false, false≢true}
use mathlib.Core.List.{List, [], ◌∷◌, reverse}
use lib.ListN.{length, take, drop}
use lib.Dec.{eqb}
use borrow.Author.Tests.{eq-eqb, eqb-true}
use Rattle.std.specs.Bool.{Decides}
use Rattle.std.specs.Cmp.Lexicographic.{pointwise}
use Rattle.std.proofs.lemmas.List.{reverse-reverse}
use Rattle.std.proofs.lemmas.Bool.Decides.{same_from_decides}
use Rattle.std.specs.Prelude.{Option, Some, None, MatchOption}
use Rattle.std.specs.Option.{option_eq}
use Rattle.std.specs.Array.{IsWholeChunk}
use denote.Ref.{Bor}
use Rattle.bytes_read.specs.Bytes.{eq_bytes}

pub eq_length : (a b : List ℕ) → (length a ≡ length b → ⊥) → eq_bytes a b ≡ false
unfolding eq_bytes
eq_length [] [] h = absurd (h refl)
eq_length [] (y ∷ b) h = refl
eq_length (x ∷ a) [] h = refl
eq_length (x ∷ a) (y ∷ b) h = rw (eq_length a b (λ e. h (ap suc e))) (cond_false (eqb x y))
  where
    cond_false : (t : Bool) → cond t false false ≡ false
    cond_false true = refl
    cond_false false = refl

-- The test says that the bytes are the same, and nothing else.
pub eq_true : (a b : List ℕ) → eq_bytes a b ≡ true → a ≡ b
unfolding eq_bytes
eq_true [] [] e = refl
eq_true [] (y ∷ b) e = absurd (false≢true e)
eq_true (x ∷ a) [] e = absurd (false≢true e)
eq_true (x ∷ a) (y ∷ b) e = go (eqb x y) refl e (eq_true a b)
  where
    go : (t : Bool) → eqb x y ≡ t → cond t (eq_bytes a b) false ≡ true → (eq_bytes a b ≡ true → a ≡ b) → x ∷ a ≡ y ∷ b
    go true q f ih = rw (eqb-true x y q, ih f)
    go false q f ih = absurd (false≢true f)

pub eq_refl : (a : List ℕ) → eq_bytes a a ≡ true
unfolding eq_bytes
eq_refl [] = refl
eq_refl (x ∷ a) = rw (eq-eqb x x refl) (eq_refl a)

-- Bytes that are not the same.
pub eq_apart : (a b : List ℕ) → (a ≡ b → ⊥) → eq_bytes a b ≡ false
eq_apart a b h = go (eq_bytes a b) refl
  where
    go : (t : Bool) → eq_bytes a b ≡ t → eq_bytes a b ≡ false
    go true e = absurd (h (eq_true a b e))
    go false e = e

-- The two may change places.
pub eq_sym : (u v : List ℕ) → eq_bytes u v ≡ false → eq_bytes v u ≡ false
eq_sym u v e = go (eq_bytes v u) refl
  where
    go : (b : Bool) → eq_bytes v u ≡ b → b ≡ false
    go false q = refl
    go true q = absurd (true≢false (sym (eq_refl u) ∙ rw (eq_true v u q) at e))

-- In the equation too.
pub eq_swap : (u v : List ℕ) → eq_bytes u v ≡ eq_bytes v u
eq_swap u v = go (eq_bytes u v) refl
  where
    go : (b : Bool) → eq_bytes u v ≡ b → eq_bytes u v ≡ eq_bytes v u
    go true q = rw (eq_true u v q) refl
    go false q = q ∙ sym (eq_sym u v q)

-- What comes first decides, and else what is behind it.
pub eq_split : (n : ℕ) (a b : List ℕ) → eq_bytes a b ≡ cond (eq_bytes (take n a) (take n b)) (eq_bytes (drop n a) (drop n b)) false
unfolding eq_bytes
eq_split zero a b = refl
eq_split (suc n) [] [] = refl
eq_split (suc n) [] (y ∷ b) = refl
eq_split (suc n) (x ∷ a) [] = refl
eq_split (suc n) (x ∷ a) (y ∷ b) = go (eqb x y) (eq_split n a b)
  where
    go : (t : Bool) → eq_bytes a b ≡ cond (eq_bytes (take n a) (take n b)) (eq_bytes (drop n a) (drop n b)) false
        → cond t (eq_bytes a b) false ≡ cond (cond t (eq_bytes (take n a) (take n b)) false) (eq_bytes (drop n a) (drop n b)) false
    go true ih = ih
    go false ih = refl

-- The library's test of two slices is this one.
pub eq_pointwise : (a b : List ℕ) → pointwise eqb a b ≡ eq_bytes a b
unfolding eq_bytes
eq_pointwise [] [] = refl
eq_pointwise [] (y ∷ b) = refl
eq_pointwise (x ∷ a) [] = refl
eq_pointwise (x ∷ a) (y ∷ b) = go (eqb x y) (eq_pointwise a b)
  where
    go : (t : Bool) → pointwise eqb a b ≡ eq_bytes a b → (t && pointwise eqb a b) ≡ cond t (eq_bytes a b) false
    go true ih = ih
    go false ih = refl

-- The first n bytes x and y of the two, as the library compares them: where they differ, so do the two, and else what is behind them decides.
module _ (n : ℕ) (a b : List ℕ) {x y : List ℕ} (e : x ≡ take n a) (f : y ≡ take n b) where
  fronts : {t : Bool} → pointwise eqb x y ≡ t → eq_bytes a b ≡ cond t (eq_bytes (drop n a) (drop n b)) false
  fronts q = eq_split n a b ∙ ap (λ t. cond t (eq_bytes (drop n a) (drop n b)) false) (sym (eq_pointwise (take n a) (take n b)) ∙ rw (e, f) at q)

  pub front_apart : pointwise eqb x y ≡ false → eq_bytes a b ≡ false
  front_apart q = fronts q

  pub front_same : {p q : List ℕ} → p ≡ drop n a → q ≡ drop n b → pointwise eqb x y ≡ true → eq_bytes p q ≡ eq_bytes a b
  front_same g h q = rw (g, h) (sym (fronts q))

-- So is a comparison from the last byte on.
pub eq_reverse : (a b : List ℕ) (r : Bool) → Decides r (reverse a ≡ reverse b) → r ≡ eq_bytes a b
eq_reverse a b r h =
    let back = λ (e : reverse a ≡ reverse b). rw (reverse-reverse, reverse-reverse) at (ap reverse e) in
    same_from_decides r (eq_bytes a b) h (λ e. ap reverse (eq_true a b e), λ e. rw (back e) (eq_refl b))

-- The last eight bytes of s, where there are as many.
abbrev pub Last : List ℕ → Option (Bor (List ℕ)) → Type 0
Last s r = MatchOption r (length s < 8) (λ y. (8 ≤ length s) × IsWholeChunk (drop (length s - 8) s) y.now 8)

abbrev pub same_last : Option (Bor (List ℕ)) → Option (Bor (List ℕ)) → Bool
same_last = option_eq (λ x y. pointwise eqb x.now y.now)

last_same : (s : List ℕ) (r q : Option (Bor (List ℕ))) → Last s r → Last s q → same_last r q ≡ true
last_same s None None f g = refl
last_same s None (Some y) f g = absurd (omega (arith, f, g.0))
last_same s (Some x) None f g = absurd (omega (arith, f.0, g))
last_same s (Some x) (Some y) f g = rw (f.1.same, g.1.same, eq_pointwise) (eq_refl (drop (length s - 8) s))

-- Where they differ, so do the two.
pub last_apart : (a b : List ℕ) (r q : Option (Bor (List ℕ))) → Last a r → Last b q → same_last r q ≡ false → eq_bytes a b ≡ false
last_apart a b r q f g e = eq_apart a b (λ h. true≢false (sym (last_same b r q (rw h at f) g) ∙ e))

-- Overwriting from the front, byte by byte: of d, the first i bytes are those of g, and the others still those of d₀.
use Prim.Native.Nat.{ℕ, zero, suc, ◌+◌, ◌≤◌, ◌<◌}
use mathlib.Core.Path.{◌≡◌, refl, ap, ◌∙◌}
use mathlib.Core.List.{List, [], ◌∷◌, ◌++◌, append-nil}
use native.Mathlib.Nat.{le_of_suc-le-suc, not-suc-le-zero}
use native.Mathlib.Numerals.{add-one}
use native.Mathlib.Omega.{arith}
use lib.ListN.{length, take, drop, get_or, set, length-set, drop_of_length-le}
use lib.Seq.{take_all}

pub record Over (g d₀ d : List ℕ) (i : ℕ) : Type 0 where
  pub within : i ≤ length g
  pub long : length g ≡ length d₀
  pub same : length d ≡ length d₀
  pub bytes : d ≡ take i g ++ drop i d₀

pub over_start : (g d : List ℕ) → length g ≡ length d → Over g d d 0
over_start g d h = record { within = omega arith; long = h; same = refl; bytes = refl }

over_set : (g d : List ℕ) (i v : ℕ) → i < length g → i < length d → get_or g i 0 ≡ v → set (take i g ++ drop i d) i v ≡ take (suc i) g ++ drop (suc i) d
over_set [] d i v hg hd e = absurd (not-suc-le-zero hg)
over_set (x ∷ g) [] i v hg hd e = absurd (not-suc-le-zero hd)
over_set (x ∷ g) (y ∷ d) zero v hg hd e = rw e
over_set (x ∷ g) (y ∷ d) (suc i) v hg hd e = ap (λ (l : List ℕ). x ∷ l) (over_set g d i v (le_of_suc-le-suc hg) (le_of_suc-le-suc hd) e)

pub over_next : {g d₀ d : List ℕ} {i : ℕ} (v : ℕ) → Over g d₀ d i → i < length g → get_or g i 0 ≡ v → Over g d₀ (set d i v) (i + 1)
over_next {g} {d₀} {d} {i} v o h e = record {
  within = omega arith;
  long = o.long;
  same = length-set d i v ∙ o.same;
  bytes = rw add-one (ap (λ (l : List ℕ). set l i v) o.bytes ∙ over_set g d₀ i v h (omega arith) e);
}

pub over_all : {g d₀ d : List ℕ} {i : ℕ} → Over g d₀ d i → length g ≤ i → d ≡ g
over_all {g} {d₀} {d} {i} o h = o.bytes ∙ rw (take_all i g h, drop_of_length-le d₀ {i = i} (omega arith)) (append-nil g)

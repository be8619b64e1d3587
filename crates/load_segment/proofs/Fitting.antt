-- What tests 23 to 25 say, each as a fact.
use Prim.Native.Nat.{ℕ, ◌+◌, ◌^◌, ◌≤◌}
use mathlib.Core.Path.{◌≡◌}
use mathlib.Core.Bool.{Bool, true}
use mathlib.Core.List.{List, [], ◌∷◌}
use lib.Dec.{leb}
use borrow.Author.Tests.{leb-true, eq-eqb}
use Rattle.bytes_read.proofs.Passing.{passes}
use Rattle.load_segment.specs.LoadSegment.{source_fits, len_fits, target_fits}

pub source_in : (at l p n : ℕ) → source_fits at l p n ≡ true → (at ≤ p) × (p + n ≤ at + l)
unfolding source_fits
source_in at l p n e = (leb-true at p (passes 0 ts e), leb-true (p + n) (at + l) (passes 1 ts e))
  where
    ts : List Bool
    ts = leb at p ∷ leb (p + n) (at + l) ∷ []

pub len_in : (c n m : ℕ) → len_fits c n m ≡ true → c ≡ 0 → n ≤ m
unfolding len_fits
len_in c n m e z = leb-true n m (rw (eq-eqb c 0 z) at e)

pub target_in : (a m : ℕ) → target_fits a m ≡ true → a + m ≤ 2 ^ 64
unfolding target_fits
target_in a m e = leb-true _ _ e

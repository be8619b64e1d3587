-- Laws of the numbers to step from.
use Prim.Native.Nat.{ℕ, ◌+◌, ◌-◌, ◌%◌, ◌≤◌, ◌<◌}
use native.Mathlib.Nat.{add-mod, mod-mod, zero-add}
use native.Mathlib.Omega.{arith}
use mathlib.Core.Path.{◌≡◌, sym, ◌∙◌}
use mathlib.Core.Logic.{◌↔◌}
use mathlib.Core.Bool.{Bool, true, ◌||◌}
use mathlib.Core.List.{List, [], ◌∷◌}
use lib.Dec.{leb, eqb}
use borrow.Author.Tests.{leb-true, le-leb, eq-eqb, ne_eqb, eqb-true}
use Rattle.bytes_read.proofs.Passing.{passes, all_true_last}
use Rattle.cbfs_types.specs.declared.Region.{Region}
use Rattle.region_read.specs.RegionRead.{is_step_start}

abbrev tests : Region → ℕ → List Bool
tests g n = leb g.start n ∷ leb n g.end ∷ (eqb n g.end || eqb ((n - g.start) % g.align) 0) ∷ []

module _ (g : Region) (n : ℕ) where
  pub fit_end : g.start ≤ n → n ≡ g.end → true ≡ is_step_start g n
  unfolding is_step_start
  fit_end l e = rw (le-leb _ _ l, le-leb n g.end (omega arith), eq-eqb _ _ e)

  -- Short of the end the number is a place, or not.
  pub fit_place : g.start ≤ n → n ≤ g.end → (n ≡ g.end → ⊥) → eqb ((n - g.start) % g.align) 0 ≡ is_step_start g n
  unfolding is_step_start
  fit_place l h e = rw (le-leb _ _ l, le-leb _ _ h, ne_eqb _ _ e) (sym (all_true_last (eqb ((n - g.start) % g.align) 0)))

  -- A number to step from is not below the start, nor past the end.
  pub fit_from : is_step_start g n ≡ true → (g.start ≤ n) × (n ≤ g.end)
  unfolding is_step_start
  fit_from e = (leb-true _ _ (passes 0 (tests g n) e), leb-true _ _ (passes 1 (tests g n) e))

-- Places counted from a start that is a multiple of the alignment are the multiples of the alignment.
pub same_places : (a s p : ℕ) → s % a ≡ 0 → s ≤ p → (p - s) % a ≡ p % a
same_places a s p z h = go (p - s) (omega arith)
  where
    go : (d : ℕ) → p ≡ s + d → d % a ≡ p % a
    go d e = rw (e, add-mod s d a, z, zero-add, mod-mod d a)

pub places_are_multiples : (g : Region) (p : ℕ) → g.start % g.align ≡ 0 → p < g.end → (is_step_start g p ≡ true) ↔ ((g.start ≤ p) × (p % g.align ≡ 0))
places_are_multiples g p z l = (
  λ e. let f = fit_from g p e in (f.0, sym (same_places g.align g.start p z f.0) ∙ eqb-true _ _ (fit_place g p f.0 f.1 (λ q. omega arith) ∙ e)),
  λ h. sym (fit_place g p h.0 (omega arith) (λ q. omega arith)) ∙ eq-eqb _ _ (same_places g.align g.start p z h.0 ∙ h.1),
)

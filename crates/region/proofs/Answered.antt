-- Laws of what is answered by the first test that fails: a value where none does, else the refusal by its number.
use Prim.Native.Nat.{ℕ}
use mathlib.Core.Path.{◌≡◌, refl, sym}
use mathlib.Core.Bool.{Bool, true, false, cond}
use mathlib.Core.List.{List, ◌++◌}
use lib.Dec.{eqb}
use borrow.Author.Tests.{eqb-true, eqb-false, ne_eqb}
use Rattle.std.specs.Prelude.{Ok, Err}
use Rattle.region.specs.Refusals.{Test, first_failed}
use Rattle.region.specs.Region.{refusal_by, unless_refused}
use Rattle.region.proofs.Orders.{numbered, first_here, first_later}
use Rattle.cbfs_types.specs.declared.Refusal.{Refusal}

-- A refusal is given by a number that is not 0; a value, by 0.

module _ {A : Type 0} (x : A) (n : ℕ) where
  pub refusal_given : {r : Refusal} → unless_refused n x ≡ Err r → (n ≡ 0 → ⊥) × (r ≡ refusal_by n)
  refusal_given {r} e = go (eqb n 0) refl e
    where
      go : (b : Bool) → eqb n 0 ≡ b → cond b (Ok x) (Err (refusal_by n)) ≡ Err r → (n ≡ 0 → ⊥) × (r ≡ refusal_by n)
      go true q f = absurd (cc)
      go false q f = (eqb-false _ _ q, cc)

  pub value_given : {y : A} → unless_refused n x ≡ Ok y → (n ≡ 0) × (x ≡ y)
  value_given {y} e = go (eqb n 0) refl e
    where
      go : (b : Bool) → eqb n 0 ≡ b → cond b (Ok x) (Err (refusal_by n)) ≡ Ok y → (n ≡ 0) × (x ≡ y)
      go true q f = (eqb-true _ _ q, cc)
      go false q f = absurd (cc)

-- The same tests, whatever the value that they guard; and tests in two parts. The equations have the sides that a function's goals have.

module _ {A B : Type 0} (x : A) (y : B) where
  -- What refuses the one refuses the other.
  pub refused_too : (n : ℕ) {r : Refusal} → Err r ≡ unless_refused n x → Err r ≡ unless_refused n y
  refused_too n e = let (z, f) = refusal_given x n (sym e) in rw (ne_eqb n 0 z, f)

  pub passed_too : (n : ℕ) {z : A} → Ok z ≡ unless_refused n x → Ok y ≡ unless_refused n y
  passed_too n e = rw (value_given x n (sym e)).0

  module _ (ts us : List Test) where
    -- A part that refuses is the answer; after one that does not, the others decide.

    pub part_refused : {r : Refusal} → Err r ≡ unless_refused (first_failed ts) x → Err r ≡ unless_refused (first_failed (ts ++ us)) y
    part_refused e = rw (first_here ts us (refusal_given x _ (sym e)).0) (refused_too (first_failed ts) e)

    pub part_passed : numbered ts ≡ true → {z : A} → Ok z ≡ unless_refused (first_failed ts) x
        → unless_refused (first_failed (ts ++ us)) y ≡ unless_refused (first_failed us) y
    part_passed m e = rw (first_later ts us m (value_given x _ (sym e)).0)

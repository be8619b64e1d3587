-- Laws of orders of refusals: one test after the other, and orders that are joined from parts.
use Prim.Native.Nat.{ℕ, zero, suc}
use mathlib.Core.Path.{◌≡◌, refl}
use mathlib.Core.Bool.{Bool, true, false, cond, false≢true}
use mathlib.Core.List.{List, [], ◌∷◌, ◌++◌}
use lib.ListN.{get_or}
use lib.Dec.{eqb}
use borrow.Author.Tests.{eqb-false}
use Rattle.region.specs.Refusals.{Test, test, first_failed}

-- One test after the other.

pub refuses : (n : ℕ) (b : Bool) (ts : List Test) → b ≡ false → first_failed (test n b ∷ ts) ≡ n
refuses n b ts e = rw e

pub goes_on : (n : ℕ) (b : Bool) (ts : List Test) → b ≡ true → first_failed (test n b ∷ ts) ≡ first_failed ts
goes_on n b ts e = rw e

-- A part that refuses is the answer.
pub first_here : (xs ys : List Test) → (first_failed xs ≡ 0 → ⊥) → first_failed (xs ++ ys) ≡ first_failed xs
first_here [] ys h = absurd (h refl)
first_here (t ∷ xs) ys h = go t.passed h (first_here xs ys)
  where
    go : (b : Bool) → (cond b (first_failed xs) t.number ≡ 0 → ⊥) → ((first_failed xs ≡ 0 → ⊥) → first_failed (xs ++ ys) ≡ first_failed xs)
        → cond b (first_failed (xs ++ ys)) t.number ≡ cond b (first_failed xs) t.number
    go true n ih = ih n
    go false n ih = refl

-- No test refuses by 0.
abbrev pub numbered : List Test → Bool
numbered [] = true
numbered (t ∷ ts) = cond (eqb t.number 0) false (numbered ts)

numbered_head : (t : Test) (ts : List Test) → numbered (t ∷ ts) ≡ true → (t.number ≡ 0 → ⊥) × (numbered ts ≡ true)
numbered_head t ts e = go (eqb t.number 0) refl e
  where
    go : (b : Bool) → eqb t.number 0 ≡ b → cond b false (numbered ts) ≡ true → (t.number ≡ 0 → ⊥) × (numbered ts ≡ true)
    go true q f = absurd (false≢true f)
    go false q f = (eqb-false _ _ q, f)

-- Where the first test is passed, the others decide.
passed : (t : Test) (ts : List Test) → (t.number ≡ 0 → ⊥) → first_failed (t ∷ ts) ≡ 0 → (t.passed ≡ true) × (first_failed ts ≡ 0)
passed t ts n e = go t.passed refl e
  where
    go : (b : Bool) → t.passed ≡ b → cond b (first_failed ts) t.number ≡ 0 → (b ≡ true) × (first_failed ts ≡ 0)
    go true q f = (refl, f)
    go false q f = absurd (n f)

-- Where nothing refuses, each test is passed.
pub all_passed : (ts : List Test) → numbered ts ≡ true → first_failed ts ≡ 0 → (k : ℕ) → (get_or ts k (test 1 true)).passed ≡ true
all_passed [] m e k = refl
all_passed (t ∷ ts) m e zero = (passed t ts (numbered_head t ts m).0 e).0
all_passed (t ∷ ts) m e (suc k) = all_passed ts (numbered_head t ts m).1 (passed t ts (numbered_head t ts m).0 e).1 k

-- A part that refuses nothing leaves it to the rest.
pub first_later : (xs ys : List Test) → numbered xs ≡ true → first_failed xs ≡ 0 → first_failed (xs ++ ys) ≡ first_failed ys
first_later [] ys m e = refl
first_later (t ∷ xs) ys m e =
    let n = numbered_head t xs m in
    let p = passed t xs n.0 e in
    rw p.0 (first_later xs ys n.1 p.1)

-- Where nothing refuses, no part does.
pub first_both : (xs ys : List Test) → numbered xs ≡ true → first_failed (xs ++ ys) ≡ 0 → (first_failed xs ≡ 0) × (first_failed ys ≡ 0)
first_both [] ys m e = (refl, e)
first_both (t ∷ xs) ys m e =
    let n = numbered_head t xs m in
    let p = passed t (xs ++ ys) n.0 e in
    let r = first_both xs ys n.1 p.1 in
    (rw p.0 r.0, r.1)

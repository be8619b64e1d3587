-- An order of tests gives the numbers of a table: each exactly when the table says.
use Prim.Native.Nat.{ℕ, ◌<◌}
use mathlib.Core.Path.{◌≡◌, refl, sym, subst, ◌∙◌}
use mathlib.Core.Bool.{Bool, true, false, cond, not, ◌&&◌, ◌||◌, true≢false}
use mathlib.Core.Logic.{◌⊎◌, inl, inr, ◌↔◌}
use mathlib.Core.List.{List, [], ◌∷◌, ◌++◌}
use lib.Dec.{leb, eqb}
use borrow.Author.Tests.{leb-false, lt-leb, eqb-false, ne_eqb, not-true}
use Rattle.bytes_read.specs.Tests.{all_true}
use Rattle.bytes_read.proofs.Tested.{or_false, both_true}
use Rattle.region.specs.Refusals.{Test, test, first_failed}
use Rattle.region.specs.Table.{Row, row, FirstRowMet}

-- A test fails exactly when a condition holds.
abbrev pub Fails : Bool → Type 0 → Type 0
Fails b c = (b ≡ false) ↔ c

-- The tests that the definitions use: a comparison, an equality, one of several.

pub later_row : (m n : ℕ) → Fails (leb m n) (n < m)
later_row m n = (leb-false m n, lt-leb m n)

pub other_fails : (m n : ℕ) → Fails (eqb m n) (m ≡ n → ⊥)
other_fails m n = (eqb-false m n, ne_eqb m n)

pub neither : {b c : Bool} {x y : Type 0} → Fails b x → Fails c y → Fails (b || c) (x × y)
neither {b} {c} f g = (λ e. let d = or_false b c e in (f.0 d.0, g.0 d.1), λ h. rw (f.1 h.0, g.1 h.1))

-- A list of tests of which one fails.
pub data OneFails : List Bool → Type 0 → Type 1 where
  last_fails : {b : Bool} {c : Type 0} → Fails b c → OneFails (b ∷ []) c
  either : {b : Bool} {bs : List Bool} {c d : Type 0} → Fails b c → OneFails bs d → OneFails (b ∷ bs) (c ⊎ d)

pub one_fails : {bs : List Bool} {c : Type 0} → OneFails bs c → Fails (all_true bs) c
one_fails (last_fails {b} {c} f) = (there b refl, λ x. rw (f.1 x))
  where
    there : (x : Bool) → b ≡ x → all_true (x ∷ []) ≡ false → c
    there true q e = absurd (true≢false e)
    there false q e = f.0 q
one_fails (either {b} {bs} {c} {d} f r) = let g = one_fails r in (there g b refl, back g)
  where
    there : Fails (all_true bs) d → (x : Bool) → b ≡ x → all_true (x ∷ bs) ≡ false → c ⊎ d
    there g true q e = inr (g.0 e)
    there g false q e = inl (f.0 q)

    later : (x : Bool) → all_true bs ≡ false → all_true (x ∷ bs) ≡ false
    later true e = e
    later false e = refl

    back : Fails (all_true bs) d → c ⊎ d → all_true (b ∷ bs) ≡ false
    back g (inl x) = rw (f.1 x)
    back g (inr y) = later b (g.1 y)

-- A condition said in other words.
pub said : {b : Bool} {c d : Type 0} → Fails b c → (c → d) → (d → c) → Fails b d
said f to from = (λ e. to (f.0 e), λ y. f.1 (from y))

-- The tests and the rows, one by one: the same number, and the test fails exactly when the row's condition holds.
pub data Renders : List Test → List Row → Type 1 where
  no_more : Renders [] []
  both_render : {m : ℕ} {b : Bool} {c : Type 0} {ts : List Test} {xs : List Row} → Fails b c → Renders ts xs → Renders (test m b ∷ ts) (row m c ∷ xs)

-- The first test that fails is the first row whose condition holds.
pub exactly : {ts : List Test} {xs : List Row} → Renders ts xs → (n : ℕ) → (first_failed ts ≡ n) ↔ FirstRowMet xs n
exactly no_more n = (λ e. sym e, λ e. sym e)
exactly (both_render {m} {b} {c} {ts} {xs} f r) n = let ih = exactly r n in (λ e. there ih b refl e, λ h. back ih h)
  where
    there : (first_failed ts ≡ n) ↔ FirstRowMet xs n → (d : Bool) → b ≡ d → cond d (first_failed ts) m ≡ n → FirstRowMet (row m c ∷ xs) n
    there ih true q e = inr (λ x. true≢false (sym q ∙ f.1 x), ih.0 e)
    there ih false q e = inl (f.0 q, sym e)

    otherwise : (first_failed ts ≡ n) ↔ FirstRowMet xs n → (c → ⊥) → FirstRowMet xs n → (d : Bool) → b ≡ d → cond d (first_failed ts) m ≡ n
    otherwise ih no-c h true q = ih.1 h
    otherwise ih no-c h false q = absurd (no-c (f.0 q))

    back : (first_failed ts ≡ n) ↔ FirstRowMet xs n → FirstRowMet (row m c ∷ xs) n → first_failed (test m b ∷ ts) ≡ n
    back ih (inl h) = rw (f.1 h.0) (sym h.1)
    back ih (inr h) = otherwise ih h.0 h.1 b refl

-- A table gives one number.
pub given_one : (xs : List Row) (m n : ℕ) → FirstRowMet xs m → FirstRowMet xs n → m ≡ n
given_one [] m n g h = g ∙ sym h
given_one (x ∷ xs) m n (inl g) (inl h) = g.1 ∙ sym h.1
given_one (x ∷ xs) m n (inl g) (inr h) = absurd (h.0 g.0)
given_one (x ∷ xs) m n (inr g) (inl h) = absurd (g.0 h.0)
given_one (x ∷ xs) m n (inr g) (inr h) = given_one xs m n g.1 h.1

-- So what a table gives, it gives exactly.
pub given_exactly : (xs : List Row) (m : ℕ) → FirstRowMet xs m → (n : ℕ) → (m ≡ n) ↔ FirstRowMet xs n
given_exactly xs m g n = (λ e. subst (FirstRowMet xs) e g, given_one xs m n g)

-- A number that the first part gives is the whole's.
pub given_here : (xs ys : List Row) (n : ℕ) → (n ≡ 0 → ⊥) → FirstRowMet xs n → FirstRowMet (xs ++ ys) n
given_here [] ys n some g = absurd (some g)
given_here (x ∷ xs) ys n some (inl g) = inl g
given_here (x ∷ xs) ys n some (inr g) = inr (g.0, given_here xs ys n some g.1)

-- No row has the number 0.
abbrev pub nonzero : List Row → Bool
nonzero [] = true
nonzero (x ∷ xs) = cond (eqb x.number 0) false (nonzero xs)

-- Where the first part gives none, the rest decides.
pub given_later : (xs ys : List Row) (n : ℕ) → nonzero xs ≡ true → FirstRowMet xs 0 → FirstRowMet ys n → FirstRowMet (xs ++ ys) n
given_later [] ys n z g h = h
given_later (x ∷ xs) ys n z g h = go (eqb x.number 0) refl z g (given_later xs ys n)
  where
    go : (b : Bool) → eqb x.number 0 ≡ b → cond b false (nonzero xs) ≡ true → FirstRowMet (x ∷ xs) 0
        → (nonzero xs ≡ true → FirstRowMet xs 0 → FirstRowMet ys n → FirstRowMet (xs ++ ys) n)
        → FirstRowMet (x ∷ (xs ++ ys)) n
    go true q f p ih = absurd (true≢false (sym f))
    go false q f (inl p) ih = absurd (eqb-false x.number 0 q (sym p.1))
    go false q f (inr p) ih = inr (p.0, ih f p.1 h)

-- No row has the number n, and it is not 0.
abbrev pub absent : ℕ → List Row → Bool
absent n [] = not (eqb n 0)
absent n (x ∷ xs) = not (eqb n x.number) && absent n xs

here : (n : ℕ) (x : Row) (xs : List Row) → absent n (x ∷ xs) ≡ true → n ≡ x.number → ⊥
here n x xs h = eqb-false n x.number (not-true _ (both_true _ (absent n xs) h).0)

later : (n : ℕ) (x : Row) (xs : List Row) → absent n (x ∷ xs) ≡ true → absent n xs ≡ true
later n x xs h = (both_true (not (eqb n x.number)) (absent n xs) h).1

pub not_given : (n : ℕ) (xs : List Row) → absent n xs ≡ true → FirstRowMet xs n → ⊥
not_given n [] h e = eqb-false n 0 (not-true _ h) e
not_given n (x ∷ xs) h (inl e) = here n x xs h e.1
not_given n (x ∷ xs) h (inr e) = not_given n xs (later n x xs h) e.1

-- A number that no row of the first part has is given by the second, and by the first none is.
pub given_split : (xs ys : List Row) (n : ℕ) → absent n xs ≡ true → FirstRowMet (xs ++ ys) n → FirstRowMet xs 0 × FirstRowMet ys n
given_split [] ys n h g = (refl, g)
given_split (x ∷ xs) ys n h (inl g) = absurd (here n x xs h g.1)
given_split (x ∷ xs) ys n h (inr g) = let (z, q) = given_split xs ys n (later n x xs h) g.1 in (inr (g.0, z), q)

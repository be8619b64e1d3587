-- What the strict check answers, read both ways (document 01, refusals 12, 13 and 11).
use Prim.Native.Nat.{ℕ, ◌≤◌, ◌<◌}
use native.Mathlib.Omega.{arith}
use mathlib.Core.Path.{◌≡◌, refl, sym, ap, ◌∙◌}
use mathlib.Core.List.{List, [], ◌∷◌}
use mathlib.Core.Logic.{◌↔◌, ◌⊎◌, inl, inr}
use mathlib.Core.Bool.{Bool, true, false}
use lib.ListN.{length}
use lib.Dec.{ltb}
use borrow.Author.Tests.{lt-ltb, le-ltb, ltb-true, ltb-false}
use Rattle.walk.specs.Walk.{Entry, plain_listing}
use Rattle.walk_lookup.specs.Lookup.{TwoSameName}
use Rattle.strict_rules.specs.Strict.{untaken_places, distinct_names, AcceptedUpTo, Verdict, check_refused, check_accepted, component_places, verdict_on}
use Rattle.strict_rules.specs.Strict.{verdict}
use Rattle.strict_rules.specs.Strict.{LowestUntaken}
use Rattle.strict_rules.proofs.Reasons.{lowest_first, same_name_exactly}

-- The four cases.
data Case (most : ℕ) (s : List ℕ) (l : List Entry) : Type 0 where
  some_untaken : (p : ℕ) (ps : List ℕ) → s ≡ p ∷ ps → verdict_on most s l ≡ check_refused 12 p → Case most s l
  many : s ≡ [] → most < length l → verdict_on most s l ≡ check_refused 13 0 → Case most s l
  some_same_name : s ≡ [] → length l ≤ most → distinct_names l ≡ false → verdict_on most s l ≡ check_refused 11 0 → Case most s l
  fine : s ≡ [] → length l ≤ most → distinct_names l ≡ true → verdict_on most s l ≡ check_accepted (component_places l) → Case most s l

by_case : (most : ℕ) (s : List ℕ) (l : List Entry) → Case most s l
unfolding verdict_on
by_case most (p ∷ ps) l = some_untaken p ps refl refl
by_case most [] l = go (ltb most (length l)) refl (distinct_names l) refl
  where
    go : (b : Bool) → ltb most (length l) ≡ b → (c : Bool) → distinct_names l ≡ c → Case most [] l
    go true p c q = many refl (ltb-true most (length l) p) (rw p)
    go false p true q = fine refl (ltb-false most (length l) p) q (rw (p, q))
    go false p false q = some_same_name refl (ltb-false most (length l) p) q (rw (p, q))

-- No verdict is two of these.

abbrev number : Verdict → ℕ
number (check_refused n p) = n
number (check_accepted ps) = 0

clash : {v : Verdict} (x y : Verdict) → v ≡ x → v ≡ y → (number x ≡ number y → ⊥) → ⊥
clash x y p q h = h (ap number (sym p ∙ q))

module _ (most : ℕ) (r : List ℕ) (a : ℕ) where
  -- 12, with the lowest untaken place; whatever else holds.
  pub refused_12 : (p : ℕ) → (verdict most r a ≡ check_refused 12 p) ↔ ((ps : List ℕ) × (untaken_places r a ≡ p ∷ ps))
  unfolding verdict
  refused_12 p = (go (by_case most (untaken_places r a) (plain_listing r a)), λ s. unfold verdict_on in rw s.1)
    where
      go : Case most (untaken_places r a) (plain_listing r a) → verdict_on most (untaken_places r a) (plain_listing r a) ≡ check_refused 12 p
          → (ps : List ℕ) × (untaken_places r a ≡ p ∷ ps)
      go (some_untaken q qs s d) v = (qs, rw (place (sym d ∙ v)) at s)
        where
          place : check_refused 12 q ≡ check_refused 12 p → q ≡ p
          place e = cc
      go (many s m d) v = absurd (clash _ _ d v (λ z. omega arith))
      go (some_same_name s m n d) v = absurd (clash _ _ d v (λ z. omega arith))
      go (fine s m n d) v = absurd (clash _ _ d v (λ z. omega arith))

  -- 13, where no place is untaken and there are too many components.
  pub refused_13 : (verdict most r a ≡ check_refused 13 0) ↔ ((untaken_places r a ≡ []) × (most < length (plain_listing r a)))
  unfolding verdict
  refused_13 = (go (by_case most (untaken_places r a) (plain_listing r a)), λ h. unfold verdict_on in rw (h.0, lt-ltb most (length (plain_listing r a)) h.1))
    where
      go : Case most (untaken_places r a) (plain_listing r a) → verdict_on most (untaken_places r a) (plain_listing r a) ≡ check_refused 13 0
          → (untaken_places r a ≡ []) × (most < length (plain_listing r a))
      go (some_untaken q qs s d) v = absurd (clash _ _ d v (λ z. omega arith))
      go (many s m d) v = (s, m)
      go (some_same_name s m n d) v = absurd (clash _ _ d v (λ z. omega arith))
      go (fine s m n d) v = absurd (clash _ _ d v (λ z. omega arith))

  -- 11, where no place is untaken, there are not too many, and two names are equal.
  pub refused_11 : (verdict most r a ≡ check_refused 11 0) ↔
      ((untaken_places r a ≡ []) × (length (plain_listing r a) ≤ most) × (distinct_names (plain_listing r a) ≡ false))
  unfolding verdict
  refused_11 = (
    go (by_case most (untaken_places r a) (plain_listing r a)),
    λ h. unfold verdict_on in rw (h.0, le-ltb most (length (plain_listing r a)) h.1, h.2),
  )
    where
      go : Case most (untaken_places r a) (plain_listing r a) → verdict_on most (untaken_places r a) (plain_listing r a) ≡ check_refused 11 0
          → (untaken_places r a ≡ []) × (length (plain_listing r a) ≤ most) × (distinct_names (plain_listing r a) ≡ false)
      go (some_untaken q qs s d) v = absurd (clash _ _ d v (λ z. omega arith))
      go (many s m d) v = absurd (clash _ _ d v (λ z. omega arith))
      go (some_same_name s m n d) v = (s, m, n)
      go (fine s m n d) v = absurd (clash _ _ d v (λ z. omega arith))

  -- Accepted, with the plain listing's places.
  pub accepts : (ps : List ℕ) → (verdict most r a ≡ check_accepted ps)
      ↔ ((untaken_places r a ≡ []) × (length (plain_listing r a) ≤ most) × (distinct_names (plain_listing r a) ≡ true)
      × (ps ≡ component_places (plain_listing r a)))
  unfolding verdict
  accepts ps = (
    go (by_case most (untaken_places r a) (plain_listing r a)),
    λ h. unfold verdict_on in rw (h.0, le-ltb most (length (plain_listing r a)) h.1, h.2) (ap check_accepted (sym h.3)),
  )
    where
      go : Case most (untaken_places r a) (plain_listing r a) → verdict_on most (untaken_places r a) (plain_listing r a) ≡ check_accepted ps
          → (untaken_places r a ≡ []) × (length (plain_listing r a) ≤ most) × (distinct_names (plain_listing r a) ≡ true)
          × (ps ≡ component_places (plain_listing r a))
      go (some_untaken q qs s d) v = absurd (clash _ _ d v (λ z. omega arith))
      go (many s m d) v = absurd (clash _ _ d v (λ z. omega arith))
      go (some_same_name s m n d) v = absurd (clash _ _ d v (λ z. omega arith))
      go (fine s m n d) v = (s, m, n, same (sym v ∙ d))
        where
          same : check_accepted ps ≡ check_accepted (component_places (plain_listing r a)) → ps ≡ component_places (plain_listing r a)
          same e = cc

  -- No other number is given, and no other place.
  pub no_other : (n p : ℕ) → verdict most r a ≡ check_refused n p → (n ≡ 12) ⊎ ((n ≡ 13) × (p ≡ 0)) ⊎ ((n ≡ 11) × (p ≡ 0))
  unfolding verdict
  no_other n p v = go (by_case most (untaken_places r a) (plain_listing r a))
    where
      both : (m q : ℕ) → check_refused m q ≡ check_refused n p → (n ≡ m) × (p ≡ q)
      both m q e = ((cc), (cc))

      go : Case most (untaken_places r a) (plain_listing r a) → (n ≡ 12) ⊎ ((n ≡ 13) × (p ≡ 0)) ⊎ ((n ≡ 11) × (p ≡ 0))
      go (some_untaken q qs s d) = inl (both 12 q (sym d ∙ v)).0
      go (many s m d) = inr (inl (both 13 0 (sym d ∙ v)))
      go (some_same_name s m k d) = inr (inr (both 11 0 (sym d ∙ v)))
      go (fine s m k d) = absurd (not (sym d ∙ v))
        where
          not : check_accepted (component_places (plain_listing r a)) ≡ check_refused n p → ⊥
          not e = let z : ◌≡◌ {A = ℕ} 0 1 = cc in omega arith

-- The strict check accepts exactly under document 01's three conditions; then its places are the plain listing's.

pub accepted_exactly : {most : ℕ} (r : List ℕ) (a : ℕ) (ps : List ℕ)
    → (verdict most r a ≡ check_accepted ps) ↔ (AcceptedUpTo most r a × (ps ≡ component_places (plain_listing r a)))
accepted_exactly {most} r a ps = (
  λ v. let h = (accepts most r a ps).0 v in (record { all_taken = h.0; at_most = h.1; names_are_distinct = h.2 }, h.3),
  λ h. (accepts most r a ps).1 (h.0.all_taken, h.0.at_most, h.0.names_are_distinct, h.1),
)

-- The refusals in the paper's words.

pub refused_12_lowest : (most : ℕ) (r : List ℕ) (a p : ℕ) → (verdict most r a ≡ check_refused 12 p) ↔ LowestUntaken r a p
refused_12_lowest most r a p = (λ v. (lowest_first r a p).0 ((refused_12 most r a p).0 v), λ s. (refused_12 most r a p).1 ((lowest_first r a p).1 s))

pub refused_11_same_name : (most : ℕ) (r : List ℕ) (a : ℕ)
    → (verdict most r a ≡ check_refused 11 0) ↔ ((untaken_places r a ≡ []) × (length (plain_listing r a) ≤ most) × TwoSameName (plain_listing r a))
refused_11_same_name most r a = (
  λ v. let h = (refused_11 most r a).0 v in (h.0, h.1, (same_name_exactly (plain_listing r a)).0 h.2),
  λ h. (refused_11 most r a).1 (h.0, h.1, (same_name_exactly (plain_listing r a)).1 h.2),
)

-- Where more components are allowed, the verdict stays as it was, unless that was 13.
pub more_allowed : {m n : ℕ} → m ≤ n → (r : List ℕ) (a : ℕ) → (verdict m r a ≡ check_refused 13 0) ⊎ (verdict n r a ≡ verdict m r a)
unfolding verdict_on verdict
more_allowed {m} {n} h r a = go (untaken_places r a) (plain_listing r a)
  where
    go : (s : List ℕ) (l : List Entry) → (verdict_on m s l ≡ check_refused 13 0) ⊎ (verdict_on n s l ≡ verdict_on m s l)
    go (p ∷ ps) l = inr refl
    go [] l = by (ltb m (length l)) refl
      where
        by : (b : Bool) → ltb m (length l) ≡ b → (verdict_on m [] l ≡ check_refused 13 0) ⊎ (verdict_on n [] l ≡ verdict_on m [] l)
        by true e = inl (rw e)
        by false e = inr (rw (e, le-ltb n (length l) (omega (arith, ltb-false m (length l) e))))

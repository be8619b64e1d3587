-- What the tests of an accepted payload say of its segments.
use Prim.Native.Nat.{ℕ, zero, suc, ◌+◌, ◌*◌, ◌^◌, ◌≤◌, ◌<◌}
use native.Mathlib.Omega.{arith}
use mathlib.Core.Path.{◌≡◌, refl, ap, subst, ◌∙◌}
use mathlib.Core.Logic.{◌⊎◌, inl, inr}
use mathlib.Core.Bool.{Bool, true, false, cond, ◌||◌}
use mathlib.Core.List.{List, [], ◌∷◌, ◌++◌}
use lib.ListN.{length, get_or, length-append, get_or-append}
use lib.Seq.{get_or-append_seam}
use lib.Dec.{leb, eqb}
use borrow.Author.Tests.{leb-true, eqb-true}
use Rattle.bytes_read.proofs.Tested.{both_true}
use Rattle.region.specs.Refusals.{Test, test, first_failed}
use Rattle.load_segment.specs.LoadSegment.{load_tests, disjoint_targets, ends_before}
use Rattle.load_payload.specs.Payload.{type_at, code_type, data_type, bss_type, params_type, entry_type}
use Rattle.load_payload.specs.Payload.{loaded_segment, bss_segment, params_segment, entry_segment, unknown_segment, unused_segment, segment_at}
use Rattle.load_payload.specs.Payload.{bss_tests, params_tests, type_tests, record_tests, disjoint_from_all, is_entry, record_list_tests, segments_from}
use Rattle.load_payload.specs.Accepted.{Loaded, HasSource, HasTarget, Target}
use Rattle.cbfs_types.specs.declared.Segment.{Segment}
use Rattle.region.proofs.Orders.{all_passed, first_both}
use Rattle.load_segment.proofs.Fitting.{source_in, len_in, target_in}
use Rattle.load_payload.proofs.RecordTypes.{load_type_tests, bss_type_tests, params_type_tests}
use Rattle.load_payload.proofs.RecordList.{record_numbered}

-- A segment that no test of its type refuses.
module _ (at l : ℕ) (x : Segment) (e : first_failed (type_tests at l x) ≡ 0) where
  loading : Loaded x → (k : ℕ) → (get_or (load_tests at l x) k (test 1 true)).passed ≡ true
  unfolding load_tests
  loading h = all_passed (load_tests at l x) refl (rw (load_type_tests at l x h) at e)

  pub source_fit : HasSource x → (at ≤ x.source) × (x.source + x.len ≤ at + l)
  unfolding load_tests params_tests
  source_fit (inl h) = source_in at l x.source x.len (all_passed (params_tests at l x) refl (rw (params_type_tests at l x h) at e) 1)
  source_fit (inr h) = source_in at l x.source x.len (loading h 1)

  pub target_fit : HasTarget x → x.load + x.memlen ≤ 2 ^ 64
  unfolding load_tests bss_tests
  target_fit (inl h) = target_in x.load x.memlen (all_passed (bss_tests x) refl (rw (bss_type_tests at l x h) at e) 0)
  target_fit (inr h) = target_in x.load x.memlen (loading h 3)

  pub memory_fit : Loaded x → x.compression ≡ 0 → x.len ≤ x.memlen
  unfolding load_tests
  memory_fit h = len_in x.compression x.len x.memlen (loading h 2)

  pub compression_fit : HasSource x → x.compression ≤ 2
  unfolding load_tests params_tests
  compression_fit (inl h) = leb-true x.compression 2 (all_passed (params_tests at l x) refl (rw (params_type_tests at l x h) at e) 0)
  compression_fit (inr h) = leb-true x.compression 2 (loading h 0)

  -- Its type is one of the five.
  pub known : HasSource x ⊎ ((x.kind ≡ bss_type) ⊎ (x.kind ≡ entry_type))
  unfolding type_tests
  known =
      go (eqb x.kind code_type) refl (eqb x.kind data_type) refl (eqb x.kind bss_type) refl (eqb x.kind params_type) refl
      (eqb x.kind entry_type) refl e
    where
      go : (a : Bool) → eqb x.kind code_type ≡ a → (b : Bool) → eqb x.kind data_type ≡ b → (c : Bool) → eqb x.kind bss_type ≡ c → (d : Bool)
          → eqb x.kind params_type ≡ d
          → (f : Bool) → eqb x.kind entry_type ≡ f
          → first_failed (cond a (load_tests at l x)
          (cond b (load_tests at l x) (cond c (bss_tests x) (cond d (params_tests at l x) (cond f [] (test 20 false ∷ [])))))) ≡ 0
          → HasSource x ⊎ ((x.kind ≡ bss_type) ⊎ (x.kind ≡ entry_type))
      go true q b r c t d u f v z = inl (inr (inr (eqb-true _ _ q)))
      go false q true r c t d u f v z = inl (inr (inl (eqb-true _ _ r)))
      go false q false r true t d u f v z = inr (inl (eqb-true _ _ t))
      go false q false r false t true u f v z = inl (inl (eqb-true _ _ u))
      go false q false r false t false u true v z = inr (inr (eqb-true _ _ v))
      go false q false r false t false u false v z = absurd (omega arith)

-- The record's type is the segment's; a type with no target reports none, and one with no source reports none.

module _ (s : List ℕ) (o p : ℕ) where
  -- What holds of each type's segment.
  by_type_lem : (P : Segment → Type 0) → ((type_at s p ≡ data_type) ⊎ (type_at s p ≡ code_type) → P (loaded_segment s o p))
      → (type_at s p ≡ bss_type → P (bss_segment s p))
      → (type_at s p ≡ params_type → P (params_segment s o p))
      → (type_at s p ≡ entry_type → P (entry_segment s p)) → P (unknown_segment s p) → P (segment_at s o p)
  unfolding segment_at
  by_type_lem P loaded bss params entry other =
      go (eqb (type_at s p) code_type) refl (eqb (type_at s p) data_type) refl (eqb (type_at s p) bss_type) refl (eqb (type_at s p) params_type) refl
      (eqb (type_at s p) entry_type) refl
    where
      go : (a : Bool) → eqb (type_at s p) code_type ≡ a → (b : Bool) → eqb (type_at s p) data_type ≡ b
          → (c : Bool) → eqb (type_at s p) bss_type ≡ c → (d : Bool) → eqb (type_at s p) params_type ≡ d
          → (e : Bool) → eqb (type_at s p) entry_type ≡ e
          → P (cond a (loaded_segment s o p) (cond b (loaded_segment s o p)
          (cond c (bss_segment s p) (cond d (params_segment s o p) (cond e (entry_segment s p) (unknown_segment s p))))))
      go true q b r c t d u e v = loaded (inr (eqb-true _ _ q))
      go false q true r c t d u e v = loaded (inl (eqb-true _ _ r))
      go false q false r true t d u e v = bss (eqb-true _ _ t)
      go false q false r false t true u e v = params (eqb-true _ _ u)
      go false q false r false t false u true v = entry (eqb-true _ _ v)
      go false q false r false t false u false v = other

  pub kind_is : (segment_at s o p).kind ≡ type_at s p
  kind_is = by_type_lem (λ (x : Segment). x.kind ≡ type_at s p) (λ e. refl) (λ e. refl) (λ e. refl) (λ e. refl) refl

  pub no_target : (HasTarget (segment_at s o p) → ⊥)
      → ((segment_at s o p).memlen ≡ 0) × (((segment_at s o p).kind ≡ entry_type → ⊥) → (segment_at s o p).load ≡ 0)
  no_target = by_type_lem (λ (x : Segment). (HasTarget x → ⊥) → (x.memlen ≡ 0) × ((x.kind ≡ entry_type → ⊥) → x.load ≡ 0))
      (λ e h. absurd (h (inr e))) (λ e h. absurd (h (inl e))) (λ e h. (refl, λ n. refl)) (λ e h. (refl, λ n. absurd (n e))) (λ h. (refl, λ n. refl))

  pub no_source : (HasSource (segment_at s o p) → ⊥) → ((segment_at s o p).compression ≡ 0) × ((segment_at s o p).source ≡ 0) × ((segment_at s o p).len ≡ 0)
  no_source = by_type_lem (λ (x : Segment). (HasSource x → ⊥) → (x.compression ≡ 0) × (x.source ≡ 0) × (x.len ≡ 0))
      (λ e h. absurd (h (inr e))) (λ e h. (refl, refl, refl)) (λ e h. absurd (h (inl e))) (λ e h. (refl, refl, refl)) (λ h. (refl, refl, refl))

-- The records from p on, none of them refused, after the segments xs: their segments ys, the last an ENTRY.

pub record Passed (s : List ℕ) (at o p : ℕ) (xs : List Segment) : Type 0 where
  pub long : p + 28 ≤ length s
  pub fits : first_failed (type_tests at (length s) (segment_at s o p)) ≡ 0
  pub clears : disjoint_from_all (segment_at s o p) xs ≡ true

pub data Run (s : List ℕ) (at o : ℕ) : ℕ → List Segment → List Segment → Type 0 where
  last : {p : ℕ} {xs : List Segment} → Passed s at o p xs → is_entry (segment_at s o p) ≡ true → Run s at o p xs (segment_at s o p ∷ [])
  more : {p : ℕ} {xs ys : List Segment} → Passed s at o p xs → is_entry (segment_at s o p) ≡ false → Run s at o (p + 28) (xs ++ (segment_at s o p ∷ [])) ys
      → Run s at o p xs (segment_at s o p ∷ ys)

pub run : (s : List ℕ) (at o k p : ℕ) (xs : List Segment) → first_failed (record_list_tests s at o k p xs) ≡ 0 → Run s at o p xs (segments_from s o k p)
unfolding record_list_tests segments_from record_tests
run s at o zero p xs e = absurd (omega arith)
run s at o (suc k) p xs e = go (is_entry x) refl parts.1 (run s at o k (p + 28) (xs ++ (x ∷ [])))
  where
    x : Segment
    x = segment_at s o p

    rest : List Test
    rest = cond (is_entry x) [] (record_list_tests s at o k (p + 28) (xs ++ (x ∷ [])))

    both : (first_failed (record_tests s at o p) ≡ 0) × (first_failed (test 26 (disjoint_from_all x xs) ∷ rest) ≡ 0)
    both = first_both (record_tests s at o p) (test 26 (disjoint_from_all x xs) ∷ rest) (record_numbered s at o p) e

    parts : (first_failed (test 26 (disjoint_from_all x xs) ∷ []) ≡ 0) × (first_failed rest ≡ 0)
    parts = first_both (test 26 (disjoint_from_all x xs) ∷ []) rest refl both.1

    fitting : (first_failed (test 19 (leb (p + 28) (length s)) ∷ []) ≡ 0) × (first_failed (type_tests at (length s) x) ≡ 0)
    fitting = first_both (test 19 (leb (p + 28) (length s)) ∷ []) (type_tests at (length s) x) refl both.0

    here : Passed s at o p xs
    here = record {
      long = leb-true _ _ (all_passed (test 19 (leb (p + 28) (length s)) ∷ []) refl fitting.0 0);
      fits = fitting.1;
      clears = all_passed (test 26 (disjoint_from_all x xs) ∷ []) refl parts.0 0;
    }

    go : (b : Bool) → is_entry x ≡ b → first_failed (cond b [] (record_list_tests s at o k (p + 28) (xs ++ (x ∷ [])))) ≡ 0
        → (first_failed (record_list_tests s at o k (p + 28) (xs ++ (x ∷ []))) ≡ 0 → Run s at o (p + 28) (xs ++ (x ∷ [])) (segments_from s o k (p + 28)))
        → Run s at o p xs (x ∷ cond b [] (segments_from s o k (p + 28)))
    go true q f ih = last here q
    go false q f ih = more here q (ih f)

pub from_most : (s : List ℕ) (o k p : ℕ) → length (segments_from s o k p) ≤ k
unfolding segments_from
from_most s o zero p = omega arith
from_most s o (suc k) p = go (is_entry (segment_at s o p)) (from_most s o k (p + 28))
  where
    go : (b : Bool) → length (segments_from s o k (p + 28)) ≤ k → suc (length (cond b [] (segments_from s o k (p + 28)))) ≤ suc k
    go true h = omega arith
    go false h = omega arith

-- The segment at an index: that of its record, which fits the content.
pub record Nth (s : List ℕ) (at o p : ℕ) (ys : List Segment) (n : ℕ) : Type 0 where
  pub is : get_or ys n unused_segment ≡ segment_at s o (p + 28 * n)
  pub long : p + 28 * n + 28 ≤ length s
  pub fits : first_failed (type_tests at (length s) (get_or ys n unused_segment)) ≡ 0

-- A segment that is disjoint from others is disjoint from each.
disjoint_each : (y : Segment) (xs : List Segment) → disjoint_from_all y xs ≡ true → (n : ℕ) → n < length xs
    → disjoint_targets (get_or xs n unused_segment) y ≡ true
unfolding disjoint_from_all
disjoint_each y [] e n h = absurd (omega arith)
disjoint_each y (x ∷ xs) e zero h = (both_true (disjoint_targets x y) (disjoint_from_all y xs) e).0
disjoint_each y (x ∷ xs) e (suc n) h = disjoint_each y xs (both_true (disjoint_targets x y) (disjoint_from_all y xs) e).1 n (omega arith)

module _ {s : List ℕ} {at o : ℕ} where
  at_zero : {p : ℕ} {xs : List Segment} (ys : List Segment) → Passed s at o p xs → Nth s at o p (segment_at s o p ∷ ys) 0
  at_zero {p} ys a = let e : p ≡ p + 28 * 0 = omega arith in record { is = ap (λ (q : ℕ). segment_at s o q) e; long = omega (arith, a.long); fits = a.fits }

  pub nth : {p : ℕ} {xs ys : List Segment} → Run s at o p xs ys → (n : ℕ) → n < length ys → Nth s at o p ys n
  nth (last a e) zero h = at_zero [] a
  nth (last a e) (suc n) h = absurd (omega arith)
  nth (more {ys = ys} a e r) zero h = at_zero ys a
  nth {p} (more a e r) (suc n) h =
      let m = nth r n (omega arith) in
      let q : p + 28 + 28 * n ≡ p + 28 * suc n = omega arith in
      record { is = m.is ∙ ap (λ (y : ℕ). segment_at s o y) q; long = omega (arith, m.long); fits = m.fits }

  -- How many there are: up to the first ENTRY.
  pub ending : {p : ℕ} {xs ys : List Segment} → Run s at o p xs ys
      → (m : ℕ) × (length ys ≡ suc m) × (is_entry (segment_at s o (p + 28 * m)) ≡ true) × ((n : ℕ) → n < m → is_entry (segment_at s o (p + 28 * n)) ≡ false)
  ending {p} (last a e) = let q : p + 28 * 0 ≡ p = omega arith in (0, refl, rw q e, λ n h. absurd (omega arith))
  ending {p} (more a e r) = let (m, l, f, g) = ending r in (suc m, ap suc l, subst (λ (y : ℕ). is_entry (segment_at s o y) ≡ true) (further m) f, go m g)
    where
      further : (m : ℕ) → p + 28 + 28 * m ≡ p + 28 * suc m
      further m = omega arith

      go : (m : ℕ) → ((n : ℕ) → n < m → is_entry (segment_at s o (p + 28 + 28 * n)) ≡ false)
          → (n : ℕ) → n < suc m → is_entry (segment_at s o (p + 28 * n)) ≡ false
      go m g zero h = let q : p + 28 * 0 ≡ p = omega arith in rw q e
      go m g (suc n) h = subst (λ (y : ℕ). is_entry (segment_at s o y) ≡ false) (further n) (g n (omega arith))

  -- Every later segment is disjoint from every earlier one.

  earlier : {p : ℕ} {xs ys : List Segment} → Run s at o p xs ys → (n m : ℕ) → n < length xs → m < length ys
      → disjoint_targets (get_or xs n unused_segment) (get_or ys m unused_segment) ≡ true
  earlier {xs = xs} (last a e) n zero f h = disjoint_each _ xs a.clears n f
  earlier (last a e) n (suc m) f h = absurd (omega arith)
  earlier {xs = xs} (more a e r) n zero f h = disjoint_each _ xs a.clears n f
  earlier {p} {xs} (more {ys = ys} a e r) n (suc m) f h =
      let q : n < length (xs ++ (segment_at s o p ∷ [])) = simp length-append (omega arith) in
      subst (λ (x : Segment). disjoint_targets x (get_or ys m unused_segment) ≡ true) (get_or-append xs (segment_at s o p ∷ []) unused_segment n f)
      (earlier r n m q (omega arith))

  pub pairwise : {p : ℕ} {xs ys : List Segment} → Run s at o p xs ys → (n m : ℕ) → n < m → m < length ys
      → disjoint_targets (get_or ys n unused_segment) (get_or ys m unused_segment) ≡ true
  pairwise (last a e) n m f h = absurd (omega arith)
  pairwise (more a e r) n zero f h = absurd (omega arith)
  pairwise {p} {xs} (more {ys = ys} a e r) zero (suc m) f h =
      let q : length xs < length (xs ++ (segment_at s o p ∷ [])) = simp length-append (omega arith) in
      subst (λ (x : Segment). disjoint_targets x (get_or ys m unused_segment) ≡ true) (get_or-append_seam xs (segment_at s o p) [] unused_segment)
      (earlier r (length xs) m q (omega arith))
  pairwise (more a e r) (suc n) (suc m) f h = pairwise r n m (omega arith) (omega arith)

-- Two targets.

before_in : (x y : Segment) → ends_before x y ≡ true → x.load + x.memlen ≤ y.load
unfolding ends_before
before_in x y e = leb-true _ _ e

-- Segments that are disjoint share no byte: one has no target, or one target ends before the other begins.
pub disjoint_in : (x y : Segment) → disjoint_targets x y ≡ true → (b : ℕ) → Target x b → Target y b → ⊥
unfolding disjoint_targets
disjoint_in x y e b f g = go (eqb x.memlen 0) refl (eqb y.memlen 0) refl (ends_before x y) refl e
  where
    go : (p : Bool) → eqb x.memlen 0 ≡ p → (q : Bool) → eqb y.memlen 0 ≡ q → (r : Bool) → ends_before x y ≡ r → p || (q || (r || ends_before y x)) ≡ true
        → ⊥
    go true p q s r t h = omega (arith, eqb-true x.memlen 0 p)
    go false p true s r t h = omega (arith, eqb-true y.memlen 0 s)
    go false p false s true t h = omega (arith, before_in x y t)
    go false p false s false t h = omega (arith, before_in y x h)

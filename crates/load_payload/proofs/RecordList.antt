-- Laws of the records in turn, as the loop over them meets them.
use Prim.Native.Nat.{ℕ, zero, suc, ◌+◌, ◌*◌, ◌-◌, ◌≤◌, ◌<◌}
use native.Mathlib.Omega.{arith}
use mathlib.Core.Path.{◌≡◌, refl, sym, ap, ◌∙◌}
use mathlib.Core.Bool.{Bool, true, false, cond}
use mathlib.Core.List.{List, [], ◌∷◌, ◌++◌, append_assoc}
use lib.ListN.{length, take, set, replicate}
use lib.Dec.{eqb}
use borrow.Author.Tests.{eq-eqb, ne_eqb}
use Rattle.bytes_read.specs.Lists.{padded}
use Rattle.bytes_read.proofs.Padding.{padded_none, padded-set, padded-take}
use Rattle.region.specs.Refusals.{Test, test, first_failed}
use Rattle.region.specs.Region.{refusal_by, unless_refused}
use Rattle.cbfs_types.specs.declared.Refusal.{Refusal}
use Rattle.std.specs.Prelude.{Result, Ok, Err}
use Rattle.cbfs_types.specs.declared.Taken.{Taken}
use Rattle.load_segment.specs.LoadSegment.{content_place, load_tests}
use Rattle.region.proofs.Answered.{value_given, refusal_given}
use Rattle.load_payload.specs.Payload.{code_type, data_type, bss_type, params_type, entry_type, segment_at, bss_tests, params_tests, type_tests, record_tests}
use Rattle.load_payload.specs.Payload.{disjoint_from_all, is_entry, segment_limit, record_list_tests, segments_from, unused_segment, payload_plan}
use Rattle.load_payload.specs.Payload.{origin, payload_tests, payload_answer, records_plan, payload_of}
use Rattle.cbfs_types.specs.declared.Segment.{Segment}
use Rattle.cbfs_types.specs.declared.PayloadPlan.{PayloadPlan}
use Rattle.region.proofs.Orders.{numbered, first_here, first_later}

-- k segments, the first at p.
unfoldable pub segments_at : List ℕ → ℕ → ℕ → ℕ → List Segment
segments_at s o zero p = []
segments_at s o (suc k) p = segment_at s o p ∷ segments_at s o k (p + 28)

pub segments_length : (s : List ℕ) (o k p : ℕ) → length (segments_at s o k p) ≡ k
unfolding segments_at
segments_length s o zero p = refl
segments_length s o (suc k) p = ap suc (segments_length s o k (p + 28))

pub segments_last : (s : List ℕ) (o k p : ℕ) → segments_at s o (suc k) p ≡ segments_at s o k p ++ (segment_at s o (p + 28 * k) ∷ [])
unfolding segments_at
segments_last s o zero p = let e : p ≡ p + 28 * 0 = omega arith in ap (λ (q : ℕ). segment_at s o q ∷ []) e
segments_last s o (suc k) p =
    let e : p + 28 + 28 * k ≡ p + 28 * suc k = omega arith in
    ap (λ (l : List Segment). segment_at s o p ∷ l) (segments_last s o k (p + 28) ∙ ap (λ (q : ℕ). segments_at s o k (p + 28) ++ (segment_at s o q ∷ [])) e)

segments_snoc : (s : List ℕ) (o i : ℕ) → segments_at s o (i + 1) 0 ≡ segments_at s o i 0 ++ (segment_at s o (28 * i) ∷ [])
segments_snoc s o i =
    let e : i + 1 ≡ suc i = omega arith in
    let f : 0 + 28 * i ≡ 28 * i = omega arith in
    rw (e, segments_last s o i 0, f)

-- No test of a record refuses by 0.
pub type_numbered : (at l : ℕ) (x : Segment) → numbered (type_tests at l x) ≡ true
unfolding type_tests load_tests bss_tests params_tests
type_numbered at l x =
    either (eqb x.kind code_type) (load_tests at l x) _ refl
    (either (eqb x.kind data_type) (load_tests at l x) _ refl
    (either (eqb x.kind bss_type) (bss_tests x) _ refl
    (either (eqb x.kind params_type) (params_tests at l x) _ refl
    (either (eqb x.kind entry_type) [] (test 20 false ∷ []) refl refl))))
  where
    either : (b : Bool) (ts us : List Test) → numbered ts ≡ true → numbered us ≡ true → numbered (cond b ts us) ≡ true
    either true ts us e f = e
    either false ts us e f = f

pub record_numbered : (s : List ℕ) (at o p : ℕ) → numbered (record_tests s at o p) ≡ true
unfolding record_tests
record_numbered s at o p = type_numbered at (length s) (segment_at s o p)

-- The tests and the segments from the i-th record on, counted from 0.

one_more : (i : ℕ) → i < 16 → 16 - i ≡ suc (16 - (i + 1))
one_more i h = omega arith

records_open : (s : List ℕ) (at o i p : ℕ) (xs : List Segment) → i < 16
    → record_list_tests s at o (16 - i) p xs ≡ record_tests s at o p ++ (test 26 (disjoint_from_all (segment_at s o p) xs)
    ∷ cond (is_entry (segment_at s o p)) [] (record_list_tests s at o (16 - (i + 1)) (p + 28) (xs ++ (segment_at s o p ∷ []))))
unfolding record_list_tests
records_open s at o i p xs h = rw (one_more i h)

records_over : (s : List ℕ) (at o i p : ℕ) (xs : List Segment) → 16 ≤ i → first_failed (record_list_tests s at o (16 - i) p xs) ≡ 21
unfolding record_list_tests
records_over s at o i p xs h = let e : 16 - i ≡ 0 = omega arith in rw e

from_open : (s : List ℕ) (o i p : ℕ) → i < 16
    → segments_from s o (16 - i) p ≡ segment_at s o p ∷ cond (is_entry (segment_at s o p)) [] (segments_from s o (16 - (i + 1)) (p + 28))
unfolding segments_from
from_open s o i p h = rw (one_more i h)

-- After i records, none of them refused and none an ENTRY.
pub record Going (s : List ℕ) (at o i : ℕ) (all : List Segment) : Type 0 where
  pub stored : all ≡ padded segment_limit unused_segment (segments_at s o i 0)
  pub refusal : first_failed (record_list_tests s at o 16 0 []) ≡ first_failed (record_list_tests s at o (16 - i) (28 * i) (segments_at s o i 0))
  pub segments : segments_from s o 16 0 ≡ segments_at s o i 0 ++ segments_from s o (16 - i) (28 * i)

pub starting : (s : List ℕ) (at o : ℕ) → Going s at o 0 (replicate 16 unused_segment)
unfolding segments_at
starting s at o = record { stored = padded_none segment_limit unused_segment refl; refusal = refl; segments = refl }

-- The plan, by the number of the first test that fails.

module _ (s : List ℕ) (at o : ℕ) where
  answered : {n : ℕ} {r : Refusal} → first_failed (record_list_tests s at o 16 0 []) ≡ n → (n ≡ 0 → ⊥) → r ≡ refusal_by n → Err r ≡ records_plan s at o
  unfolding payload_answer
  answered {n} e z f = rw (f, e, ne_eqb n 0 z)

  planned : {xs : List Segment} {p : PayloadPlan} → first_failed (record_list_tests s at o 16 0 []) ≡ 0 → segments_from s o 16 0 ≡ xs → p ≡ payload_plan xs
      → Ok p ≡ records_plan s at o
  unfolding payload_answer
  planned e f g = rw (g, e, f)

pub over : {s : List ℕ} {at o i : ℕ} {all : List Segment} {r : Refusal} → Going s at o i all → 16 ≤ i → r ≡ refusal_by 21 → Err r ≡ records_plan s at o
over {s} {at} {o} {i} g h e = answered s at o (g.refusal ∙ records_over s at o i (28 * i) (segments_at s o i 0) h) (λ z. omega arith) e

-- The next record, of which j was answered.
module _ {s : List ℕ} {at o i : ℕ} {all : List Segment} (g : Going s at o i all) (h : i < 16) {j : Result Segment Refusal}
    (e : j ≡ unless_refused (first_failed (record_tests s at o (28 * i))) (segment_at s o (28 * i))) where
  abbrev before : List Segment
  before = segments_at s o i 0

  abbrev this : Segment
  this = segment_at s o (28 * i)

  abbrev later : List Test
  later = cond (is_entry this) [] (record_list_tests s at o (16 - (i + 1)) (28 * i + 28) (before ++ (this ∷ [])))

  opened : first_failed (record_list_tests s at o 16 0 []) ≡ first_failed (record_tests s at o (28 * i) ++ (test 26 (disjoint_from_all this before) ∷ later))
  opened = g.refusal ∙ ap first_failed (records_open s at o i (28 * i) before h)

  pub by_record : {r : Refusal} → j ≡ Err r → Err r ≡ records_plan s at o
  by_record {r} f =
      let (z, a) = refusal_given this (first_failed (record_tests s at o (28 * i))) (sym e ∙ f) in
      answered s at o (opened ∙ first_here (record_tests s at o (28 * i)) (test 26 (disjoint_from_all this before) ∷ later) z) z a

  -- It fits, and b says whether its target is disjoint from the earlier ones.
  module _ {x : Segment} (f : j ≡ Ok x) {b : Bool} (q : b ≡ disjoint_from_all x (take i all)) where
    fits : (first_failed (record_tests s at o (28 * i)) ≡ 0) × (this ≡ x)
    fits = value_given this (first_failed (record_tests s at o (28 * i))) (sym e ∙ f)

    cleared : disjoint_from_all this before ≡ b
    cleared =
        let t : take i all ≡ before = rw g.stored (padded-take segment_limit unused_segment before i (segments_length s o i 0)) in
        rw (fits.1, ← t) (sym q)

    passed : first_failed (record_list_tests s at o 16 0 []) ≡ first_failed (test 26 b ∷ later)
    passed =
        opened ∙ first_later (record_tests s at o (28 * i)) (test 26 (disjoint_from_all this before) ∷ later) (record_numbered s at o (28 * i)) fits.0
        ∙ ap (λ (t : Bool). first_failed (test 26 t ∷ later)) cleared

    pub overlapped : {r : Refusal} → b ≡ false → r ≡ refusal_by 26 → Err r ≡ records_plan s at o
    overlapped t = answered s at o (passed ∙ rw t) (λ z. omega arith)

    stored : set all i x ≡ padded segment_limit unused_segment (segments_at s o (i + 1) 0)
    stored =
        let n : length before ≡ i = segments_length s o i 0 in
        rw (g.stored, segments_snoc s o i, ← fits.1) (rw n at (padded-set segment_limit unused_segment before this (omega arith)))

    rest : segments_from s o 16 0 ≡ before ++ (this ∷ cond (is_entry this) [] (segments_from s o (16 - (i + 1)) (28 * i + 28)))
    rest = g.segments ∙ ap (λ (l : List Segment). before ++ l) (from_open s o i (28 * i) h)

    module _ (t : b ≡ true) where
      pub going : (x.kind ≡ entry_type → ⊥) → Going s at o (i + 1) (set all i x)
      going z = record {
        stored = stored;
        refusal = passed ∙ rw (t, not_last, segments_snoc s o i, further);
        segments = rest ∙ rw (not_last, segments_snoc s o i, further) (sym (append_assoc before (this ∷ []) _));
      }
        where
          not_last : is_entry this ≡ false
          not_last = rw fits.1 (ne_eqb _ _ z)

          further : 28 * (i + 1) ≡ 28 * i + 28
          further = omega arith

      pub finished : x.kind ≡ entry_type → Ok (record { count = i + 1; segments = set all i x }) ≡ records_plan s at o
      unfolding payload_plan
      finished z =
          planned s at o {xs = segments_at s o (i + 1) 0} (passed ∙ rw (t, last)) (rest ∙ rw (last, segments_snoc s o i))
          (rw (stored, segments_length s o (i + 1) 0))
        where
          last : is_entry this ≡ true
          last = rw fits.1 (eq-eqb _ _ z)

-- The plan of a component: refused by 18 where its type is another, else that of its records.

pub no_payload : (t : Taken) (s : List ℕ) → (t.header.kind ≡ 0x20 → ⊥) → payload_of t s ≡ Err (refusal_by 18)
unfolding payload_of payload_tests payload_answer
no_payload t s h = rw (ne_eqb t.header.kind 0x20 h)

pub payload_by : (t : Taken) (s : List ℕ) → t.header.kind ≡ 0x20 → payload_of t s ≡ records_plan s (content_place t) (origin t)
unfolding payload_of payload_tests
payload_by t s h = rw (eq-eqb t.header.kind 0x20 h)

pub ruleset by_kind = (no_payload, payload_by)

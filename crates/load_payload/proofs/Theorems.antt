-- What is known of every payload plan (document 01, "Load plans"): i is an image, g a region of it, and the name any bytes.
use Prim.Native.Nat.{ℕ, ◌+◌, ◌*◌, ◌≤◌, ◌<◌}
use native.Mathlib.Nat.{zero-add}
use native.Mathlib.Omega.{arith}
use native.Mathlib.Decide.{dec_lt}
use mathlib.Core.Path.{◌≡◌, refl, sym, ap, subst, ◌∙◌}
use mathlib.Core.Bool.{true}
use mathlib.Core.List.{List, [], ◌∷◌}
use lib.ListN.{length, get_or}
use lib.Dec.{eqb}
use borrow.Author.Tests.{eqb-true, eqb-false}
use Rattle.bytes_read.proofs.Padding.{padded_nth, padded_past}
use Rattle.region.specs.Refusals.{test, first_failed}
use Rattle.std.specs.Prelude.{Ok, Err}
use Rattle.cbfs_types.specs.declared.Refusal.{Refusal}
use Rattle.cbfs_types.specs.declared.Region.{Region}
use Rattle.region.proofs.Orders.{all_passed, first_both}
use Rattle.cbfs_types.specs.declared.Taken.{Taken}
use Rattle.region_read.specs.RegionRead.{find_in, content_found_in}
use Rattle.load_segment.specs.LoadSegment.{content_place, disjoint_targets}
use Rattle.cbfs_types.specs.declared.Segment.{Segment}
use Rattle.load_segment.proofs.Finding.{Located, located, inside, Refuses}
use Rattle.region.proofs.Answered.{value_given}
use Rattle.load_segment.proofs.Answering.{refused, found_plan, refused_plan}
use Rattle.load_payload.specs.Payload.{type_at, origin, segment_at, type_tests, segment_limit, record_list_tests, segments_from, payload_tests, unused_segment}
use Rattle.load_payload.specs.Payload.{payload_plan}
use Rattle.load_payload.specs.Payload.{payload_answer, payload_of, payload_in}
use Rattle.load_payload.specs.Accepted.{segment_of, Target, AcceptedPayload}
use Rattle.cbfs_types.specs.declared.PayloadPlan.{PayloadPlan}
use Rattle.load_payload.proofs.Accepting.{source_fit, target_fit, memory_fit, compression_fit, known, kind_is, no_target, no_source, Run, run, from_most}
use Rattle.load_payload.proofs.Accepting.{Nth, nth, ending, pairwise, disjoint_in}

-- A component that was found, and its content s: its plan p.
module _ (i s : List ℕ) (t : Taken) (place : Located i s t) (p : PayloadPlan) (ok : payload_of t s ≡ Ok p) where
  abbrev all : List Segment
  all = segments_from s (origin t) 16 0

  abbrev plan : PayloadPlan
  plan = payload_plan all

  planned : (first_failed (payload_tests t.header.kind s (content_place t) (origin t)) ≡ 0) × (plan ≡ p)
  unfolding payload_of payload_answer
  planned = value_given plan (first_failed (payload_tests t.header.kind s (content_place t) (origin t))) ok

  parts : (first_failed (test 18 (eqb t.header.kind 0x20) ∷ []) ≡ 0) × (first_failed (record_list_tests s (content_place t) (origin t) 16 0 []) ≡ 0)
  unfolding payload_tests
  parts = first_both (test 18 (eqb t.header.kind 0x20) ∷ []) (record_list_tests s (content_place t) (origin t) 16 0 []) refl planned.0

  records : Run s (content_place t) (origin t) 0 [] all
  records = run s (content_place t) (origin t) 16 0 [] parts.1

  count_is : plan.count ≡ length all
  unfolding payload_plan
  count_is = refl

  segment_is : (k : ℕ) → k < plan.count → segment_of plan k ≡ get_or all k unused_segment
  unfolding payload_plan
  segment_is k h = padded_nth segment_limit unused_segment all k h

  each : (k : ℕ) → k < plan.count → Nth s (content_place t) (origin t) 0 all k
  each k h = nth records k (omega (arith, count_is))

  fits : (k : ℕ) → k < plan.count → first_failed (type_tests (content_place t) (length s) (segment_of plan k)) ≡ 0
  fits k h = rw (segment_is k h) (each k h).fits

  in_order : (k : ℕ) → k < plan.count → segment_of plan k ≡ segment_at s (origin t) (28 * k)
  in_order k h = segment_is k h ∙ (each k h).is ∙ ap (λ (p : ℕ). segment_at s (origin t) p) (zero-add (28 * k))

  typed : (m : ℕ) → type_at s (28 * m) ≡ (segment_at s (origin t) (0 + 28 * m)).kind
  typed m = rw (zero-add (28 * m)) (sym (kind_is s (origin t) (28 * m)))

  -- Two segments that share a byte are the same one.
  shared : (b j k : ℕ) → j < plan.count → k < plan.count → Target (segment_of plan j) b → Target (segment_of plan k) b → j ≡ k
  shared b j k f h x y = by (dec_lt j k) (dec_lt k j)
    where
      other : (j k : ℕ) → j < k → j < plan.count → k < plan.count → Target (segment_of plan j) b → Target (segment_of plan k) b → ⊥
      other j k l f h =
          let a : disjoint_targets (segment_of plan j) (segment_of plan k) ≡ true =
          rw (segment_is j f, segment_is k h) (pairwise records j k l (omega (arith, count_is))) in
          disjoint_in (segment_of plan j) (segment_of plan k) a b

      by : Dec (j < k) → Dec (k < j) → j ≡ k
      by (yes l) d = absurd (other j k l f h x y)
      by (no u) (yes l) = absurd (other k j l h f y x)
      by (no u) (no v) = omega arith

  unused_past : (k : ℕ) → plan.count ≤ k → segment_of plan k ≡ unused_segment
  unfolding payload_plan
  unused_past k h = padded_past segment_limit unused_segment all k h

  holds : AcceptedPayload i s t p
  holds = subst (AcceptedPayload i s t) planned.1 (record {
    kind = eqb-true t.header.kind 0x20 (all_passed (test 18 (eqb t.header.kind 0x20) ∷ []) refl parts.0 0);
    content = inside i s t place;
    ordered = λ k h. (in_order k h, omega (arith, (each k h).long));
    counted = let (n, l, e, f) = ending records in
        (n, count_is ∙ l, omega (arith, count_is, from_most s (origin t) 16 0), typed n ∙ eqb-true _ _ e, λ m h q. eqb-false _ _ (f m h) (sym (typed m) ∙ q));
    types = λ k h. known (content_place t) (length s) (segment_of plan k) (fits k h);
    sources = λ k h y. let b = source_fit (content_place t) (length s) (segment_of plan k) (fits k h) y in
        record { from = b.0; to = b.1; within = omega (arith, b, (inside i s t place).within) };
    targets = λ k h. target_fit (content_place t) (length s) (segment_of plan k) (fits k h);
    disjoint = λ j k f h b. shared b j k f h;
    memory = λ k h. memory_fit (content_place t) (length s) (segment_of plan k) (fits k h);
    compressed = λ k h. compression_fit (content_place t) (length s) (segment_of plan k) (fits k h);
    sourceless = λ k h. rw (in_order k h) (no_source s (origin t) (28 * k));
    targetless = λ k h. rw (in_order k h) (no_target s (origin t) (28 * k));
    past = unused_past;
  })

module _ (i : List ℕ) (g : Region) (name : List ℕ) where
  abbrev content : List ℕ
  content = content_found_in true i g name

  -- A plan that is given is that of the component which the guarded lookup gives.
  pub payload_accepted : (p : PayloadPlan) → payload_in i g name ≡ Ok p → (t : Taken) × (find_in true i g name ≡ Ok t) × AcceptedPayload i content t p
  unfolding payload_in
  payload_accepted p h =
      let (t, f, z) = found_plan i g name (λ t. payload_of t content) p h in
      (t, f, holds i content t (located i g true name t f) p z)

  -- A refusal has the number of a test, and reports place 0.
  pub payload_refused : (r : Refusal) → payload_in i g name ≡ Err r → Refuses r
  unfolding payload_in payload_of payload_answer
  payload_refused = refused_plan i g name (λ t. payload_of t content)
      (λ t. refused (first_failed (payload_tests t.header.kind content (content_place t) (origin t))) (payload_plan (segments_from content (origin t) 16 0)))

-- What is known of every stage plan (document 01, "Load plans"): i is an image, g a region of it, and the name any bytes.
use Prim.Native.Nat.{ℕ}
use native.Mathlib.Omega.{arith}
use mathlib.Core.Path.{◌≡◌, refl, subst}
use mathlib.Core.Bool.{true}
use mathlib.Core.List.{List}
use lib.ListN.{length, get_or}
use borrow.Author.Tests.{leb-true, eqb-true}
use Rattle.region.specs.Refusals.{test, first_failed}
use Rattle.std.specs.Prelude.{Ok, Err}
use Rattle.cbfs_types.specs.declared.Refusal.{Refusal}
use Rattle.cbfs_types.specs.declared.Region.{Region}
use Rattle.region.proofs.Orders.{all_passed}
use Rattle.cbfs_types.specs.declared.Taken.{Taken}
use Rattle.region_read.specs.RegionRead.{find_in, content_found_in}
use Rattle.load_segment.specs.LoadSegment.{content_place, load_tests}
use Rattle.cbfs_types.specs.declared.Segment.{Segment}
use Rattle.load_segment.proofs.Fitting.{source_in, len_in, target_in}
use Rattle.load_segment.proofs.Finding.{Located, located, inside, Refuses}
use Rattle.region.proofs.Answered.{value_given}
use Rattle.load_segment.proofs.Answering.{refused, found_plan, refused_plan}
use Rattle.load_stage.specs.Stage.{entry_point, binary_at, stage_tests, stage_plan, stage_answer, stage_of, stage_in}
use Rattle.load_stage.specs.Accepted.{AcceptedStage}
use Rattle.cbfs_types.specs.declared.StagePlan.{StagePlan}

-- A component that was found, and its content s: its plan p.
module _ (i s : List ℕ) (t : Taken) (place : Located i s t) (p : StagePlan) (ok : stage_of t s ≡ Ok p) where
  abbrev binary : Segment
  binary = binary_at s (content_place t)

  staged : (first_failed (stage_tests t.header.kind s (content_place t)) ≡ 0) × (stage_plan (entry_point s) binary ≡ p)
  unfolding stage_of stage_answer
  staged = value_given (stage_plan (entry_point s) binary) (first_failed (stage_tests t.header.kind s (content_place t))) ok

  passed : (k : ℕ) → (get_or (stage_tests t.header.kind s (content_place t)) k (test 1 true)).passed ≡ true
  unfolding stage_tests load_tests
  passed = all_passed (stage_tests t.header.kind s (content_place t)) refl staged.0

  holds : AcceptedStage i s t p
  unfolding stage_tests load_tests
  holds =
      let b = source_in (content_place t) (length s) binary.source binary.len (passed 3) in
      subst (AcceptedStage i s t) staged.1 (record {
        kind = eqb-true t.header.kind 0x10 (passed 0);
        content = inside i s t place;
        reported = refl;
        source = record { from = b.0; to = b.1; within = omega (arith, b, (inside i s t place).within) };
        range = target_in binary.load binary.memlen (passed 5);
        memory = len_in binary.compression binary.len binary.memlen (passed 4);
        compressed = leb-true binary.compression 2 (passed 2);
      })

module _ (i : List ℕ) (g : Region) (name : List ℕ) where
  abbrev content : List ℕ
  content = content_found_in true i g name

  -- A plan that is given is that of the component which the guarded lookup gives.
  pub stage_accepted : (p : StagePlan) → stage_in i g name ≡ Ok p → (t : Taken) × (find_in true i g name ≡ Ok t) × AcceptedStage i content t p
  unfolding stage_in
  stage_accepted p h =
      let (t, f, z) = found_plan i g name (λ t. stage_of t content) p h in
      (t, f, holds i content t (located i g true name t f) p z)

  -- A refusal has the number of a test, and reports place 0.
  pub stage_refused : (r : Refusal) → stage_in i g name ≡ Err r → Refuses r
  unfolding stage_in stage_of stage_answer
  stage_refused = refused_plan i g name (λ t. stage_of t content)
      (λ t. refused (first_failed (stage_tests t.header.kind content (content_place t)))
      (stage_plan (entry_point content) (binary_at content (content_place t))))

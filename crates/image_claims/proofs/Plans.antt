-- What is known of every plan of a whole image i, over the definitions that the contracts of `image_stage` and `image_payload` cite.
use Rattle.std.specs.Prelude.{ℕ, ◌≡◌, List, refl, Result, Ok, Err}
use Rattle.std.proofs.Common.{subst, arith}
use Rattle.region.specs.Region.{and_then}
use Rattle.cbfs_types.specs.declared.Region.{Region}
use Rattle.cbfs_types.specs.declared.Refusal.{Refusal}
use Rattle.cbfs_types.specs.declared.Taken.{Taken}
use Rattle.cbfs_types.specs.declared.StagePlan.{StagePlan}
use Rattle.cbfs_types.specs.declared.PayloadPlan.{PayloadPlan}
use Rattle.master_header.specs.Master.{master}
use Rattle.master_header.proofs.Facts.{refused_number, refused_place}
use Rattle.load_segment.proofs.Finding.{Refuses}
use Rattle.load_stage.specs.Stage.{stage_in}
use Rattle.load_payload.specs.Payload.{payload_in}
use Rattle.load_stage.specs.Accepted.{AcceptedStage}
use Rattle.load_payload.specs.Accepted.{AcceptedPayload}
use Rattle.load_stage.proofs.Theorems as Stage
use Rattle.load_payload.proofs.Theorems as Payload
use Rattle.image_find.specs.ImageFind.{guarded_find, guarded_content}
use Rattle.image_load.specs.ImageLoad.{image_stage, image_payload}

-- Plans of either kind.
module _ {A : Type 0} (i : List ℕ) (call : Region → Result A Refusal) where
  -- A plan is one over the image's region.
  read_plan : (p : A) → and_then (master i) call ≡ Ok p → (g : Region) × (master i ≡ Ok g)
  read_plan p h = go (master i) refl h
    where
      go : (m : Result Region Refusal) → master i ≡ m → and_then m call ≡ Ok p → (g : Region) × (master i ≡ Ok g)
      go (Ok g) e z = (g, e)
      go (Err r) e z = let y : ◌≡◌ {A = ℕ} 0 1 = cc in absurd (omega arith)

  -- A refusal is the master header's, or that of the call over the region.
  plan_refusal : ((g : Region) (r : Refusal) → call g ≡ Err r → Refuses r) → (r : Refusal) → and_then (master i) call ≡ Err r → Refuses r
  plan_refusal each r h = go (master i) refl h
    where
      go : (m : Result Region Refusal) → master i ≡ m → and_then m call ≡ Err r → Refuses r
      go (Ok g) e z = each g r z
      go (Err x) e z = let y : x ≡ r = cc in subst Refuses y (refused_number i x e, refused_place i x e)

module _ (i name : List ℕ) where
  -- A plan that is given is that of the component t which the guarded lookup gives; the record names what is known of it.

  pub stage_accepted : (p : StagePlan) → image_stage i name ≡ Ok p → (t : Taken) × (guarded_find i name ≡ Ok t) × AcceptedStage i (guarded_content i name) t p
  stage_accepted p h =
      let (g, e) = read_plan i (λ g. stage_in i g name) p h in
      rw e (Stage.stage_accepted i g name p (rw e at h))

  pub payload_accepted : (p : PayloadPlan) → image_payload i name ≡ Ok p
      → (t : Taken) × (guarded_find i name ≡ Ok t) × AcceptedPayload i (guarded_content i name) t p
  payload_accepted p h =
      let (g, e) = read_plan i (λ g. payload_in i g name) p h in
      rw e (Payload.payload_accepted i g name p (rw e at h))

  -- A refusal has a number that is not 0, and reports place 0.

  pub stage_refused : (r : Refusal) → image_stage i name ≡ Err r → Refuses r
  stage_refused = plan_refusal i (λ g. stage_in i g name) (λ g. Stage.stage_refused i g name)

  pub payload_refused : (r : Refusal) → image_payload i name ≡ Err r → Refuses r
  payload_refused = plan_refusal i (λ g. payload_in i g name) (λ g. Payload.payload_refused i g name)

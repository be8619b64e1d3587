-- The load plans of a whole image i: the master header, refusals 1 to 8, and then the plan over its region.
use Rattle.std.specs.Prelude.{Result, ℕ, List}
use Rattle.cbfs_types.specs.declared.Refusal.{Refusal}
use Rattle.region.specs.Region.{and_then}
use Rattle.master_header.specs.Master.{master}
use Rattle.load_stage.specs.Stage.{stage_in}
use Rattle.load_payload.specs.Payload.{payload_in}
use Rattle.cbfs_types.specs.declared.StagePlan.{StagePlan}
use Rattle.cbfs_types.specs.declared.PayloadPlan.{PayloadPlan}

-- The plans: refusals 1 to 8, then 10 and 11 by the guarded lookup, then 18, and 19, 22 to 25 (stage), or record by record 19 to 26 with 21 before 19
-- (payload).

abbrev pub image_stage : List ℕ → List ℕ → Result StagePlan Refusal
image_stage i name = and_then (master i) (λ g. stage_in i g name)

abbrev pub image_payload : List ℕ → List ℕ → Result PayloadPlan Refusal
image_payload i name = and_then (master i) (λ g. payload_in i g name)

-- What is read of a whole image i: the master header, refusals 1 to 8, and then the call over its region.
use Rattle.std.specs.Prelude.{Option, Result, ℕ, Bool, true, false, List}
use Rattle.cbfs_types.specs.declared.Refusal.{Refusal}
use Rattle.cbfs_types.specs.declared.Taken.{Taken}
use Rattle.region.specs.Region.{region_bytes, and_then}
use Rattle.master_header.specs.Master.{master}
use Rattle.strict_rules.specs.Strict.{component_limit, verdict}
use Rattle.strict_check.specs.StrictCheck.{directory_answer}
use Rattle.cbfs_types.specs.declared.Directory.{Directory}
use Rattle.region_read.specs.RegionRead.{step_in}

-- A step from any number: refusals 1 to 8, then 9. w is true for the guarded walk.

abbrev pub image_step : Bool → List ℕ → ℕ → Result (Option Taken) Refusal
image_step w i n = and_then (master i) (λ g. step_in w i g n)

abbrev pub plain_step : List ℕ → ℕ → Result (Option Taken) Refusal
plain_step i n = image_step false i n

abbrev pub guarded_step : List ℕ → ℕ → Result (Option Taken) Refusal
guarded_step i n = image_step true i n

-- The strict check, where at most that many components are allowed: refusals 1 to 8, then 12, 13, 11; else the directory.

abbrev pub strict_check_up_to : ℕ → List ℕ → Result Directory Refusal
strict_check_up_to most i = and_then (master i) (λ g. directory_answer most g.start (verdict most (region_bytes i g) g.align))

abbrev pub strict_check : List ℕ → Result Directory Refusal
strict_check i = strict_check_up_to component_limit i

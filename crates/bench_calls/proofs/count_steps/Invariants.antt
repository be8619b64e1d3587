use Prim.Native.Nat.{◌-◌}
use Rattle.region_read.specs.RegionRead.{step_in}
use Rattle.bench_calls.specs.Calls.{count_of}
use Rattle.bench_calls.proofs.Stepping.{Counting}
use Rattle.bench_calls.proofs.count_steps.Given as goal

-- The loop's invariant: what is counted and what the steps from here on still give make up the listing.
abbrev pub invariant-loop-t : goal.invariant-loop-t
invariant-loop-t l = Counting (step_in l.guarded l.image l.region) (count_of l.guarded l.image) l.from l.n

abbrev pub decreases-loop-t : goal.decreases-loop-t
decreases-loop-t l = count_of l.guarded l.image - l.n

use Prim.Native.Nat.{◌-◌}
use lib.ListN.{length}
use Rattle.walk.specs.Walk.{pick_with_sum_if}
use Rattle.walk.proofs.Stepping.{Searched}
use Rattle.walk.proofs.step_from.Given as goal

abbrev pub invariant-loop-p : goal.invariant-loop-p
invariant-loop-p l = Searched (pick_with_sum_if l.summed l.guarded l.r l.align) l.r l.align l.from l.p

abbrev pub decreases-loop-p : goal.decreases-loop-p
decreases-loop-p l = length l.r - l.p

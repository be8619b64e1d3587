use Rattle.std.specs.Prelude.{◌≡◌, ◌+◌, ◌%◌, length}
use Rattle.component.specs.Sums.{total}
use Rattle.component.proofs.sum.Given as goal

abbrev pub invariant-loop-block : goal.invariant-loop-block
invariant-loop-block l = (l.t + total l.rest) % 4294967296 ≡ total l.s % 4294967296

abbrev pub decreases-loop-block : goal.decreases-loop-block
decreases-loop-block l = length l.rest

use Rattle.std.specs.Prelude.{◌≡◌, ◌/◌, length}
use Rattle.strict_check.specs.StrictCheck.{digest_from, digest_of}
use Rattle.strict_check.proofs.digest.Given as goal

-- The digest of what is left, taken on from here, is that of the whole.
abbrev pub invariant-loop-w : goal.invariant-loop-w
invariant-loop-w l = digest_of l.s ≡ digest_from (length l.rest / 8) l.h l.rest 0

abbrev pub decreases-loop-w : goal.decreases-loop-w
decreases-loop-w l = length l.rest

use Rattle.std.proofs.Common.{◌≡◌, ◌-◌}
use Rattle.fmap_signature.specs.Signatures.{signatures_from}
use Rattle.fmap_signature.proofs.first_place.Given as goal

abbrev pub invariant-loop-p : goal.invariant-loop-p
invariant-loop-p l = signatures_from l.s l.from ≡ signatures_from l.s l.p

abbrev pub decreases-loop-p : goal.decreases-loop-p
decreases-loop-p l = l.stop - l.p

use Prim.Native.Nat.{◌-◌}
use lib.ListN.{length}
use Rattle.strict_check.proofs.Scans.{Scanning}
use Rattle.strict_check.proofs.scan_region.Given as goal

abbrev pub invariant-loop-p : goal.invariant-loop-p
invariant-loop-p l = Scanning l.r l.align l.initial.places l.places l.initial.digests l.digests l.n l.p

abbrev pub decreases-loop-p : goal.decreases-loop-p
decreases-loop-p l = length l.r - l.p

use Rattle.std.proofs.Common.{◌≡◌, length}
use Rattle.bytes_read.specs.Bytes.{eq_bytes}
use Rattle.bytes_read.proofs.equal_by_words.Given as goal

abbrev pub invariant-loop-x : goal.invariant-loop-x
invariant-loop-x l = eq_bytes l.left l.right ≡ eq_bytes l.a l.b

abbrev pub decreases-loop-x : goal.decreases-loop-x
decreases-loop-x l = length l.left

use Rattle.bytes_read.proofs.Overwrite.{Over}
use Rattle.bytes_write.proofs.copy_all.Given as goal

abbrev pub invariant-loop-i : goal.invariant-loop-i
invariant-loop-i l = Over l.src l.initial.dst l.dst l.i

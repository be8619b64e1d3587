use Rattle.load_payload.proofs.RecordList.{Going}
use Rattle.load_payload.proofs.records.Given as goal

abbrev pub invariant-loop-i : goal.invariant-loop-i
invariant-loop-i l = Going l.s l.at l.origin l.i l.segments

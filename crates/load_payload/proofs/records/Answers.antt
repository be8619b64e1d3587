use Rattle.load_payload.proofs.RecordList.{starting, overlapped, going}
use Rattle.load_payload.proofs.records.Goals as goal

pub loop-i-init : goal.loop-i-init
loop-i-init c = starting c.args.s.now c.args.at c.args.origin

pub returns-then-not-disjoint_from_all : goal.returns-then-not-disjoint_from_all
returns-then-not-disjoint_from_all c =
    overlapped c.loop-i.invariant c.loop-i-test.true c.record_at.ensures c.in_ok-x.was c.disjoint_from_all.ensures
    c.if-not-disjoint_from_all.true c.refusal_by.ensures

pub loop-i-preserved : goal.loop-i-preserved
loop-i-preserved c =
    going c.loop-i.invariant c.loop-i-test.true c.record_at.ensures c.in_ok-x.was c.disjoint_from_all.ensures
    c.if-not-disjoint_from_all.false c.if-x-eq-SEGMENT_ENTRY.false

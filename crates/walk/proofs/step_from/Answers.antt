use mathlib.Core.Path.{◌≡◌, sym, ◌∙◌}
use lib.ListN.{drop}
use Rattle.component.specs.Component.{judge_skipping_sum, judged}
use Rattle.std.specs.Prelude.{Some}
use Rattle.walk.proofs.Stepping.{unsummed_said, pick_for_searched, went, took, wrong}
use Rattle.walk.proofs.step_from.Goals as goal
use Rattle.walk.proofs.step_from.Goals.{After-judge_numbers, In-Some}
use Rattle.walk.proofs.step_from.Goals.{then-not-summed-via-then-not-summed, then-not-summed-via-else-not-summed+then-checksum_matches}

pub loop-p-init : goal.loop-p-init
loop-p-init c =
    let a = c.args in
    pick_for_searched a.guarded a.r.now a.align a.summed a.from c.next_magic-p.result c.next_magic-p.ensures.value

-- what the judge of the numbers says of the part from p on
said : (c : After-judge_numbers)
    → judged (judge_skipping_sum (drop c.loop-p.p c.args.r.now)) ≡ c.judge_numbers.result
said c =
    unsummed_said c.args.r.now c.loop-p.p (c.loop-p.invariant.found c.loop-p-test.true).1
    c.judge_numbers.ensures.value

header : (c : In-Some)
    → judged (judge_skipping_sum (drop c.loop-p.p c.args.r.now)) ≡ Some c.in-Some.h
header c = said (goal.at.In-Some c).After-judge_numbers ∙ c.in-Some.is

pub returns-then-not-summed : goal.returns-then-not-summed
returns-then-not-summed c =
    let a = c.args in
    took a.guarded a.summed a.r.now a.align a.from c.loop-p.p c.loop-p.invariant c.loop-p-test.true c.in-Some.h
    (header (goal.at.returns-then-not-summed c).In-Some) c.next_magic_if_guarded-q.result c.next_magic_if_guarded-q.ensures
    (elim c.then-not-summed.branch [
      | then-not-summed-via-then-not-summed w ↦ rw w.if-not-summed.true
      | then-not-summed-via-else-not-summed+then-checksum_matches w ↦
          rw w.if-not-summed.false (sym w.checksum_matches.ensures.value ∙ w.if-checksum_matches.true)
    ]) c.next_place.result c.if-e-q.true c.next_place.ensures.value

pub loop-p-preserved-then-e-q : goal.loop-p-preserved-then-e-q
loop-p-preserved-then-e-q c =
    let a = c.args in
    wrong a.guarded a.summed a.r.now a.align a.from c.loop-p.p c.loop-p.invariant c.loop-p-test.true c.in-Some.h
    (header (goal.at.loop-p-preserved-then-e-q c).In-Some) c.next_magic_if_guarded-q.result c.next_magic_if_guarded-q.ensures
    (rw c.if-not-summed.false (sym c.checksum_matches.ensures.value ∙ c.if-checksum_matches.false)) c.if-e-q.true c.next_after_wrong_sum-p.result
    c.next_after_wrong_sum-p.ensures

pub loop-p-preserved-else-e-q : goal.loop-p-preserved-else-e-q
loop-p-preserved-else-e-q c =
    let a = c.args in
    went a.guarded a.summed a.r.now a.align a.from c.loop-p.p c.loop-p.invariant c.loop-p-test.true c.in-Some.h
    (header (goal.at.loop-p-preserved-else-e-q c).In-Some) c.next_magic_if_guarded-q.result c.next_magic_if_guarded-q.ensures c.if-e-q.false

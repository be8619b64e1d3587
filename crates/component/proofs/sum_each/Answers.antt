use Rattle.std.proofs.Common.{ℕ, ◌+◌, ◌%◌, get_or, ap, ◌∙◌}
use Rattle.component.proofs.Summing.{sum_none, sum_on, sum_all}
use Rattle.component.proofs.sum_each.Goals as goal

pub loop-b-init : goal.loop-b-init
loop-b-init c = sum_none

pub loop-b-preserved : goal.loop-b-preserved
loop-b-preserved c =
    let s = c.args.s.now in
    let i = c.loop-b.b-index in
    ap (λ (x : ℕ). (c.loop-b.t + x) % 4294967296) c.from-t.ensures ∙ ap (λ (x : ℕ). (x + get_or s i 0) % 4294967296) c.loop-b.invariant
    ∙ sum_on s i c.loop-b-test.true

pub returns : goal.returns
returns c = c.loop-b.invariant ∙ sum_all c.args.s.now c.loop-b.b-index c.loop-b-test.false

use Rattle.std.proofs.Common.{◌+◌, ◌%◌, refl, ap, ◌∙◌, arith}
use Rattle.component.specs.Sums.{total}
use Rattle.component.proofs.Summing.{sum_front}
use Rattle.component.proofs.sum.Goals as goal

pub loop-block-preserved : goal.loop-block-preserved
loop-block-preserved c =
    let cut = c.in-Some.ensures.cases in
    let summed = c.sum_each-t.ensures ∙ ap (λ x. total x % 4294967296) cut.0 in
    ap (λ x. ((c.loop-block.t + c.sum_each-t.result) % 4294967296 + total x) % 4294967296) cut.1
    ∙ sum_front c.loop-block.rest.now 64 c.loop-block.t summed refl c.loop-block.invariant

pub returns-clause-value : goal.returns-clause-value
returns-clause-value c = omega (arith, c.sum_each.ensures, c.loop-block.invariant)

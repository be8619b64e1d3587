use Rattle.std.proofs.Common.{sym, ◌∙◌}
use Rattle.fmap.proofs.Counting.{two_here, two_not, two_end}
use Rattle.fmap.proofs.no_two.Goals as goal

pub returns-then-meets : goal.returns-then-meets
returns-then-meets g c = λ t k. sym (c.loop-a.invariant.2 t k ∙ two_here t c.in-Some.ensures.steps (k _ _ _ c.meets.ensures) c.if-meets.true)

pub loop-a-preserved : goal.loop-a-preserved
loop-a-preserved g c =
    (tt, tt, λ t k. c.loop-a.invariant.2 t k ∙ two_not t c.in-Some.ensures.steps (k _ _ _ c.meets.ensures) c.if-meets.false)

pub returns : goal.returns
returns g c = λ t k. sym (c.loop-a.invariant.2 t k ∙ two_end t c.in_default.ensures.steps.0)

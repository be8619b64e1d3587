use Rattle.std.proofs.Common.{sym, ◌∙◌}
use Rattle.std.proofs.lemmas.Result.{err_from_is_err_and}
use Rattle.fmap.proofs.Refusing.{each_refused, each_passed, each_end}
use Rattle.fmap.proofs.check_each_area.Goals as goal

pub loop-a-preserved : goal.loop-a-preserved
loop-a-preserved c =
    c.loop-a.invariant ∙ each_passed c.args.areas.s.now c.args.size c.in-Some.ensures.steps c.in_ok-check.ensures.value

pub returns-in_err-check : goal.returns-in_err-check
returns-in_err-check c =
    let p = err_from_is_err_and c.from_residual.result c.from_residual.ensures.1 in
    rw (p.1, p.2) (each_refused c.args.areas.s.now c.args.size c.in-Some.ensures.steps c.in_err-check.ensures.value ∙ sym c.loop-a.invariant)

pub returns : goal.returns
returns c = each_end c.args.areas.s.now c.args.size c.in-None.ensures.steps.0 ∙ sym c.loop-a.invariant

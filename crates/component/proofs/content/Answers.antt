use mathlib.Core.Path.{sym, ap, ◌∙◌}
use Rattle.component.specs.Component.{judge, content_of}
use Rattle.component.proofs.Judging.{judged_none, part_content}
use Rattle.component.proofs.content.Goals as goal

pub returns-in-Some-clause-result_value : goal.returns-in-Some-clause-result_value
returns-in-Some-clause-result_value c =
    c.part.ensures.result_value ∙ part_content c.args.s.now c.in-Some.h (sym c.judge.ensures.value ∙ c.in-Some.is)

pub returns-in-None-clause-result_value : goal.returns-in-None-clause-result_value
returns-in-None-clause-result_value c =
    sym (ap content_of (judged_none (judge c.args.s.now) (sym c.judge.ensures.value ∙ c.in-None.is)))

use mathlib.Core.Path.{sym, ap, ◌∙◌}
use Rattle.component.specs.Component.{judged}
use Rattle.component.proofs.Judging.{judge_fields, judge_no_magic}
use Rattle.component.proofs.judge.Goals as goal

pub returns-then-not-starts_with_magic-clause-value : goal.returns-then-not-starts_with_magic-clause-value
returns-then-not-starts_with_magic-clause-value c =
    sym (ap judged (judge_no_magic c.args.s.now (sym c.starts_with_magic.ensures.value ∙ c.if-not-starts_with_magic.true)))

pub returns-clause-value : goal.returns-clause-value
returns-clause-value c =
    c.judge_after_magic.ensures.value ∙ sym (ap judged
    (judge_fields c.args.s.now (sym c.starts_with_magic.ensures.value ∙ c.if-not-starts_with_magic.false)))

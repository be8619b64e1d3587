use Rattle.std.proofs.Common.{sym, ◌∙◌}
use Rattle.component.proofs.Judging.{part_unsummed}
use Rattle.component.proofs.name_by_numbers.Goals as goal

pub returns-clause-result_value : goal.returns-clause-result_value
returns-clause-result_value c =
    c.part.ensures.result_value ∙ part_unsummed c.args.s.now c.in-Some.h (sym c.judge_numbers.ensures.value ∙ c.in-Some.is)

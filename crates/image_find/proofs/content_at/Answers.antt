use mathlib.Core.Path.{sym, ◌∙◌}
use Rattle.image_find.proofs.content_at.Goals as goal

pub returns-in-Ok-clause-result_value : goal.returns-in-Ok-clause-result_value
returns-in-Ok-clause-result_value c =
    let e = sym c.read.ensures.value ∙ c.in-Ok.is in
    c.content_at_in.ensures.result_value ∙ rw e

pub returns-in-Err-clause-result_value : goal.returns-in-Err-clause-result_value
returns-in-Err-clause-result_value c =
    let e = sym c.read.ensures.value ∙ c.in-Err.is in
    rw e

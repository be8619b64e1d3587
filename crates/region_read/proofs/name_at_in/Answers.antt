use mathlib.Core.Path.{◌∙◌}
use Rattle.region_read.proofs.name_at_in.Goals as goal

pub returns-clause-result_value : goal.returns-clause-result_value
returns-clause-result_value c = c.name.ensures.result_value ∙ rw c.from_place.ensures

use mathlib.Core.Path.{◌∙◌}
use Rattle.region_read.proofs.content_of.Goals as goal

pub returns : goal.returns
returns c = c.part.ensures.result_value ∙ rw c.rest.ensures.result_value

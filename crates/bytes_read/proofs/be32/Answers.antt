use mathlib.Core.Path.{◌∙◌}
use Rattle.bytes_read.proofs.Numbers.{read_be}
use Rattle.bytes_read.proofs.be32.Goals as goal

pub returns-clause-value : goal.returns-clause-value
returns-clause-value c = c.from_be_bytes.ensures ∙ read_be 3 _ _ _ c.bytes.ensures

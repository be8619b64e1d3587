use mathlib.Core.Path.{◌∙◌}
use Rattle.bytes_read.proofs.Numbers.{read_le}
use Rattle.bytes_read.proofs.le32.Goals as goal

pub returns-clause-value : goal.returns-clause-value
returns-clause-value c = c.from_le_bytes.ensures ∙ read_le 3 _ _ _ c.bytes.ensures

use mathlib.Core.Path.{refl}
use Rattle.edit_rules.specs.Edit.{field_length}
use Rattle.edit_slots.proofs.offset_for.Goals as goal

pub returns-clause-value : goal.returns-clause-value
unfolding field_length
returns-clause-value c = refl

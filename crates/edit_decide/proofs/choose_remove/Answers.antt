use Rattle.std.proofs.Common.{◌∙◌}
use Rattle.edit_decide.proofs.choose_remove.Goals as goal

pub returns : goal.returns
returns c = c.ok_or.ensures.value ∙ rw (c.slot_among.ensures.value, c.refusal_by.ensures)

use mathlib.Core.Path.{refl, ap, ◌∙◌}
use Rattle.edit_decide.specs.Choices.{remove_choice_among}
use Rattle.edit_decide.proofs.Choices.{slot_by, removed}
use Rattle.edit_decide.proofs.choose.Goals as goal

pub returns-in-Add : goal.returns-in-Add
returns-in-Add c = λ s. rw c.in-Add.is (c.choose_add.ensures s)

pub returns-in-Replace : goal.returns-in-Replace
returns-in-Replace c =
    let a = c.args in
    λ s. rw c.in-Replace.is (c.choose_replace.ensures s a.kind)

pub returns-in-Remove : goal.returns-in-Remove
returns-in-Remove c =
    let a = c.args in
    let found = slot_by a.r.now a.align a.ps.now c.requires a.name.now refl in
    λ s. rw c.in-Remove.is (c.choose_remove.ensures ∙ ap remove_choice_among found ∙ removed s _)

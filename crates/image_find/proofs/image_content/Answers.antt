use mathlib.Core.Path.{sym, ◌∙◌}
use Rattle.bytes_read.proofs.Splice.{rest}
use Rattle.image_find.proofs.image_content.Goals as goal

pub returns-in-Ok : goal.returns-in-Ok
returns-in-Ok c =
    let e = sym (rw rest at c.read.ensures.value) ∙ c.in-Ok.is in
    (c.content_found_in.ensures.result_value ∙ rw e)

pub returns-in-Err : goal.returns-in-Err
returns-in-Err c =
    let e = sym (rw rest at c.read.ensures.value) ∙ c.in-Err.is in
    (rw e)

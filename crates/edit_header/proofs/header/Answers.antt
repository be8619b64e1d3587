use mathlib.Core.Path.{ap, ◌∙◌}
use Rattle.bytes_read.specs.Number.{be_bytes}
use Rattle.edit_header.proofs.Headers.{header_whole}
use Rattle.edit_header.proofs.header.Goals as goal

pub returns-clause-value : goal.returns-clause-value
returns-clause-value c =
    let a = c.args in c.put_header.ensures ∙ header_whole a.name.now a.kind a.content.now _ _ _ c.field32-len.ensures c.sum_for-sum.ensures
    (c.field32-offset.ensures ∙ ap (be_bytes 4) c.offset_for.ensures.value)

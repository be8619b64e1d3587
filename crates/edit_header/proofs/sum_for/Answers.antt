use native.Mathlib.Omega.{arith}
use mathlib.Core.Path.{ap, ◌∙◌}
use Rattle.bytes_read.specs.Number.{be_bytes}
use Rattle.component.specs.Sums.{total}
use Rattle.edit_header.proofs.Headers.{sum_by}
use Rattle.edit_header.proofs.sum_for.Goals as goal

pub overflow_add-head : goal.overflow_add-head
overflow_add-head c = omega (arith, c.byte_sum.ensures.1)

pub overflow_add-head-2 : goal.overflow_add-head-2
overflow_add-head-2 c = omega (arith, c.byte_sum.ensures.1, c.byte_sum-2.ensures.1)

pub overflow_add-head-3 : goal.overflow_add-head-3
overflow_add-head-3 c = omega (arith, c.byte_sum.ensures.1, c.byte_sum-2.ensures.1, c.byte_sum-3.ensures.1)

pub returns : goal.returns
returns c =
    let a = c.args in
    sum_by a.name.now a.kind a.content.now _ _ _ _ _
    (c.byte_sum.ensures.0 ∙ ap total c.field32.ensures)
    c.byte_sum-2.ensures.0
    (c.byte_sum-3.ensures.0 ∙ ap total (c.field32-2.ensures ∙ ap (be_bytes 4) c.offset_for.ensures.value))
    c.sum.ensures.value
    c.sum-2.ensures.value

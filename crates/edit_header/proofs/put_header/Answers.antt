use mathlib.Core.Path.{refl, ◌∙◌, ap}
use native.Mathlib.Omega.{arith}
use Rattle.bytes_read.specs.Bytes.{splice}
use Rattle.bytes_read.specs.Number.{be_bytes}
use Rattle.bytes_read.proofs.Numbers.{length-be_bytes}
use Rattle.component.specs.Component.{magic}
use Rattle.edit_header.proofs.Headers.{begun, more, header_parts}
use Rattle.edit_header.proofs.put_header.Goals as goal

pub returns : goal.returns
unfolding magic
returns c =
    let a = c.args in
    let pre = c.requires in
    let w0 = begun a.slot.now magic 8 c.copy.ensures.bytes refl (omega arith) in
    let w1 = more 8 (be_bytes 4 a.len) 12 w0 c.put_be32.ensures.bytes refl (omega (arith, length-be_bytes 4 a.len)) (omega arith) in
    let w2 = more 12 (be_bytes 4 a.kind) 16 w1 c.put_be32-2.ensures.bytes refl (omega (arith, length-be_bytes 4 a.kind)) (omega arith) in
    let w3 = more 16 (be_bytes 4 a.sum) 20 w2 c.put_be32-3.ensures.bytes refl (omega (arith, length-be_bytes 4 a.sum)) (omega arith) in
    let w4 = more 20 (be_bytes 4 a.offset) 24 w3 c.put_be32-4.ensures.bytes refl (omega (arith, length-be_bytes 4 a.offset)) (omega arith) in
    w4.bytes ∙ ap (splice a.slot.now 0) (header_parts a.len a.kind a.sum a.offset)

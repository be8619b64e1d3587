use Prim.Native.Nat.{ℕ, ◌+◌, ◌-◌, ◌<◌}
use mathlib.Core.Path.{◌≡◌, refl, ◌∙◌}
use native.Mathlib.Omega.{arith}
use lib.ListN.{length, replicate, length-replicate}
use Rattle.bytes_read.proofs.Splice.{whole}
use Rattle.edit_rules.specs.Edit.{field_length, offset_for, header_bytes, sum_for}
use Rattle.edit_rules.proofs.Written.{field_fits_lem, length_header, length_span}
use Rattle.edit_header.proofs.Headers.{begun, more}
use Rattle.edit_write.proofs.Writing.{span_parts}
use Rattle.edit_write.proofs.write_component.Goals as goal
use Rattle.edit_write.proofs.write_component.Goals.{After-offset_for-offset}

name-before-content : (c : After-offset_for-offset) → 24 + length c.args.name.now < c.offset_for-offset.result
name-before-content c = omega (arith, c.offset_for-offset.ensures.value, field_fits_lem (length c.args.name.now))

pub overflow_sub-offset : goal.overflow_sub-offset
overflow_sub-offset c = omega (arith, name-before-content (goal.at.overflow_sub-offset c).After-offset_for-offset)

pub returns : goal.returns
returns c =
    let s = c.args in
    let pre = c.requires in
    let q = c.offset_for-offset.ensures.value in
    let n = length s.name.now in
    let k = length s.content.now in
    let d = length s.slot.now in
    let o = offset_for s.name.now in
    let z = field_length n - n in
    let u = sum_for s.name.now s.kind s.content.now in
    let lh = length_header k s.kind u o in
    let lz = length-replicate {A = ℕ} z 0 in
    let lf = length-replicate {A = ℕ} (d - (o + k)) 255 in
    let fr = field_fits_lem n in
    let w0 = begun s.slot.now (header_bytes k s.kind u o) 24 (rw c.header-header.ensures.value at c.copy.ensures.bytes) lh (omega arith) in
    let w1 = more 24 s.name.now (24 + n) w0 c.copy-2.ensures.bytes refl refl (omega arith) in
    let zq : o - (24 + n) ≡ z = omega (arith, fr) in
    let w2 = more (24 + n) (replicate z 0) o w1 (rw (q, zq) at c.fill.ensures.bytes) refl (omega arith) (omega arith) in
    let w3 = more _ s.content.now (o + k) w2 c.copy-3.ensures.bytes (omega (arith, q)) (omega (arith, q)) (omega arith) in
    let w4 = more (o + k) (replicate (d - (o + k)) 255) d w3 (rw q at c.fill-2.ensures.bytes) refl (omega arith) (omega arith) in
    let l = length_span s.name.now s.kind s.content.now in
    whole w4 refl ∙ span_parts s.name.now s.kind s.content.now (replicate (d - (o + k)) 255) ∙ rw l refl

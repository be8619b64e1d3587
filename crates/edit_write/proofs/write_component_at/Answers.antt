use Prim.Native.Nat.{ℕ, ◌+◌, ◌-◌}
use mathlib.Core.Path.{◌≡◌, ap, ◌∙◌}
use mathlib.Core.List.{◌++◌}
use native.Mathlib.Omega.{arith}
use lib.ListN.{length, replicate}
use Rattle.bytes_read.proofs.Splice.{splice_part, part_length}
use Rattle.edit_rules.specs.Edit.{span_bytes}
use Rattle.edit_write.proofs.write_component_at.Goals as goal

pub returns : goal.returns
returns c =
    let s = c.args in
    let pre = c.requires in
    let a = s.start + s.z.start in
    let e = s.start + s.z.end in
    let b = span_bytes s.name.now s.z.kind s.content.now in
    let l : e - a ≡ s.z.end - s.z.start = omega arith in
    splice_part s.image.now a e
    (c.write_component.ensures ∙ ap (λ (n : ℕ). b ++ replicate (n - length b) 255) (part_length s.image.now a e (omega arith) ∙ l))
    c.write_component.auto.slot (omega arith) (omega arith)

use Prim.Native.Nat.{ℕ, ◌+◌, ◌-◌}
use mathlib.Core.Path.{◌≡◌, ap, ◌∙◌}
use native.Mathlib.Omega.{arith}
use lib.ListN.{replicate}
use Rattle.bytes_read.proofs.Splice.{splice_part, part_length}
use Rattle.edit_write.proofs.erase_at.Goals as goal

pub returns : goal.returns
returns c =
    let s = c.args in
    let pre = c.requires in
    let a = s.start + s.z.start in
    let e = s.start + s.z.end in
    let l : e - a ≡ s.z.end - s.z.start = omega arith in
    splice_part s.image.now a e
    (c.erase.ensures ∙ ap (λ (n : ℕ). replicate n 255) (part_length s.image.now a e (omega arith) ∙ l))
    c.erase.auto.slot (omega arith) (omega arith)

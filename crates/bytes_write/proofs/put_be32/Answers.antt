use mathlib.Core.Path.{◌∙◌}
use native.Mathlib.Nat.{div-div-eq-div-mul}
use Rattle.bytes_read.specs.Number.{be_bytes}
use Rattle.bytes_write.proofs.put_be32.Goals as goal

pub returns-clause-bytes : goal.returns-clause-bytes
unfolding be_bytes
returns-clause-bytes c = c.copy.ensures.bytes ∙ rw c.to_be_bytes.ensures (simp div-div-eq-div-mul)

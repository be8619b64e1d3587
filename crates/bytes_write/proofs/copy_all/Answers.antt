use mathlib.Core.Path.{sym, refl}
use native.Mathlib.Omega.{arith}
use Rattle.bytes_read.proofs.Overwrite.{over_start, over_next, over_all}
use Rattle.bytes_write.proofs.copy_all.Goals as goal

pub loop-i-init : goal.loop-i-init
loop-i-init c = over_start _ _ (sym c.requires)

pub loop-i-preserved : goal.loop-i-preserved
loop-i-preserved c = over_next _ c.loop-i.invariant (omega arith) refl

pub returns : goal.returns
returns c = over_all c.loop-i.invariant (omega arith)

use mathlib.Core.Path.{sym, ◌∙◌}
use native.Mathlib.Omega.{arith}
use Rattle.bytes_read.proofs.Overwrite.{over_start}
use Rattle.program_text.proofs.Laws.{length_pairs, pairs_next}
use Rattle.program_text.proofs.fill_hex_pairs.Goals as goal

pub loop-i-init : goal.loop-i-init
loop-i-init c = over_start _ _ (length_pairs _ ∙ sym c.requires)

pub loop-i-preserved : goal.loop-i-preserved
loop-i-preserved c = pairs_next c.args.s.now c.loop-i.invariant (omega arith) c.from-b.ensures c.digit.ensures c.digit-in-loop-i.ensures

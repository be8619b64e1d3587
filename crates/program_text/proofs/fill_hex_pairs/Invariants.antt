use Prim.Native.Nat.{◌*◌}
use Rattle.bytes_read.proofs.Overwrite.{Over}
use Rattle.program_text.specs.Digits.{hex_pairs}
use Rattle.program_text.proofs.fill_hex_pairs.Given as goal

abbrev pub invariant-loop-i : goal.invariant-loop-i
invariant-loop-i l = Over (hex_pairs l.s) l.initial.dst l.dst (2 * l.i)

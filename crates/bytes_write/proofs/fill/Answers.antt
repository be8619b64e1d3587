use mathlib.Core.Path.{sym, ◌∙◌}
use Rattle.std.proofs.Common.{rules}
use lib.ListN.{replicate, length-replicate}
use Rattle.bytes_read.proofs.Splice.{unwritten, part_written}
use Rattle.bytes_write.proofs.fill.Goals as goal

pub returns-then-not-has_room-clause-bytes : goal.returns-then-not-has_room-clause-bytes
returns-then-not-has_room-clause-bytes c =
    let a = c.args in
    unwritten a.dst.now a.at (replicate a.n a.v) (length-replicate a.n a.v) (sym c.has_room.ensures.value ∙ c.if-not-has_room.true)

pub returns-clause-bytes : goal.returns-clause-bytes
returns-clause-bytes c =
    let a = c.args in
    part_written a.dst.now a.at (length-replicate a.n a.v) (sym c.has_room.ensures.value ∙ c.if-not-has_room.false) (search rules)

use mathlib.Core.Path.{refl, sym, ◌∙◌}
use Rattle.bytes_read.proofs.Splice.{unwritten, part_written}
use Rattle.bytes_write.proofs.copy.Goals as goal

pub returns-then-not-has_room-clause-bytes : goal.returns-then-not-has_room-clause-bytes
returns-then-not-has_room-clause-bytes c = unwritten c.args.dst.now c.args.at c.args.src.now refl (sym c.has_room.ensures.value ∙ c.if-not-has_room.true)

pub returns-clause-bytes : goal.returns-clause-bytes
returns-clause-bytes c = part_written c.args.dst.now c.args.at refl (sym c.has_room.ensures.value ∙ c.if-not-has_room.false) c.copy_all.ensures

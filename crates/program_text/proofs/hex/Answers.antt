use mathlib.Core.Path.{sym, ◌∙◌}
use Rattle.bytes_read.proofs.Splice.{unwritten, part_written}
use Rattle.program_text.specs.Digits.{hex_pairs}
use Rattle.program_text.proofs.Laws.{hex_some, length_pairs}
use Rattle.program_text.proofs.hex.Goals as goal

pub returns-then-not-has_room-clause-bytes : goal.returns-then-not-has_room-clause-bytes
returns-then-not-has_room-clause-bytes c =
    let a = c.args in
    rw (hex_some a.s.now (sym c.is_empty.ensures ∙ c.if-is_empty.false))
    (unwritten a.page.now a.used (hex_pairs a.s.now) (length_pairs a.s.now) (sym c.has_room.ensures.value ∙ c.if-not-has_room.true))

pub returns-clause-bytes : goal.returns-clause-bytes
returns-clause-bytes c =
    let a = c.args in
    rw (hex_some a.s.now (sym c.is_empty.ensures ∙ c.if-is_empty.false))
    (part_written a.page.now a.used (length_pairs a.s.now) (sym c.has_room.ensures.value ∙ c.if-not-has_room.false) c.fill_hex_pairs.ensures)

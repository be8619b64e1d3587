use Rattle.edit_write.proofs.Writing.{filled_whole}
use Rattle.edit_write.proofs.erase.Goals as goal

pub returns : goal.returns
returns c =
    let s = c.args.slot.now in
    filled_whole s 255 c.fill.ensures.bytes

use Rattle.strict_check.proofs.Marks.{marked_same, marked_first, marked_several}
use Rattle.strict_check.proofs.mark_digest.Goals as goal

pub returns-then-was-mark : goal.returns-then-was-mark
returns-then-was-mark c = marked_same c.args.marks.now c.args.d c.if-was-mark.true

pub returns-then-was-eq0 : goal.returns-then-was-eq0
returns-then-was-eq0 c = marked_first c.args.marks.now c.args.d c.requires c.if-was-eq0.true

pub returns : goal.returns
returns c = marked_several c.args.marks.now c.args.d c.requires c.if-was-mark.false

use mathlib.Core.Path.{sym}
use lib.Seq.{set_out}
use Rattle.strict_check.proofs.store_at.Goals as goal

pub returns-else-n-d : goal.returns-else-n-d
returns-else-n-d c = sym (set_out c.args.d.now c.args.n c.args.v c.if-n-d.false)

use mathlib.Core.Path.{sym, ap}
use lib.ListN.{set}
use lib.Seq.{set_out}
use Rattle.strict_check.specs.StrictCheck.{digest_of}
use Rattle.strict_check.proofs.store_digest.Goals as goal

pub returns-then-n-d : goal.returns-then-n-d
returns-then-n-d c = let a = c.args in ap (set a.d.now a.n) c.digest.ensures

pub returns-else-n-d : goal.returns-else-n-d
returns-else-n-d c =
    let a = c.args in
    sym (set_out a.d.now a.n (digest_of a.name.now) c.if-n-d.false)

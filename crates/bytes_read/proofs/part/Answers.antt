use mathlib.Core.Path.{refl}
use Rattle.bytes_read.proofs.Splice.{part_got}
use Rattle.bytes_read.proofs.part.Goals as goal

pub returns-clause-result_value : goal.returns-clause-result_value
returns-clause-result_value c =
    let a = c.args in
    rw c.unwrap_or.ensures (part_got a.s.now a.at a.n _ _ (rw c.rest.ensures.result_value at c.get.ensures.lookup) refl)

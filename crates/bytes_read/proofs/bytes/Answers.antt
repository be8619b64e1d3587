use mathlib.Core.Path.{◌∙◌}
use Rattle.std.proofs.Common.{rules, zero-add, get_or}
use lib.Seq.{get_or-drop}
use Rattle.bytes_read.proofs.Made.{made}
use Rattle.bytes_read.proofs.bytes.Goals as goal

pub returns : goal.returns
returns g c k l =
    let from = c.rest-from.result.now in
    let each = rw zero-add at (made _ (λ j. get_or from j 0) _ (λ j y q e. search rules) c.from_fn.result 0 g.row.N c.from_fn.ensures.items.each k l) in
    each ∙ rw c.rest-from.ensures.result_value (get_or-drop c.args.at c.args.s.now k 0)

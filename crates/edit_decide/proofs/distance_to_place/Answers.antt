use native.Mathlib.Nat.{mod-lt}
use native.Mathlib.Omega.{arith}
use Rattle.edit_decide.proofs.ContainsMagic.{distance_none, distance_at_place, distance_between}
use Rattle.edit_decide.proofs.distance_to_place.Goals as goal

pub returns-then-align-eq0 : goal.returns-then-align-eq0
returns-then-align-eq0 c = distance_none c.args.align c.args.n c.if-align-eq0.true

pub returns-then-over-eq0 : goal.returns-then-over-eq0
returns-then-over-eq0 c = distance_at_place c.args.align c.args.n (omega (arith, c.if-align-eq0.false)) c.if-over-eq0.true

pub overflow_sub-result : goal.overflow_sub-result
overflow_sub-result c = omega (arith, mod-lt c.args.n {m = c.args.align} (omega (arith, c.if-align-eq0.false)))

pub returns-else-over-eq0 : goal.returns-else-over-eq0
returns-else-over-eq0 c = distance_between c.args.align c.args.n (omega (arith, c.if-align-eq0.false)) c.if-over-eq0.false

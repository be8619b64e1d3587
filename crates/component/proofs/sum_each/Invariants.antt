use Rattle.std.specs.Prelude.{◌≡◌, ◌%◌, take}
use Rattle.component.specs.Sums.{total}
use Rattle.component.proofs.sum_each.Given as goal

abbrev pub invariant-loop-b : goal.invariant-loop-b
invariant-loop-b l = l.t ≡ total (take l.b-index l.s) % 4294967296

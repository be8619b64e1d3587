use Rattle.std.specs.Prelude.{◌≡◌, ◌+◌, ◌++◌, map, take, drop}
use Rattle.strict_check.proofs.add_start.Given as goal

abbrev pub invariant-loop-p : goal.invariant-loop-p
invariant-loop-p l = l.p-items ≡ map (λ p. l.start + p) (take l.p-index l.initial.p-items) ++ drop l.p-index l.initial.p-items

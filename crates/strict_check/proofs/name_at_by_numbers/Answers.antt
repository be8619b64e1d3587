use mathlib.Core.Path.{ap, ◌∙◌}
use mathlib.Core.List.{List}
use Prim.Native.Nat.{ℕ}
use Rattle.component.specs.Component.{judge_numbers, name_of}
use Rattle.strict_check.proofs.name_at_by_numbers.Goals as goal

pub returns : goal.returns
returns c = c.name_by_numbers.ensures.result_value ∙ ap (λ (x : List ℕ). name_of (judge_numbers x)) c.rest.ensures.result_value

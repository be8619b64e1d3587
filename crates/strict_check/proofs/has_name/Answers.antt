use Rattle.std.proofs.Common.{◌≡◌, List, ℕ, sym, ap, ◌∙◌}
use borrow.Author.Tests.{ne_eqb}
use Rattle.component.specs.Component.{judge_numbers, bears_name}
use Rattle.strict_check.specs.StrictCheck.{has_name}
use Rattle.strict_check.proofs.Names.{named_not}
use Rattle.strict_check.proofs.has_name.Goals as goal

pub returns-then-there-asked : goal.returns-then-there-asked
unfolding has_name
returns-then-there-asked c =
    c.is_named.ensures.value ∙ ap (λ (x : List ℕ). bears_name c.args.name.now (judge_numbers x)) c.rest.ensures.result_value

pub returns-else-there-asked : goal.returns-else-there-asked
returns-else-there-asked c =
    let differ : c.args.there ≡ c.args.asked → ⊥ = c.if-there-asked.false in
    ne_eqb _ _ differ ∙ sym (named_not c.args.r.now c.args.name.now c.args.p (λ e. differ (c.requires.0 ∙ e ∙ sym c.requires.1)))

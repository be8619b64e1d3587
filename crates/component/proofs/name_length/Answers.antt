use mathlib.Core.Path.{◌≡◌, sym, ◌∙◌}
use lib.ListN.{drop}
use Rattle.bytes_read.specs.Tests.{all}
use Rattle.bytes_read.proofs.Splice.{rest}
use Rattle.component.specs.Names.{is_zero}
use Rattle.component.proofs.Naming.{field_long, field_without_zero, field_padding_not_zero, field_fit}
use Rattle.component.proofs.name_length.Goals as goal
use Rattle.component.proofs.name_length.Goals.{After-all_zero}

-- what is left after the two tests on the count, and the bytes after it
zeros : (c : After-all_zero) →
    all is_zero (drop c.printable_prefix-n.result c.args.f.now) ≡ c.all_zero.result
zeros c = sym (rw rest at c.all_zero.ensures)

pub returns-then-n-gt-NAME_MAX-clause-value : goal.returns-then-n-gt-NAME_MAX-clause-value
returns-then-n-gt-NAME_MAX-clause-value c =
    field_long c.args.f.now _ c.printable_prefix-n.ensures.value c.if-n-gt-NAME_MAX.true

pub returns-then-f-n-clause-value : goal.returns-then-f-n-clause-value
returns-then-f-n-clause-value c =
    field_without_zero c.args.f.now _ c.printable_prefix-n.ensures.value c.if-f-n.true

pub returns-then-not-all_zero-clause-value : goal.returns-then-not-all_zero-clause-value
returns-then-not-all_zero-clause-value c =
    field_padding_not_zero c.args.f.now _ c.printable_prefix-n.ensures.value (zeros (goal.at.returns-then-not-all_zero-clause-value c).After-all_zero ∙ c.if-not-all_zero.true)

pub returns-clause-value : goal.returns-clause-value
returns-clause-value c =
    field_fit c.args.f.now _ c.printable_prefix-n.ensures.value c.if-n-gt-NAME_MAX.false c.if-f-n.false
    (zeros (goal.at.returns-clause-value c).After-all_zero ∙ c.if-not-all_zero.false)

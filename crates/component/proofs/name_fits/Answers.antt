use Rattle.component.proofs.Naming.{name_rest}
use Rattle.component.proofs.name_fits.Goals as goal

pub returns-then-name-le-NAME_MAX-clause-value : goal.returns-then-name-le-NAME_MAX-clause-value
returns-then-name-le-NAME_MAX-clause-value c =
    let t = c.if-name-le-NAME_MAX.true in rw c.printable_prefix.ensures.value (name_rest c.args.name.now t.0 t.1)

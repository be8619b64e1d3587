use native.Mathlib.Omega.{arith}
use mathlib.Core.Path.{sym}
use Rattle.component.specs.Component.{magic}
use Rattle.component.proofs.Judging.{short_no_magic, magic_number}
use Rattle.component.proofs.starts_with_magic.Goals as goal

pub returns-then-s-lt8-clause-value : goal.returns-then-s-lt8-clause-value
returns-then-s-lt8-clause-value c = sym (short_no_magic c.args.s.now c.if-s-lt8.true)

pub returns-clause-value : goal.returns-clause-value
unfolding magic
returns-clause-value c =
    let s = c.args.s.now in rw (c.le64.ensures.value, c.le64-2.ensures.value)
    (magic_number s c.if-s-lt8.false (λ j. omega (arith, c.type_inv.s j)))

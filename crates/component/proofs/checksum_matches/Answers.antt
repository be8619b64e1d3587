use Rattle.std.proofs.Common.{refl}
use native.Mathlib.Omega.{arith}
use borrow.Author.Tests.{eq-eqb}
use Rattle.component.specs.Sums.{checksum_matches}
use Rattle.component.proofs.Summing.{stated_fits}
use Rattle.component.proofs.checksum_matches.Goals as goal

pub returns-then-stated-eq0-clause-value : goal.returns-then-stated-eq0-clause-value
unfolding checksum_matches
returns-then-stated-eq0-clause-value c = rw (← c.be32-stated.ensures.value, eq-eqb _ _ c.if-stated-eq0.true)

pub returns-clause-value : goal.returns-clause-value
returns-clause-value c =
    stated_fits c.args.s.now _ c.be32-stated.ensures.value c.if-stated-eq0.false (omega arith) c.sum.ensures.value
    c.checksum_byte_sum.ensures refl

use mathlib.Core.Path.{sym, refl, ◌∙◌}
use borrow.Author.Tests.{le-leb, lt-leb, eq-eqb, ne_eqb}
use Rattle.component.specs.Component.{number_tests}
use Rattle.component.proofs.Naming.{length_zero, length_pos}
use Rattle.component.proofs.Judging.{unsummed_bad, unsummed_good}
use Rattle.component.proofs.judge_numbers.Goals as goal

pub returns-then-s-lt-HEADER_LEN-clause-value : goal.returns-then-s-lt-HEADER_LEN-clause-value
unfolding number_tests
returns-then-s-lt-HEADER_LEN-clause-value c = unsummed_bad c.args.s.now _ _ 0 refl refl (lt-leb _ _ c.if-s-lt-HEADER_LEN.true)

pub returns-then-offset-lt-OFFSET_MIN-clause-value : goal.returns-then-offset-lt-OFFSET_MIN-clause-value
unfolding number_tests
returns-then-offset-lt-OFFSET_MIN-clause-value c =
    unsummed_bad c.args.s.now _ _ 1 c.be32-offset.ensures.value c.be32-len.ensures.value (lt-leb _ _ c.if-offset-lt-OFFSET_MIN.true)

pub returns-then-offset-gt-OFFSET_MAX-clause-value : goal.returns-then-offset-gt-OFFSET_MAX-clause-value
unfolding number_tests
returns-then-offset-gt-OFFSET_MAX-clause-value c =
    unsummed_bad c.args.s.now _ _ 2 c.be32-offset.ensures.value c.be32-len.ensures.value (lt-leb _ _ c.if-offset-gt-OFFSET_MAX.true)

pub returns-then-offset-ne0-clause-value : goal.returns-then-offset-ne0-clause-value
unfolding number_tests
returns-then-offset-ne0-clause-value c =
    unsummed_bad c.args.s.now _ _ 3 c.be32-offset.ensures.value c.be32-len.ensures.value (ne_eqb _ _ c.if-offset-ne0.true)

pub returns-then-s-offset-clause-value : goal.returns-then-s-offset-clause-value
unfolding number_tests
returns-then-s-offset-clause-value c =
    unsummed_bad c.args.s.now _ _ 4 c.be32-offset.ensures.value c.be32-len.ensures.value (lt-leb _ _ c.if-s-offset.true)

pub returns-then-namelen-eq0-clause-value : goal.returns-then-namelen-eq0-clause-value
unfolding number_tests
returns-then-namelen-eq0-clause-value c =
    unsummed_bad c.args.s.now c.be32-offset.result c.be32-len.result 5 c.be32-offset.ensures.value c.be32-len.ensures.value
    (length_zero _ (sym c.name_length-namelen.ensures.value ∙ c.if-namelen-eq0.true))

pub returns-clause-value : goal.returns-clause-value
unfolding number_tests
returns-clause-value c =
    let s = c.args.s.now in unsummed_good s _ c.be32-offset.ensures.value c.be32-len.ensures.value c.be32-kind.ensures.value c.be32-checksum.ensures.value c.name_length-namelen.ensures.value
    (rw (
      le-leb _ _ c.if-s-lt-HEADER_LEN.false,
      le-leb _ _ c.if-offset-lt-OFFSET_MIN.false,
      le-leb _ _ c.if-offset-gt-OFFSET_MAX.false,
      eq-eqb _ _ c.if-offset-ne0.false,
      le-leb _ _ c.if-s-offset.false,
      length_pos _ _ c.name_length-namelen.ensures.value c.if-namelen-eq0.false,
    ))

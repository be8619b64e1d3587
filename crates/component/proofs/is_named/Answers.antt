use Prim.Native.Nat.{ℕ}
use mathlib.Core.Path.{◌≡◌, refl, sym, ap, ◌∙◌}
use mathlib.Core.List.{List}
use lib.ListN.{length}
use Rattle.bytes_read.specs.Bytes.{part_of, eq_bytes}
use Rattle.bytes_read.proofs.Splice.{part_ranged}
use Rattle.component.proofs.Bearing.{too_long, other_field, longer_name, ill_named, as_long}
use Rattle.component.proofs.is_named.Goals as goal
use Rattle.component.proofs.is_named.Goals.{After-equal_by_words}

pub returns-then-asked-gt-NAME_MAX-clause-value : goal.returns-then-asked-gt-NAME_MAX-clause-value
returns-then-asked-gt-NAME_MAX-clause-value c = let a = c.args in too_long a.s.now a.name.now c.if-asked-gt-NAME_MAX.true

pub returns-then-byte-ne0-clause-value : goal.returns-then-byte-ne0-clause-value
returns-then-byte-ne0-clause-value c =
    let a = c.args in
    longer_name a.s.now a.name.now (λ e. c.if-byte-ne0.true (c.byte.ensures.value ∙ e))

-- the comparison of the field with the name
compared : (c : After-equal_by_words) → let a = c.args in
    c.equal_by_words.result ≡ eq_bytes (part_of a.s.now 24 (length a.name.now)) a.name.now
compared c =
    let a = c.args in
    let got = part_ranged a.s.now 24 (length a.name.now) _ _ c.get.ensures.lookup refl in
    c.equal_by_words.ensures.value ∙ ap (λ (x : List ℕ). eq_bytes x a.name.now) (rw c.unwrap_or-field.ensures got)

pub returns-then-not-equal_by_words-clause-value : goal.returns-then-not-equal_by_words-clause-value
returns-then-not-equal_by_words-clause-value c =
    let a = c.args in
    other_field a.s.now a.name.now (sym (compared (goal.at.returns-then-not-equal_by_words-clause-value c).After-equal_by_words) ∙ c.if-not-equal_by_words.true)

pub returns-in-Some-clause-value : goal.returns-in-Some-clause-value
returns-in-Some-clause-value c =
    let a = c.args in
    let begins = sym (compared (goal.at.returns-in-Some-clause-value c).After-equal_by_words) ∙ c.if-not-equal_by_words.false in
    as_long a.s.now a.name.now begins _ (sym c.judge_numbers.ensures.value ∙ c.in-Some.is)

pub returns-in-None-clause-value : goal.returns-in-None-clause-value
returns-in-None-clause-value c =
    let a = c.args in
    ill_named a.s.now a.name.now (sym c.judge_numbers.ensures.value ∙ c.in-None.is)

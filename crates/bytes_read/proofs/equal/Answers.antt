use Rattle.std.proofs.Common.{◌≡◌, rules, tests, sym, ◌∙◌}
use Rattle.std.proofs.lemmas.List.{length-reverse}
use Rattle.std.proofs.lemmas.Iterator.{YieldsList-from_zip, same_from_all}
use Rattle.std.proofs.lemmas.Iterator.Adapters.{YieldsList-from_rev_slice}
use borrow.Author.Tests.{ne_eqb}
use Rattle.bytes_read.proofs.SameBytes.{eq_length, eq_reverse}
use Rattle.bytes_read.proofs.equal.Goals as goal

-- Both iterators go over all the bytes.
pub returns-then-a-b-clause-value : goal.returns-then-a-b-clause-value
returns-then-a-b-clause-value c =
    let a = c.args.a.now in
    let b = c.args.b.now in
    let of_a : c.iter.result.rest.now ≡ a = c.iter.ensures.rest in
    let of_b : c.iter-then-a-b.result.rest.now ≡ b = c.iter-then-a-b.ensures.rest in
    eq_reverse a b _ (same_from_all c.all.new.self _ _ _ _ c.all.ensures.ran
    (YieldsList-from_zip (YieldsList-from_rev_slice a cc) (YieldsList-from_rev_slice b cc))
    (simp length-reverse c.if-a-b.true) (λ x q k. search (rules, tests)) (λ x q k. search (rules, tests)))

pub returns-else-a-b-clause-value : goal.returns-else-a-b-clause-value
returns-else-a-b-clause-value c = ne_eqb _ _ c.if-a-b.false ∙ sym (eq_length _ _ c.if-a-b.false)

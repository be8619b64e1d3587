use Rattle.std.proofs.Common.{sym, ◌∙◌, arith}
use Rattle.std.proofs.lemmas.Bool.{not-true, not-false}
use Rattle.bytes_read.proofs.SameBytes.{eq_length, last_apart, front_apart, front_same}
use Rattle.bytes_read.proofs.equal_by_words.Goals.{then-a-b-via-then-a-b, then-a-b-via-else-a-b+then-ne}
use Rattle.bytes_read.proofs.equal_by_words.Goals as goal

pub returns-then-a-b-clause-value : goal.returns-then-a-b-clause-value
returns-then-a-b-clause-value c =
    let a = c.args.a.now in
    let b = c.args.b.now in
    elim c.then-a-b.branch [
      | then-a-b-via-then-a-b w ↦ sym (eq_length a b (λ e. omega (arith, w.if-a-b.true, e)))
      | then-a-b-via-else-a-b+then-ne w ↦ sym (last_apart a b _ _ w.last_chunk.ensures.cases w.last_chunk-else-a-b.ensures.cases (not-true _ (sym w.ne.ensures ∙ w.if-ne.true)))
    ]

pub returns-in_default-split_first_chunk-clause-value : goal.returns-in_default-split_first_chunk-clause-value
returns-in_default-split_first_chunk-clause-value c =
    let short = c.in_default-split_first_chunk.ensures.cases in
    sym (eq_length _ _ (λ e. omega (arith, c.in-Some.ensures.cases.2, short, e))) ∙ c.loop-x.invariant

pub returns-then-ne-2-clause-value : goal.returns-then-ne-2-clause-value
returns-then-ne-2-clause-value c =
    sym (front_apart 8 c.loop-x.left.now c.loop-x.right.now c.in-Some.ensures.cases.0 c.in-Some-split_first_chunk.ensures.cases.0 (not-true _ (sym c.ne-in-Some.ensures ∙ c.if-ne-2.true))) ∙ c.loop-x.invariant

pub loop-x-preserved : goal.loop-x-preserved
loop-x-preserved c =
    let x = c.in-Some.ensures.cases in
    let y = c.in-Some-split_first_chunk.ensures.cases in
    front_same 8 c.loop-x.left.now c.loop-x.right.now x.0 y.0 x.1 y.1 (not-false _ (sym c.ne-in-Some.ensures ∙ c.if-ne-2.false)) ∙ c.loop-x.invariant

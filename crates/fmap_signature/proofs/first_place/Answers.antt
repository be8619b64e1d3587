use Rattle.std.proofs.Common.{sym, ◌∙◌, arith}
use Rattle.fmap_signature.proofs.Searching.{signature_here, signature_not, signature_end}
use Rattle.fmap_signature.proofs.first_place.Goals as goal

pub returns-then-signature_at : goal.returns-then-signature_at
returns-then-signature_at c =
    let s = c.args.s.now in
    let y = sym c.signature_at.ensures ∙ c.if-signature_at.true in
    (omega arith, c.loop-p.invariant ∙ signature_here s c.loop-p.p (omega arith) y)

pub loop-p-preserved : goal.loop-p-preserved
loop-p-preserved c =
    let s = c.args.s.now in
    c.loop-p.invariant ∙ signature_not s c.loop-p.p (omega arith) (sym c.signature_at.ensures ∙ c.if-signature_at.false)

pub returns : goal.returns
returns c = c.loop-p.invariant ∙ signature_end c.args.s.now c.loop-p.p (omega arith)

use Rattle.std.proofs.Common.{ℕ, ◌+◌, List, get_or, set, take, ap, ◌∙◌, add_comm}
use Rattle.strict_check.proofs.Directories.{shifted_to, shifted_at, shifted_next}
use Rattle.strict_check.proofs.add_start.Goals as goal

pub loop-p-preserved : goal.loop-p-preserved
loop-p-preserved c =
    let d = take c.args.n c.args.d.now in
    let i = c.loop-p.p-index in
    let here = ap (λ (x : List ℕ). get_or x i 0) c.loop-p.invariant ∙ shifted_at c.args.start d i c.loop-p-test.true in
    ap (λ (x : List ℕ). set x i (get_or c.loop-p.p-items i 0 + c.args.start)) c.loop-p.invariant
    ∙ ap (λ (x : ℕ). set (shifted_to c.args.start d i) i x) (ap (λ (x : ℕ). x + c.args.start) here ∙ add_comm (get_or d i 0) c.args.start)
    ∙ shifted_next c.args.start d i c.loop-p-test.true

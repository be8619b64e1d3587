use Rattle.std.proofs.Common.{sym, ◌∙◌}
use Rattle.bench_calls.proofs.Refusing.{step_small}
use Rattle.bench_calls.proofs.taken.Goals as goal

pub encoded_refusal-requires : goal.encoded_refusal-requires
encoded_refusal-requires c =
    let a = c.args in
    step_small a.image.now a.guarded a.from _ (sym c.step.ensures ∙ c.in-Err.is)

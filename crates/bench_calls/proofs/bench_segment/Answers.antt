use Rattle.std.proofs.Common.{sym, ◌∙◌}
use Rattle.bench_calls.proofs.Refusing.{payload_small}
use Rattle.bench_calls.proofs.bench_segment.Goals as goal

pub encoded_refusal-requires : goal.encoded_refusal-requires
encoded_refusal-requires c =
    let a = c.args in
    payload_small a.image.now a.name.now _ (sym c.payload.ensures.value ∙ c.in-Err.is)

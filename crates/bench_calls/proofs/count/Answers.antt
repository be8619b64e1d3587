use Rattle.std.proofs.Common.{sym, ◌∙◌}
use Rattle.bench_calls.proofs.Refusing.{header_small}
use Rattle.bench_calls.proofs.count.Goals as goal

pub encoded_refusal-requires : goal.encoded_refusal-requires
encoded_refusal-requires c =
    let a = c.args in
    header_small a.image.now _ (sym c.region.ensures.value ∙ c.in-Err.is)

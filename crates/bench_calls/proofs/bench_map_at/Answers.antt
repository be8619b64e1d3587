use Rattle.std.proofs.Common.{sym, ◌∙◌}
use Rattle.bench_calls.proofs.Refusing.{map_at_small}
use Rattle.bench_calls.proofs.bench_map_at.Goals as goal

pub encoded_refusal-requires : goal.encoded_refusal-requires
encoded_refusal-requires c =
    let a = c.args in
    map_at_small a.image.now a.at a.size _ (sym c.map_at.ensures.value ∙ c.in-Err.is)

use Rattle.std.proofs.Common.{sym, ◌∙◌}
use Rattle.bench_calls.proofs.Refusing.{map_small}
use Rattle.bench_calls.proofs.bench_area.Goals as goal

pub encoded_refusal-requires : goal.encoded_refusal-requires
encoded_refusal-requires c =
    let a = c.args in
    map_small a.image.now _ (sym c.read.ensures.value ∙ c.in-Err.is)

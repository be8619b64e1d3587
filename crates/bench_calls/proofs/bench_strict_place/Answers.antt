use Rattle.std.proofs.Common.{sym, ◌∙◌}
use Rattle.bench_calls.proofs.Refusing.{check_small}
use Rattle.bench_calls.proofs.bench_strict_place.Goals as goal

pub encoded_refusal-requires : goal.encoded_refusal-requires
encoded_refusal-requires c =
    let a = c.args in
    check_small a.image.now _ (sym c.strict_check.ensures.value ∙ c.in-Err.is)

use Rattle.std.proofs.Common.{arith, sym}
use Rattle.std.proofs.lemmas.Grind.{common_steps}
use Rattle.bench_calls.proofs.Refusing.{signatures_small}
use Rattle.bench_calls.proofs.bench_signatures.Goals as goal

pub encoded-requires : goal.encoded-requires
encoded-requires c r e =
    let a = c.args in
    let small = signatures_small a.image.now in
    let said = sym c.signatures.ensures.value in
    grind (arith, common_steps, small, said)

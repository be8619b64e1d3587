use Rattle.std.proofs.Common.{arith, sym}
use Rattle.std.proofs.lemmas.Grind.{common_steps}
use Rattle.bench_calls.proofs.Refusing.{payload_small}
use Rattle.bench_calls.proofs.bench_payload.Goals as goal

pub encoded-requires : goal.encoded-requires
encoded-requires c r e =
    let a = c.args in
    let small = payload_small a.image.now a.name.now in
    let said = sym c.payload.ensures.value in
    grind (arith, common_steps, small, said)

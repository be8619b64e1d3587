use Rattle.std.proofs.Common.{arith, sym}
use Rattle.std.proofs.lemmas.Grind.{common_steps}
use Rattle.bench_calls.proofs.Refusing.{map_small}
use Rattle.bench_calls.proofs.bench_fmap.Goals as goal

pub encoded-requires : goal.encoded-requires
encoded-requires c r e =
    let a = c.args in
    let small = map_small a.image.now in
    let said = sym c.read.ensures.value in
    grind (arith, common_steps, small, said)

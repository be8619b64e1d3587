use Rattle.std.proofs.Common.{arith, sym}
use Rattle.std.proofs.lemmas.Grind.{common_steps}
use Rattle.bench_calls.proofs.Refusing.{lookup_small}
use Rattle.bench_calls.proofs.place.Goals as goal

pub encoded-requires : goal.encoded-requires
encoded-requires c r e =
    let a = c.args in
    let small = lookup_small a.image.now a.guarded a.name.now in
    let said = sym c.find.ensures in
    grind (arith, common_steps, small, said)

use Rattle.std.proofs.Common.{◌≡◌, arith, sym}
use Rattle.std.proofs.lemmas.Grind.{common_steps}
use Rattle.image_edit.specs.ImageEdit.{image_replace}
use Rattle.bench_calls.proofs.Refusing.{replace_small}
use Rattle.bench_calls.proofs.bench_replace.Goals as goal

pub encoded-requires : goal.encoded-requires
encoded-requires c r e =
    let a = c.args in
    let small = replace_small a.image.now a.name.now a.content.now in
    let said : (image_replace a.image.now a.name.now a.content.now).answer ≡ c.replace.result = sym c.replace.ensures.value in
    grind (arith, common_steps, small, said)

use Prim.Native.Nat.{ℕ, ◌+◌, ◌*◌, ◌%◌}
use native.Mathlib.Omega.{arith}
use mathlib.Core.Path.{sym, ap, ◌∙◌}
use Rattle.strict_check.specs.StrictCheck.{hash_step}
use Rattle.strict_check.proofs.Names.{hash_twice, hash_halves}
use Rattle.strict_check.proofs.hash_two_steps.Goals as goal

pub returns : goal.returns
returns c =
    let a = c.args in
    let e = hash_halves a.h a.a a.b (omega arith) in
    let f = hash_halves ((a.h * 961 + a.a * 31 + a.b) % 4294967296) a.c a.d (omega arith) in
    hash_twice a.h a.a a.b a.c a.d ∙ sym (ap (λ (x : ℕ). hash_step x (a.c + a.d * 4294967296)) e ∙ f)

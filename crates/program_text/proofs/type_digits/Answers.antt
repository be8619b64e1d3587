use Prim.Native.Nat.{◌*◌, ◌-◌, ◌/◌, ◌%◌, ◌^◌}
use Rattle.std.proofs.Common.{rules, zero-add}
use Rattle.bytes_read.proofs.Made.{made}
use Rattle.program_text.specs.Digits.{digit_of}
use Rattle.program_text.proofs.Laws.{eight}
use Rattle.program_text.proofs.type_digits.Goals as goal

pub returns : goal.returns
returns c =
    let n = c.args.kind in
    eight n c.from_fn.result c.from_fn.ensures.items.long (λ k l.
    rw zero-add at (made _ (λ j. digit_of 65 (n / 2 ^ (28 - 4 * j) % 16)) _ (λ j y q e. search rules) c.from_fn.result 0 8 c.from_fn.ensures.items.each k l))

use Prim.Native.Nat.{ℕ, ◌+◌}
use mathlib.Core.Path.{ap, ◌∙◌}
use mathlib.Core.List.{List}
use lib.Dec.{ltb}
use Rattle.walk.specs.Walk.{next_magic}
use Rattle.edit_decide.proofs.header_contains_magic.Goals as goal

pub returns : goal.returns
returns c =
    let a = c.args in
    ap (λ (x : ℕ). ltb x 24) (c.next_magic_after.ensures.value ∙ ap (λ (x : List ℕ). next_magic x a.align (0 + a.align) 24) c.header-h.ensures.value)

use Prim.Native.Nat.{ℕ}
use mathlib.Core.Path.{ap, ◌∙◌}
use mathlib.Core.List.{List}
use native.Mathlib.Omega.{arith}
use Rattle.bytes_read.specs.Number.{be}
use Rattle.edit_slots.proofs.SlotsByPlaces.{span_past}
use Rattle.edit_slots.proofs.span_end.Goals as goal

pub returns-then-r-p : goal.returns-then-r-p
returns-then-r-p c = let a = c.args in span_past a.r.now a.p c.if-r-p.true

pub returns : goal.returns
returns c =
    let a = c.args in
    let same = c.rest-s.ensures.result_value in
    let o = c.be32.ensures.value ∙ ap (λ (s : List ℕ). be 4 s 20) same in
    let l = c.be32-2.ensures.value ∙ ap (λ (s : List ℕ). be 4 s 8) same in
    omega (arith, o, l)

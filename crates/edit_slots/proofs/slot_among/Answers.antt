use Prim.Native.Nat.{ℕ, ◌<◌}
use mathlib.Core.Path.{◌≡◌, refl, sym, ap, ◌∙◌}
use mathlib.Core.List.{List}
use lib.ListN.{length, get_or}
use Rattle.bytes_read.specs.Number.{be}
use Rattle.component.specs.Component.{judge_numbers, bears_name}
use Rattle.strict_check.specs.StrictCheck.{has_name}
use Rattle.edit_slots.proofs.SlotsByPlaces.{slot_here, slot_on, slot_end}
use Rattle.edit_slots.proofs.slot_among.Goals as goal
use Rattle.edit_slots.proofs.slot_among.Goals.{After-is_named, After-rest-s}

pub loop-i-init : goal.loop-i-init
loop-i-init c = refl

inside : (c : After-rest-s) → c.loop-i.i < length c.args.ps.now
inside c = c.loop-i-test.true

-- what the comparison of the names says
borne : (c : After-is_named) → let a = c.args in
    c.is_named.result ≡ has_name a.r.now a.name.now (get_or a.ps.now c.loop-i.i 0)
unfolding has_name
borne c =
    let a = c.args in
    c.is_named.ensures.value ∙ ap (λ (s : List ℕ). bears_name a.name.now (judge_numbers s)) c.rest-s.ensures.result_value

pub returns-then-is_named-clause-value : goal.returns-then-is_named-clause-value
returns-then-is_named-clause-value c =
    let a = c.args in
    let here = slot_here a.r.now a.ps.now c.loop-i.i a.name.now (inside (goal.at.returns-then-is_named-clause-value c).After-rest-s)
    (sym (borne (goal.at.returns-then-is_named-clause-value c).After-is_named) ∙ c.if-is_named.true) in
    let kind = c.be32.ensures.value ∙ ap (λ (s : List ℕ). be 4 s 12) c.rest-s.ensures.result_value in
    rw (kind, c.next_start.ensures) (sym (c.loop-i.invariant ∙ here))

pub loop-i-preserved : goal.loop-i-preserved
loop-i-preserved c =
    let a = c.args in
    c.loop-i.invariant ∙ slot_on a.r.now a.ps.now c.loop-i.i a.name.now (inside (goal.at.loop-i-preserved c).After-rest-s)
    (sym (borne (goal.at.loop-i-preserved c).After-is_named) ∙ c.if-is_named.false)

pub returns-clause-value : goal.returns-clause-value
returns-clause-value c =
    let a = c.args in
    sym (c.loop-i.invariant ∙ slot_end a.r.now a.ps.now c.loop-i.i a.name.now c.loop-i-test.false)

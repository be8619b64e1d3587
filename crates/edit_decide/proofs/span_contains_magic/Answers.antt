use mathlib.Core.Bool.{Bool, true, false}
use lib.Dec.{ltb}
use Prim.Native.Nat.{ℕ, ◌+◌, ◌≤◌, ◌<◌}
use mathlib.Core.Path.{◌≡◌, sym, ◌∙◌}
use native.Mathlib.Omega.{arith}
use lib.ListN.{length}
use borrow.Author.Tests.{ltb-true, ltb-false}
use Rattle.walk.specs.Walk.{magic_at, next_magic, Place}
use Rattle.edit_decide.specs.Choices.{distance_to_place}
use Rattle.edit_rules.specs.Edit.{offset_for, contains_magic, header_for, span_bytes}
use Rattle.edit_decide.proofs.ContainsMagic.{contains_none, contains_in_name, contains_in_content, contains_in_header, header_without_magic, none_found}
use Rattle.edit_decide.proofs.ContainsMagic.{contains_not}
use Rattle.edit_decide.proofs.span_contains_magic.Goals as goal
use Rattle.edit_decide.proofs.span_contains_magic.Goals.{After-header_contains_magic, After-part_contains_magic, After-part_contains_magic-2}
use Rattle.edit_decide.proofs.span_contains_magic.Goals.{Else-part_contains_magic-2}

pos : (c : After-part_contains_magic) → 0 < c.args.align
pos c = omega (arith, c.if-align-eq0.false)

-- what the second search says: where the content begins
said : (c : After-part_contains_magic-2) → let a = c.args in
    c.part_contains_magic-2.result ≡ ltb (next_magic a.content.now a.align (distance_to_place a.align (offset_for a.name.now))
    (length a.content.now)) (length a.content.now)
said c = rw (← c.offset_for.ensures.value) c.part_contains_magic-2.ensures

no_magic : (c : Else-part_contains_magic-2) → let a = c.args in
    ((q : ℕ) → Place a.align q → 0 < q → q ≤ 12 → magic_at (span_bytes a.name.now a.kind a.content.now) q ≡ false)
    → contains_magic a.align (span_bytes a.name.now a.kind a.content.now) ≡ false
no_magic c h =
    let a = c.args in
    contains_not a.name.now a.kind a.content.now a.align (pos (goal.at.Else-part_contains_magic-2 c).After-part_contains_magic) c.requires
    (ltb-false _ _ (sym c.part_contains_magic.ensures ∙ c.if-part_contains_magic.false))
    (ltb-false _ _ (sym (said (goal.at.Else-part_contains_magic-2 c).After-part_contains_magic-2) ∙ c.if-part_contains_magic-2.false)) h

pub returns-then-align-eq0 : goal.returns-then-align-eq0
returns-then-align-eq0 c =
    let a = c.args in
    sym (contains_none a.name.now a.kind a.content.now a.align c.if-align-eq0.true)

pub returns-then-part_contains_magic : goal.returns-then-part_contains_magic
returns-then-part_contains_magic c =
    let a = c.args in
    sym (contains_in_name a.name.now a.kind a.content.now a.align (pos (goal.at.returns-then-part_contains_magic c).After-part_contains_magic)
    (ltb-true _ _ (sym c.part_contains_magic.ensures ∙ c.if-part_contains_magic.true)))

pub returns-then-part_contains_magic-2 : goal.returns-then-part_contains_magic-2
returns-then-part_contains_magic-2 c =
    let a = c.args in
    sym (contains_in_content a.name.now a.kind a.content.now a.align (pos (goal.at.returns-then-part_contains_magic-2 c).After-part_contains_magic)
    (ltb-true _ _ (sym (said (goal.at.returns-then-part_contains_magic-2 c).After-part_contains_magic-2) ∙ c.if-part_contains_magic-2.true)))

pub returns-then-align-ge16 : goal.returns-then-align-ge16
returns-then-align-ge16 c =
    let a = c.args in
    sym (no_magic (goal.at.returns-then-align-ge16 c).Else-part_contains_magic-2
    (λ q pl lo hi. header_without_magic a.name.now a.kind a.content.now a.align
    (pos (goal.at.returns-then-align-ge16 c).After-part_contains_magic) c.if-align-ge16.true c.requires q pl lo
    (omega arith)))

by : (c : After-header_contains_magic) → let a = c.args in (b : Bool)
    → ltb (next_magic (header_for a.name.now a.kind a.content.now) a.align (0 + a.align) 24) 24 ≡ b
    → b ≡ contains_magic a.align (span_bytes a.name.now a.kind a.content.now)
by c true e =
    let a = c.args in
    sym (contains_in_header a.name.now a.kind a.content.now a.align (pos (goal.at.After-header_contains_magic c).After-part_contains_magic) (ltb-true _ _ e))
by c false e =
    let a = c.args in
    sym (no_magic (goal.at.After-header_contains_magic c).Else-part_contains_magic-2
    (none_found a.name.now a.kind a.content.now a.align (pos (goal.at.After-header_contains_magic c).After-part_contains_magic) (ltb-false _ _ e)))

pub returns : goal.returns
returns c = by (goal.at.returns c).After-header_contains_magic _ (sym c.header_contains_magic.ensures)

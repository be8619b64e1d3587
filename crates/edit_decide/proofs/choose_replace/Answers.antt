use Rattle.std.specs.Prelude.{Err, Some}
use Prim.Native.Nat.{ℕ, ◌+◌, ◌≤◌}
use mathlib.Core.Path.{◌≡◌, sym, ap, ◌∙◌}
use mathlib.Core.Bool.{false}
use native.Mathlib.Omega.{arith}
use lib.ListN.{length}
use Rattle.walk.specs.Walk.{plain_listing}
use Rattle.edit_rules.specs.Edit.{span_bytes, contains_magic, run_fits, slot_of}
use Rattle.edit_slots.specs.SlotsByPlaces.{run, slot_answer}
use Rattle.edit_rules.proofs.Written.{field_most, length_span}
use Rattle.edit_decide.proofs.Choices.{slot_by, replace_10, replace_16, replace_17, replace_write, run_short, long_not_fits}
use Rattle.edit_decide.proofs.choose_replace.Goals as goal
use Rattle.edit_decide.proofs.choose_replace.Goals.{After-offset_for-offset, After-run_fits, After-slot_among, Else-span_contains_magic, In-Some}

-- the slot as the code has it
slot : (c : After-slot_among) → let a = c.args in
    c.slot_among.result ≡ slot_answer (slot_of (length a.r.now) a.name.now (plain_listing a.r.now a.align))
slot c = let a = c.args in slot_by a.r.now a.align a.ps.now c.requires a.name.now c.slot_among.ensures.value

-- the slot that was found
within : (c : In-Some) → let a = c.args in
    slot_answer (slot_of (length a.r.now) a.name.now (plain_listing a.r.now a.align)) ≡ Some c.in-Some.z
within c = sym (slot (goal.at.In-Some c).After-slot_among) ∙ c.in-Some.is

short : (c : In-Some) → length c.args.name.now ≤ 255
short c = let a = c.args in run_short a.r.now a.align a.name.now _ (within (goal.at.In-Some c).In-Some)

clean : (c : Else-span_contains_magic) → let a = c.args in
    contains_magic a.align (span_bytes a.name.now c.in-Some.z.kind a.content.now) ≡ false
clean c = sym c.span_contains_magic.ensures ∙ c.if-span_contains_magic.false

most : (c : After-offset_for-offset) → c.offset_for-offset.result ≤ 280
most c = omega (arith, c.offset_for-offset.ensures.value, field_most (length c.args.name.now) (short (goal.at.After-offset_for-offset c).In-Some))

-- the span's length
spans : (c : After-offset_for-offset) → let a = c.args in
    c.offset_for-offset.result + length a.content.now ≡ length (span_bytes a.name.now c.in-Some.z.kind a.content.now)
spans c = let a = c.args in
    omega (arith, c.offset_for-offset.ensures.value, length_span a.name.now c.in-Some.z.kind a.content.now)

held : (c : After-run_fits) → let a = c.args in
    let z = c.in-Some.z in
    c.run_fits.result ≡ run_fits (length (span_bytes a.name.now z.kind a.content.now)) (run z.start z.end)
held c = let z = c.in-Some.z in
    c.run_fits.ensures ∙ ap (λ (n : ℕ). run_fits n (run z.start z.end)) (spans (goal.at.After-run_fits c).After-offset_for-offset)

pub span_contains_magic-requires : goal.span_contains_magic-requires
span_contains_magic-requires c = short (goal.at.span_contains_magic-requires c).In-Some

pub returns-then-span_contains_magic : goal.returns-then-span_contains_magic
returns-then-span_contains_magic c =
    λ s k.
    let a = c.args in
    ap Err c.refusal_by-then-span_contains_magic.ensures ∙ replace_16 s _ a.align a.name.now a.content.now _
    (within (goal.at.returns-then-span_contains_magic c).In-Some)
    (sym c.span_contains_magic.ensures ∙ c.if-span_contains_magic.true)

pub overflow_sub-offset : goal.overflow_sub-offset
overflow_sub-offset c = omega (arith, most (goal.at.overflow_sub-offset c).After-offset_for-offset)

pub returns-then-offset-content : goal.returns-then-offset-content
returns-then-offset-content c =
    λ s k.
    let a = c.args in
    ap Err c.refusal_by-then-offset-content.ensures ∙ replace_17 s _ a.align a.name.now a.content.now _
    (within (goal.at.returns-then-offset-content c).In-Some) (clean (goal.at.returns-then-offset-content c).Else-span_contains_magic)
    (long_not_fits (length (span_bytes a.name.now c.in-Some.z.kind a.content.now)) _
    (omega (
      arith,
      spans (goal.at.returns-then-offset-content c).After-offset_for-offset,
      c.if-offset-content.true,
      most
          (goal.at.returns-then-offset-content c).After-offset_for-offset,
    )))

pub overflow_add-offset : goal.overflow_add-offset
overflow_add-offset c = omega (arith, most (goal.at.overflow_add-offset c).After-offset_for-offset, c.if-offset-content.false)

pub returns-then-not-run_fits : goal.returns-then-not-run_fits
returns-then-not-run_fits c =
    λ s k.
    let a = c.args in
    ap Err c.refusal_by-then-not-run_fits.ensures ∙ replace_17 s _ a.align a.name.now a.content.now _ (within (goal.at.returns-then-not-run_fits c).In-Some)
    (clean (goal.at.returns-then-not-run_fits c).Else-span_contains_magic)
    (sym (held (goal.at.returns-then-not-run_fits c).After-run_fits) ∙ c.if-not-run_fits.true)

pub returns-in_default : goal.returns-in_default
returns-in_default c =
    λ s k.
    let a = c.args in
    ap Err c.refusal_by.ensures ∙ replace_10 s _ a.align a.name.now a.content.now (sym (slot (goal.at.returns-in_default c).After-slot_among) ∙ c.in_default.is)

pub returns : goal.returns
returns c =
    λ s k.
    let a = c.args in
    replace_write s _ a.align a.name.now a.content.now _ (within (goal.at.returns c).In-Some) (clean (goal.at.returns c).Else-span_contains_magic)
    (sym (held (goal.at.returns c).After-run_fits) ∙ c.if-not-run_fits.false)

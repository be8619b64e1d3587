use Rattle.region.specs.Region.{refusal_by}
use Rattle.strict_rules.specs.Strict.{component_limit}
use Prim.Native.Nat.{ℕ, ◌+◌, ◌≤◌, ◌<◌}
use mathlib.Core.Path.{◌≡◌, sym, ap, ◌∙◌}
use mathlib.Core.Bool.{true, false}
use Rattle.std.specs.Prelude.{None, Ok, Err}
use native.Mathlib.Omega.{arith}
use lib.ListN.{length, length-map}
use Rattle.component.specs.Names.{name_fits}
use Rattle.bytes_read.specs.Lists.{any}
use Rattle.walk.specs.Walk.{plain_listing}
use Rattle.walk_lookup.specs.Lookup.{bears}
use Rattle.edit_rules.specs.Edit.{span_bytes, contains_magic, free_runs, lowest_fitting, add_after_check}
use Rattle.edit_slots.specs.SlotsByPlaces.{free_run_answer}
use Rattle.edit_decide.specs.Choices.{choice}
use Rattle.edit_rules.proofs.Written.{name_fit, field_most, length_span}
use Rattle.edit_decide.proofs.Choices.{used_by, run_by, long_not_found, run_some, run_none, add_14, add_15, add_13, add_16, add_17, add_write}
use Rattle.edit_decide.proofs.choose_add.Goals as goal
use Rattle.edit_decide.proofs.choose_add.Goals.{After-free_run, After-name_used, After-offset_for-offset, Else-name_used, Else-not-name_fits}
use Rattle.edit_decide.proofs.choose_add.Goals.{Else-ps-ge-COMPONENTS_MAX, Else-span_contains_magic, Start}

counted : (c : Start) → length c.args.ps.now ≡ length (plain_listing c.args.r.now c.args.align)
counted c = ap length c.requires ∙ length-map (plain_listing c.args.r.now c.args.align) (λ t. t.place)

named : (c : Else-not-name_fits) → name_fits c.args.name.now ≡ true
named c = sym c.name_fits.ensures.value ∙ c.if-not-name_fits.false

taken : (c : After-name_used) → let a = c.args in
    c.name_used.result ≡ any (bears a.name.now) (plain_listing a.r.now a.align)
taken c = let a = c.args in used_by a.r.now a.align a.ps.now c.requires a.name.now c.name_used.ensures.value

unused : (c : Else-name_used) → let a = c.args in any (bears a.name.now) (plain_listing a.r.now a.align) ≡ false
unused c = sym (taken (goal.at.Else-name_used c).After-name_used) ∙ c.if-name_used.false

few : (c : Else-ps-ge-COMPONENTS_MAX) → let a = c.args in length (plain_listing a.r.now a.align) < component_limit
few c = omega (arith, c.if-ps-ge-COMPONENTS_MAX.false, counted (goal.at.Else-ps-ge-COMPONENTS_MAX c).Start)

short : (c : Else-not-name_fits) → length c.args.name.now ≤ 255
short c = (name_fit _ (named (goal.at.Else-not-name_fits c).Else-not-name_fits)).short

clean : (c : Else-span_contains_magic) → let a = c.args in
    contains_magic a.align (span_bytes a.name.now a.kind a.content.now) ≡ false
clean c = sym c.span_contains_magic.ensures ∙ c.if-span_contains_magic.false

most : (c : After-offset_for-offset) → c.offset_for-offset.result ≤ 280
most c = omega (arith, c.offset_for-offset.ensures.value, field_most (length c.args.name.now) (short (goal.at.After-offset_for-offset c).Else-not-name_fits))

-- the span's length
spans : (c : After-offset_for-offset) → let a = c.args in
    c.offset_for-offset.result + length a.content.now ≡ length (span_bytes a.name.now a.kind a.content.now)
spans c = let a = c.args in omega (arith, c.offset_for-offset.ensures.value, length_span a.name.now a.kind a.content.now)

no_run_fits : (c : After-offset_for-offset) → let a = c.args in
    lowest_fitting (length (span_bytes a.name.now a.kind a.content.now)) (free_runs a.r.now a.align) ≡ None
    → (s : ℕ) → Err (refusal_by 17) ≡ choice s a.kind
    (add_after_check component_limit a.r.now a.align a.name.now (span_bytes a.name.now a.kind a.content.now)
    (plain_listing a.r.now a.align))
no_run_fits c e s =
    let a = c.args in
    add_17 a.r.now a.align a.name.now a.kind a.content.now s (named (goal.at.After-offset_for-offset c).Else-not-name_fits)
    (unused (goal.at.After-offset_for-offset c).Else-name_used)
    (few (goal.at.After-offset_for-offset c).Else-ps-ge-COMPONENTS_MAX) (clean (goal.at.After-offset_for-offset c).Else-span_contains_magic) e

found : (c : After-free_run) → let a = c.args in
    c.free_run.result ≡ free_run_answer a.kind
    (lowest_fitting (length (span_bytes a.name.now a.kind a.content.now)) (free_runs a.r.now a.align))
found c = let a = c.args in
    run_by a.r.now a.align a.ps.now c.requires a.kind _ c.free_run.ensures.value
    ∙ ap (λ (n : ℕ). free_run_answer a.kind (lowest_fitting n (free_runs a.r.now a.align))) (spans (goal.at.After-free_run c).After-offset_for-offset)

pub returns-then-not-name_fits : goal.returns-then-not-name_fits
returns-then-not-name_fits c =
    λ s.
    let a = c.args in
    ap Err c.refusal_by.ensures ∙ add_14 a.r.now a.align a.name.now a.kind a.content.now s
    (sym c.name_fits.ensures.value ∙ c.if-not-name_fits.true)

pub returns-then-name_used : goal.returns-then-name_used
returns-then-name_used c =
    λ s.
    let a = c.args in
    let borne = sym (taken (goal.at.returns-then-name_used c).After-name_used) ∙ c.if-name_used.true in
    ap Err c.refusal_by-then-name_used.ensures ∙ add_15 a.r.now a.align a.name.now a.kind a.content.now s
    (named (goal.at.returns-then-name_used c).Else-not-name_fits) borne

pub returns-then-ps-ge-COMPONENTS_MAX : goal.returns-then-ps-ge-COMPONENTS_MAX
returns-then-ps-ge-COMPONENTS_MAX c =
    λ s.
    let a = c.args in
    let many : component_limit ≤ length (plain_listing a.r.now a.align) = omega
    (arith, c.if-ps-ge-COMPONENTS_MAX.true, counted (goal.at.returns-then-ps-ge-COMPONENTS_MAX c).Start) in
    ap Err c.refusal_by-then-ps-ge-COMPONENTS_MAX.ensures ∙ add_13 a.r.now a.align a.name.now a.kind a.content.now s
    (named (goal.at.returns-then-ps-ge-COMPONENTS_MAX c).Else-not-name_fits) (unused (goal.at.returns-then-ps-ge-COMPONENTS_MAX c).Else-name_used) many

pub span_contains_magic-requires : goal.span_contains_magic-requires
span_contains_magic-requires c = short (goal.at.span_contains_magic-requires c).Else-not-name_fits

pub returns-then-span_contains_magic : goal.returns-then-span_contains_magic
returns-then-span_contains_magic c =
    λ s.
    let a = c.args in
    ap Err c.refusal_by-then-span_contains_magic.ensures ∙ add_16 a.r.now a.align a.name.now a.kind a.content.now s
    (named (goal.at.returns-then-span_contains_magic c).Else-not-name_fits)
    (unused (goal.at.returns-then-span_contains_magic c).Else-name_used) (few (goal.at.returns-then-span_contains_magic c).Else-ps-ge-COMPONENTS_MAX)
    (sym c.span_contains_magic.ensures ∙ c.if-span_contains_magic.true)

pub overflow_sub-offset : goal.overflow_sub-offset
overflow_sub-offset c = omega (arith, most (goal.at.overflow_sub-offset c).After-offset_for-offset)

pub returns-then-offset-content : goal.returns-then-offset-content
returns-then-offset-content c =
    λ s.
    let a = c.args in
    ap Err c.refusal_by-then-offset-content.ensures ∙ no_run_fits (goal.at.returns-then-offset-content c).After-offset_for-offset
    (long_not_found _ (free_runs a.r.now a.align)
    (omega (
      arith,
      spans (goal.at.returns-then-offset-content c).After-offset_for-offset,
      c.if-offset-content.true,
      most
          (goal.at.returns-then-offset-content c).After-offset_for-offset,
    ))) s

pub overflow_add-offset : goal.overflow_add-offset
overflow_add-offset c = omega (arith, most (goal.at.overflow_add-offset c).After-offset_for-offset, c.if-offset-content.false)

pub returns-in-Some : goal.returns-in-Some
returns-in-Some c =
    λ s.
    let a = c.args in
    let (x, e, z) = run_some a.kind _ _ (sym (found (goal.at.returns-in-Some c).After-free_run) ∙ c.in-Some.is) in
    sym (ap Ok z) ∙ add_write a.r.now a.align a.name.now a.kind a.content.now s (named (goal.at.returns-in-Some c).Else-not-name_fits)
    (unused (goal.at.returns-in-Some c).Else-name_used) (few (goal.at.returns-in-Some c).Else-ps-ge-COMPONENTS_MAX)
    (clean (goal.at.returns-in-Some c).Else-span_contains_magic) x e

pub returns-in-None : goal.returns-in-None
returns-in-None c =
    λ s.
    let a = c.args in
    ap Err c.refusal_by-in-None.ensures ∙ no_run_fits (goal.at.returns-in-None c).After-offset_for-offset
    (run_none a.kind _ (sym (found (goal.at.returns-in-None c).After-free_run) ∙ c.in-None.is)) s

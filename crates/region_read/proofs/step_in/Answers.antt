use Prim.Native.Nat.{ℕ, ◌-◌}
use mathlib.Core.Path.{◌≡◌, sym, ◌∙◌}
use mathlib.Core.List.{List}
use Rattle.std.specs.Prelude.{Option}
use native.Mathlib.Omega.{arith}
use Rattle.walk.specs.Walk.{Entry, pick_of, step, step_answer}
use Rattle.region.specs.Region.{region_bytes}
use Rattle.region_read.proofs.Numbers.{fit_from}
use Rattle.region_read.proofs.Answers.{step_sums, step_answer_took, step_answer_none, refused_nine, step_fit}
use Rattle.region_read.proofs.step_in.Goals as goal
use Rattle.region_read.proofs.step_in.Goals.{After-walk_step}

pub returns-then-not-is_step_start-clause-value : goal.returns-then-not-is_step_start-clause-value
returns-then-not-is_step_start-clause-value c =
    let a = c.args in
    (refused_nine a.image.now a.region _ a.from c.is_step_start.ensures c.if-not-is_step_start.true c.refusal_by.ensures)

pub overflow_sub-from : goal.overflow_sub-from
overflow_sub-from c =
    let a = c.args in
    omega (arith, fit_from a.region a.from (sym c.is_step_start.ensures ∙ c.if-not-is_step_start.false))

-- the region's bytes, and the step over them
abbrev region : After-walk_step → List ℕ
region c = region_bytes c.args.image.now c.args.region

abbrev stepping : After-walk_step → Option Entry
stepping c =
    step (pick_of c.args.guarded (region (goal.at.After-walk_step c).After-walk_step) c.args.region.align)
    (region (goal.at.After-walk_step c).After-walk_step) c.args.region.align
    (c.args.from - c.args.region.start)

said : (c : After-walk_step) → step_answer (region (goal.at.After-walk_step c).After-walk_step) c.args.region.align
    (stepping (goal.at.After-walk_step c).After-walk_step) ≡ c.walk_step.result
said c = sym (rw c.bytes.ensures.result_value at c.walk_step.ensures.value)

pub shift-requires : goal.shift-requires
shift-requires c =
    let a = c.args in
    let b = step_sums a.image.now a.region a.guarded (a.from - a.region.start) _ (said (goal.at.shift-requires c).After-walk_step ∙ c.in-Some.is) in
    (omega (arith, b, c.well_formed), omega (arith, b, c.well_formed))

pub returns-in-Some-clause-value : goal.returns-in-Some-clause-value
returns-in-Some-clause-value c =
    let a = c.args in
    step_fit a.image.now a.region (pick_of a.guarded (region (goal.at.returns-in-Some-clause-value c).After-walk_step) a.region.align) a.from
    c.is_step_start.ensures
    c.if-not-is_step_start.false
    (step_answer_took a.image.now a.region (stepping (goal.at.returns-in-Some-clause-value c).After-walk_step) _
    (said (goal.at.returns-in-Some-clause-value c).After-walk_step ∙ c.in-Some.is) c.shift.ensures)

pub returns-in-None-clause-value : goal.returns-in-None-clause-value
returns-in-None-clause-value c =
    let a = c.args in
    step_fit a.image.now a.region (pick_of a.guarded (region (goal.at.returns-in-None-clause-value c).After-walk_step) a.region.align) a.from
    c.is_step_start.ensures
    c.if-not-is_step_start.false
    (step_answer_none a.image.now a.region (stepping (goal.at.returns-in-None-clause-value c).After-walk_step)
    (said (goal.at.returns-in-None-clause-value c).After-walk_step ∙ c.in-None.is))

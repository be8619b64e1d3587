use mathlib.Core.Path.{sym, ◌∙◌}
use native.Mathlib.Omega.{arith}
use Rattle.region_read.specs.RegionRead.{from_place}
use Rattle.region_read.proofs.Numbers.{fit_from}
use Rattle.region_read.proofs.from_place.Goals as goal

pub returns-then-not-is_step_start : goal.returns-then-not-is_step_start
unfolding from_place
returns-then-not-is_step_start c =
    rw (← c.is_step_start.ensures, c.if-not-is_step_start.true)

pub overflow_sub-place : goal.overflow_sub-place
overflow_sub-place c =
    let a = c.args in
    omega (arith, fit_from a.region a.place (sym c.is_step_start.ensures ∙ c.if-not-is_step_start.false))

pub returns : goal.returns
unfolding from_place
returns c =
    rw (← c.is_step_start.ensures, c.if-not-is_step_start.false) (c.rest.ensures.result_value ∙ rw c.bytes.ensures.result_value)

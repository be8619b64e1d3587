use Prim.Native.Nat.{ℕ, ◌+◌, ◌<◌}
use mathlib.Core.Path.{◌≡◌, refl, sym, ap, ◌∙◌}
use mathlib.Core.List.{[], ◌∷◌}
use lib.ListN.{length, drop}
use Rattle.walk.specs.Walk.{next_place}
use Rattle.edit_rules.specs.Edit.{lowest_fitting}
use Rattle.edit_slots.specs.SlotsByPlaces.{run, free_run_answer, runs_between}
use Rattle.edit_slots.proofs.SlotsByPlaces.{runs_end, runs_here, runs_on}
use Rattle.edit_slots.proofs.free_run.Goals as goal
use Rattle.edit_slots.proofs.free_run.Goals.{After-run_fits}

inside : (c : After-run_fits) → c.loop-p.p-index < length c.args.ps.now
inside c = c.loop-p-test.true

pub loop-p-init : goal.loop-p-init
loop-p-init c = refl

pub returns-then-run_fits-clause-value : goal.returns-then-run_fits-clause-value
returns-then-run_fits-clause-value c =
    let a = c.args in
    let here = runs_here a.r.now a.ps.now c.loop-p.p-index a.align a.n c.loop-p.from (inside (goal.at.returns-then-run_fits-clause-value c).After-run_fits)
    (sym c.run_fits.ensures ∙ c.if-run_fits.true) in
    sym (ap (free_run_answer a.kind) (c.loop-p.invariant ∙ here))

pub loop-p-preserved : goal.loop-p-preserved
loop-p-preserved c =
    let a = c.args in
    let from = c.next_place-from.ensures.value ∙ ap (next_place a.r.now a.align) c.span_end.ensures in
    c.loop-p.invariant ∙ runs_on a.r.now a.ps.now c.loop-p.p-index a.align a.n c.loop-p.from (inside (goal.at.loop-p-preserved c).After-run_fits)
    (sym c.run_fits.ensures ∙ c.if-run_fits.false)
    ∙ ap (λ (m : ℕ). lowest_fitting a.n (runs_between a.r.now a.align m (drop (c.loop-p.p-index + 1) a.ps.now))) (sym from)

pub returns-clause-value : goal.returns-clause-value
returns-clause-value c =
    let a = c.args in
    let none_left = runs_end a.r.now a.ps.now c.loop-p.p-index a.align a.n c.loop-p.from c.loop-p-test.false in
    let last : c.last_run.result ≡ free_run_answer a.kind (lowest_fitting a.n (run c.loop-p.from (length a.r.now) ∷ [])) = c.last_run.ensures in
    last ∙ sym (ap (free_run_answer a.kind) (c.loop-p.invariant ∙ none_left))

use mathlib.Core.Path.{sym, ◌∙◌}
use Rattle.edit_slots.proofs.SlotsByPlaces.{run_yes, run_no}
use Rattle.edit_slots.proofs.last_run.Goals as goal

pub returns-then-run_fits : goal.returns-then-run_fits
returns-then-run_fits c =
    let a = c.args in
    run_yes a.n a.from a.to a.kind (sym c.run_fits.ensures ∙ c.if-run_fits.true)

pub returns : goal.returns
returns c =
    let a = c.args in
    run_no a.n a.from a.to a.kind (sym c.run_fits.ensures ∙ c.if-run_fits.false)

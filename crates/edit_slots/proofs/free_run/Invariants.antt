use mathlib.Core.Path.{◌≡◌}
use lib.ListN.{drop}
use Rattle.edit_rules.specs.Edit.{lowest_fitting}
use Rattle.edit_slots.specs.SlotsByPlaces.{runs_between}
use Rattle.edit_slots.proofs.free_run.Given as goal

-- The loop's invariant: no run before the one that begins at `from` and goes up to the i-th place holds the span.
abbrev pub invariant-loop-p : goal.invariant-loop-p
invariant-loop-p l = lowest_fitting l.n (runs_between l.r l.align 0 l.ps) ≡ lowest_fitting l.n (runs_between l.r l.align l.from (drop l.p-index l.ps))

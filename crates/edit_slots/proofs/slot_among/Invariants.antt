use mathlib.Core.Path.{◌≡◌}
use lib.ListN.{drop}
use Rattle.edit_slots.specs.SlotsByPlaces.{slot_among}
use Rattle.edit_slots.proofs.slot_among.Given as goal

-- The loop's invariant: no component at the places before the i-th bears the name.
abbrev pub invariant-loop-i : goal.invariant-loop-i
invariant-loop-i l = slot_among l.r l.name l.ps ≡ slot_among l.r l.name (drop l.i l.ps)

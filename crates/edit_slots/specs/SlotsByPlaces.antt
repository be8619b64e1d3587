-- Runs and slots as the code's own types have them, and as it finds them by places.
use Rattle.std.specs.Prelude.{ℕ, ◌+◌, List, [], ◌∷◌, cond, length, drop, get_or, Option, Some, None, option_map}
use Rattle.bytes_read.specs.Number.{be}
use Rattle.walk.specs.Walk.{next_place}
use Rattle.edit_rules.specs.Edit.{Run, EntrySlot}
use Rattle.strict_check.specs.StrictCheck.{has_name}
use Rattle.edit_slots.specs.declared.Slot.{Slot}

abbrev pub run : ℕ → ℕ → Run
run from to = record { from = from; to = to }

-- The run, for a component of the type k.
abbrev pub slot_from : Run → ℕ → Slot
slot_from x k = record { start = x.from; end = x.to; kind = k }

-- A run that was found or not, for a component of the type k.
abbrev pub free_run_answer : ℕ → Option Run → Option Slot
free_run_answer k x = option_map (λ y. slot_from y k) x

-- A slot that was found or not, with the type of its component.
abbrev pub slot_answer : Option EntrySlot → Option Slot
slot_answer z = option_map (λ y. slot_from y.run y.entry.component.kind) z

-- By the places ps of a region r and the headers there. Where they are those of the plain listing, these are its free runs and its slots
-- (`runs-listed`, `slot_listed` and `used_listed` in proofs/SlotsByPlaces.antt); for any other places they say what is answered all the same.

-- The end of the span at p: p + offset + len, the two as the header has them.
abbrev pub span_end : List ℕ → ℕ → ℕ
span_end r p = p + (be 4 (drop p r) 20 + be 4 (drop p r) 8)

-- The runs from n on, each up to the next place, or to the region's end after the last.
unfoldable pub runs_between : List ℕ → ℕ → ℕ → List ℕ → List Run
runs_between r a n [] = run n (length r) ∷ []
runs_between r a n (p ∷ ps) = run n p ∷ runs_between r a (next_place r a (span_end r p)) ps

-- The slot of the first place whose component bears the name, up to the next place or the region's end; and the type in the header.
unfoldable pub slot_among : List ℕ → List ℕ → List ℕ → Option Slot
slot_among r name [] = None
slot_among r name (p ∷ ps) = let rest = slot_among r name ps in
    cond (has_name r name p) (Some (slot_from (run p (get_or ps 0 (length r))) (be 4 (drop p r) 12))) rest

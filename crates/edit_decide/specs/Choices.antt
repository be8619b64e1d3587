-- What the steps towards an edit answer: the definitions of crates/edit_rules/specs/Edit.antt as the code's own types have them.
use Rattle.std.specs.Prelude.{ℕ, ◌*◌, ◌-◌, ◌≡◌, List, length, Option, Some, None, ok_or, Result, Ok, Err}
use Rattle.walk.specs.Walk.{place_count_below, plain_listing}
use Rattle.region.specs.Region.{region_bytes, refusal_by, refusal_in}
use Rattle.cbfs_types.specs.declared.Region.{Region}
use Rattle.strict_rules.specs.Strict.{component_limit, component_places}
use Rattle.edit_rules.specs.Edit.{span_bytes, EntrySlot, slot_of, Decision, refuse, write, add_after_check, replace_after_check, remove_after_check}
use Rattle.edit_rules.specs.Edit.{add_decision}
use Rattle.edit_rules.specs.Edit.{replace_decision, remove_decision}
use Rattle.edit_slots.specs.SlotsByPlaces.{slot_from}
use Rattle.edit_slots.specs.declared.Slot.{Slot}
use Rattle.edit_decide.specs.declared.EditKind.{EditKind}
use Rattle.edit_decide.specs.declared.EditKind.TheVariants.{Add, Replace, Remove}
use Rattle.cbfs_types.specs.declared.Refusal.{Refusal}

-- What an edit decides: the slot to write, or the refusal.
abbrev pub Choice : Type 0
Choice = Result Slot Refusal

-- How far the first place at or after n lies from n.
unfoldable pub distance_to_place : ℕ → ℕ → ℕ
distance_to_place a n = place_count_below a n * a - n

-- The type that an edit of the slot keeps.
abbrev pub slot_kind : Option EntrySlot → ℕ
slot_kind None = 0
slot_kind (Some z) = z.entry.component.kind

abbrev pub kind_of_name : List ℕ → ℕ → List ℕ → ℕ
kind_of_name r a name = slot_kind (slot_of (length r) name (plain_listing r a))

-- The places are those of the region's components, in order.
abbrev pub ListedPlaces : List ℕ → ℕ → List ℕ → Type 0
ListedPlaces r a ps = ps ≡ component_places (plain_listing r a)

-- What an edit decides on an accepted region, and the type of the component in the slot that it writes.

abbrev pub accepted_decision : EditKind → List ℕ → ℕ → List ℕ → ℕ → List ℕ → Decision
accepted_decision Add r a name kind content = add_after_check component_limit r a name (span_bytes name kind content) (plain_listing r a)
accepted_decision Replace r a name kind content = replace_after_check a name content (slot_of (length r) name (plain_listing r a))
accepted_decision Remove r a name kind content = remove_after_check (slot_of (length r) name (plain_listing r a))

abbrev pub kind_for : EditKind → List ℕ → ℕ → List ℕ → ℕ → ℕ
kind_for Add r a name kind = kind
kind_for Replace r a name kind = kind_of_name r a name
kind_for Remove r a name kind = kind_of_name r a name

-- What is decided for a region that begins at s: the slot to write, counted from the region's start, or the refusal.
abbrev pub choice : ℕ → ℕ → Decision → Choice
choice s k (refuse n p) = Err (refusal_in s n p)
choice s k (write x b) = Ok (slot_from x k)

-- The choice of an edit on an accepted region.
abbrev pub choice_of : EditKind → ℕ → List ℕ → ℕ → List ℕ → ℕ → List ℕ → Choice
choice_of e s r a name kind content = choice s (kind_for e r a name kind) (accepted_decision e r a name kind content)

-- The choice of a remove, by the slot that was found: 10 where there is none.
abbrev pub remove_choice_among : Option Slot → Choice
remove_choice_among z = ok_or z (refusal_by 10)

-- The decisions on the region g of the image i.

abbrev pub add_choice : List ℕ → Region → List ℕ → ℕ → List ℕ → Choice
add_choice i g name kind content = choice g.start kind (add_decision component_limit (region_bytes i g) g.align name kind content)

abbrev pub replace_choice : List ℕ → Region → List ℕ → List ℕ → Choice
replace_choice i g name content = let r = region_bytes i g in
    choice g.start (kind_of_name r g.align name) (replace_decision component_limit r g.align name content)

abbrev pub remove_choice : List ℕ → Region → List ℕ → Choice
remove_choice i g name = let r = region_bytes i g in choice g.start (kind_of_name r g.align name) (remove_decision component_limit r g.align name)

abbrev pub decided : EditKind → List ℕ → Region → List ℕ → ℕ → List ℕ → Choice
decided Add i g name kind content = add_choice i g name kind content
decided Replace i g name kind content = replace_choice i g name content
decided Remove i g name kind content = remove_choice i g name

-- The edits of an image whose region is given by value: the answer with its place counted from the image's start, and the image afterwards.
-- A region that does not fit the image is empty.
use Rattle.std.specs.Prelude.{ℕ, ◌+◌, ◌-◌, ◌≤◌, List, ◌++◌, length, replicate, Result, Ok, Err}
use Rattle.bytes_read.specs.Bytes.{splice}
use Rattle.region.specs.Region.{region_bytes, refusal_in}
use Rattle.cbfs_types.specs.declared.Region.{Region}
use Rattle.strict_rules.specs.Strict.{component_limit}
use Rattle.edit_rules.specs.Edit.{offset_for, span_bytes, RegionEditAnswer, edit_refused, edit_done, RegionEdit, add, replace, remove}
use Rattle.edit_slots.specs.declared.Slot.{Slot}
use Rattle.cbfs_types.specs.declared.Refusal.{Refusal}

-- The outcome of an edit of an image: the place of the component that was written or removed, or the refusal; and the image afterwards.
pub record EditResult : Type 0 where
  pub answer : Result ℕ Refusal
  pub image : List ℕ

-- The answer of an edit of a region that begins at s.
abbrev pub edit_answer : ℕ → RegionEditAnswer → Result ℕ Refusal
edit_answer s (edit_refused n p) = Err (refusal_in s n p)
edit_answer s (edit_done p) = Ok (s + p)

-- The image has the outcome's bytes in the place of its region's.
abbrev pub edit_result_in : List ℕ → Region → RegionEdit → EditResult
edit_result_in i g o = record { answer = edit_answer g.start o.answer; image = splice i g.start o.bytes }

-- The three edits of the region g of an image i, where at most that many components are allowed.

abbrev pub add_in_up_to : ℕ → List ℕ → Region → List ℕ → ℕ → List ℕ → EditResult
add_in_up_to most i g name kind content = edit_result_in i g (add most (region_bytes i g) g.align name kind content)

abbrev pub replace_in_up_to : ℕ → List ℕ → Region → List ℕ → List ℕ → EditResult
replace_in_up_to most i g name content = edit_result_in i g (replace most (region_bytes i g) g.align name content)

abbrev pub remove_in_up_to : ℕ → List ℕ → Region → List ℕ → EditResult
remove_in_up_to most i g name = edit_result_in i g (remove most (region_bytes i g) g.align name)

-- The same with the library's limit.

abbrev pub add_in : List ℕ → Region → List ℕ → ℕ → List ℕ → EditResult
add_in i g name kind content = add_in_up_to component_limit i g name kind content

abbrev pub replace_in : List ℕ → Region → List ℕ → List ℕ → EditResult
replace_in i g name content = replace_in_up_to component_limit i g name content

abbrev pub remove_in : List ℕ → Region → List ℕ → EditResult
remove_in i g name = remove_in_up_to component_limit i g name

-- What the writing functions of the code leave: a slot of n bytes with a component, its span and 0xFF after it; and the image with the slot z, of the region
-- that begins at s, written so. The component fits the slot, and the slot the image.

abbrev pub slot_bytes : ℕ → List ℕ → ℕ → List ℕ → List ℕ
slot_bytes n name kind content = span_bytes name kind content ++ replicate (n - length (span_bytes name kind content)) 255

abbrev pub with_component : List ℕ → ℕ → Slot → List ℕ → List ℕ → List ℕ
with_component i s z name content = splice i (s + z.start) (slot_bytes (z.end - z.start) name z.kind content)

abbrev pub FitsSlot : List ℕ → ℕ → Slot → List ℕ → List ℕ → Type 0
FitsSlot i s z name content =
    (length name ≤ 255) × (length content ≤ 4294967295) × (z.start + (offset_for name + length content) ≤ z.end) × (s + z.end ≤ length i)

-- The edits of a region's bytes r at the alignment a (document 01, "Edits", refusals 10 to 17): what each answers, and the bytes afterwards.
-- Places are counted from the region's start.
use Rattle.std.specs.Prelude.{ℕ, ◌+◌, ◌*◌, ◌-◌, ◌/◌, ◌≤◌, ◌<◌, ◌≡◌, ◌⊎◌, Bool, true, false, cond, not, ◌&&◌, length, get_or, replicate, ltb, leb, eqb, Option}
use Rattle.std.specs.Prelude.{Some, None}
use mathlib.Core.List.{List, [], ◌∷◌, ◌++◌, Memᴰ}
use Rattle.bytes_read.specs.Number.{be_bytes}
use Rattle.bytes_read.specs.Bytes.{splice}
use Rattle.component.specs.Component.{Component, magic}
use Rattle.component.specs.Sums.{span_sum}
use Rattle.component.specs.Names.{name_fits}
use Rattle.bytes_read.specs.Lists.{any, filter}
use Rattle.walk.specs.Walk.{Entry, entry_end, magic_inside, next, plain_listing}
use Rattle.walk_lookup.specs.Lookup.{bears}
use Rattle.region.specs.Refusals.{Test, test}
use Rattle.strict_rules.specs.Strict.{Verdict, check_refused, check_accepted, verdict}
use Rattle.strict_rules.specs.Slots.{first_start}

-- "A written name field is the shortest multiple of 16 that holds the name and one zero."
unfoldable pub field_length : ℕ → ℕ
field_length n = (n / 16 + 1) * 16

-- The offset of a component that is written.
abbrev pub offset_for : List ℕ → ℕ
offset_for name = 24 + field_length (length name)

-- The 24 bytes of a header: the magic, len, type, the checksum and offset.
unfoldable pub header_bytes : ℕ → ℕ → ℕ → ℕ → List ℕ
header_bytes len kind sum offset = magic ++ (be_bytes 4 len ++ (be_bytes 4 kind ++ (be_bytes 4 sum ++ be_bytes 4 offset)))

-- The bytes of the name field: the name, and zeros.
unfoldable pub field_bytes : List ℕ → List ℕ
field_bytes name = name ++ replicate (field_length (length name) - length name) 0

-- The bytes of a whole component that states a sum: its span.
unfoldable pub span_stating : ℕ → List ℕ → ℕ → List ℕ → List ℕ
span_stating sum name kind content = header_bytes (length content) kind sum (offset_for name) ++ (field_bytes name ++ content)

-- "Edits write the sum": that of the span, in which the bytes of the checksum count as zero.
unfoldable pub sum_for : List ℕ → ℕ → List ℕ → ℕ
sum_for name kind content = span_sum (span_stating 0 name kind content)

-- The bytes of a whole component, with its sum.
unfoldable pub span_bytes : List ℕ → ℕ → List ℕ → List ℕ
span_bytes name kind content = span_stating (sum_for name kind content) name kind content

-- Its header.
abbrev pub header_for : List ℕ → ℕ → List ℕ → List ℕ
header_for name kind content = header_bytes (length content) kind (sum_for name kind content) (offset_for name)

-- 16: "the span to be written, by itself and whether or not it fits, holds LARCHIVE wholly at a multiple of align above 0 from its start".
unfoldable pub contains_magic : ℕ → List ℕ → Bool
contains_magic a s = magic_inside s a 0 (length s)

-- The bytes from `from` up to `to`.
pub record Run : Type 0 where
  pub from : ℕ
  pub to : ℕ

-- The run holds a span of n bytes from its start on. No run holds one of 2^32 bytes or more, since a header's len has 32 bits.
abbrev pub run_fits : ℕ → Run → Bool
run_fits n x = leb n 0xFFFFFFFF && leb (x.from + n) x.to

-- "A free run goes from the region's start, or from the first place at or after a span's end, to the next component's start or the region's end."
-- These are the free runs (document 01's term) from n on, of the components that are listed from there on.
unfoldable pub runs : List ℕ → ℕ → ℕ → List Entry → List Run
runs r a n [] = record { from = n; to = length r } ∷ []
runs r a n (t ∷ ts) = record { from = n; to = t.place } ∷ runs r a (next r a t) ts

abbrev pub free_runs : List ℕ → ℕ → List Run
free_runs r a = runs r a 0 (plain_listing r a)

-- "Add uses the lowest place at which the component fits a free run": the first run that holds n bytes.
unfoldable pub lowest_fitting : ℕ → List Run → Option Run
lowest_fitting n [] = None
lowest_fitting n (x ∷ xs) = let rest = lowest_fitting n xs in cond (run_fits n x) (Some x) rest

-- A component with its slot: up to the next component's start, or the region's end.
pub record EntrySlot : Type 0 where
  pub entry : Entry
  pub run : Run

-- The slot of the first bearer of the name; e is the region's end.
unfoldable pub slot_of : ℕ → List ℕ → List Entry → Option EntrySlot
slot_of e name [] = None
slot_of e name (t ∷ ts) = let rest = slot_of e name ts in
    cond (bears name t) (Some (record { entry = t; run = record { from = t.place; to = first_start e ts } })) rest

-- "After the written span, every byte to the next component's start or the region's end is 0xFF": the region with the slot x written anew.
unfoldable pub slot_filled : List ℕ → Run → List ℕ → List ℕ
slot_filled r x s = splice r x.from (s ++ replicate (x.to - x.from - length s) 0xFF)

-- What an edit decides: a refusal by its number, with the place that it reports, or a slot and the span to write there.
pub data Decision : Type 0 where
  refuse : ℕ → ℕ → Decision
  write : Run → List ℕ → Decision

-- The first test that fails refuses, and reports place 0.
abbrev pub or_refused : List Test → Decision → Decision
or_refused [] d = d
or_refused (t ∷ ts) d = cond t.passed (or_refused ts d) (refuse t.number 0)

-- What the strict check refuses comes first: 12, 13, 11.
abbrev pub after_check : Verdict → Decision → Decision
after_check (check_refused n p) d = refuse n p
after_check (check_accepted ps) d = d

abbrev pub write_into : List ℕ → Option Run → Decision
write_into s None = refuse 17 0
write_into s (Some x) = write x s

-- Add, with the components l listed and at most that many allowed: 14, 15, 13, 16, 17.
unfoldable pub add_after_check : ℕ → List ℕ → ℕ → List ℕ → List ℕ → List Entry → Decision
add_after_check most r a name s l = or_refused (
    test 14 (name_fits name)
    ∷ test 15 (not (any (bears name) l))
    ∷ test 13 (ltb (length l) most)
    ∷ test 16 (not (contains_magic a s))
    ∷ []
    ) (write_into s (lowest_fitting (length s) (runs r a 0 l)))

-- Replace: 10, 16, 17. It "keeps place, name and type, writes the whole component anew and must fit the slot".
unfoldable pub replace_after_check : ℕ → List ℕ → List ℕ → Option EntrySlot → Decision
replace_after_check a name content None = refuse 10 0
replace_after_check a name content (Some z) = let s = span_bytes name z.entry.component.kind content in
    or_refused (test 16 (not (contains_magic a s)) ∷ test 17 (run_fits (length s) z.run) ∷ []) (write z.run s)

-- Remove: 10. It "sets the whole slot to 0xFF".
unfoldable pub remove_after_check : Option EntrySlot → Decision
remove_after_check None = refuse 10 0
remove_after_check (Some z) = write z.run []

-- What is answered: a refusal's number and the place that it reports, or the place of the component.
pub data RegionEditAnswer : Type 0 where
  edit_refused : ℕ → ℕ → RegionEditAnswer
  edit_done : ℕ → RegionEditAnswer

-- The answer, and the region's bytes afterwards.
pub record RegionEdit : Type 0 where
  pub answer : RegionEditAnswer
  pub bytes : List ℕ

unfoldable pub carried_out : List ℕ → Decision → RegionEdit
carried_out r (refuse n p) = record { answer = edit_refused n p; bytes = r }
carried_out r (write x s) = record { answer = edit_done x.from; bytes = slot_filled r x s }

-- The decisions of the three edits, the strict check's refusals first.

abbrev pub add_decision : ℕ → List ℕ → ℕ → List ℕ → ℕ → List ℕ → Decision
add_decision most r a name kind content = after_check (verdict most r a) (add_after_check most r a name (span_bytes name kind content) (plain_listing r a))

abbrev pub replace_decision : ℕ → List ℕ → ℕ → List ℕ → List ℕ → Decision
replace_decision most r a name content = after_check (verdict most r a) (replace_after_check a name content (slot_of (length r) name (plain_listing r a)))

abbrev pub remove_decision : ℕ → List ℕ → ℕ → List ℕ → Decision
remove_decision most r a name = after_check (verdict most r a) (remove_after_check (slot_of (length r) name (plain_listing r a)))

-- The three edits.

unfoldable pub add : ℕ → List ℕ → ℕ → List ℕ → ℕ → List ℕ → RegionEdit
add most r a name kind content = carried_out r (add_decision most r a name kind content)

unfoldable pub replace : ℕ → List ℕ → ℕ → List ℕ → List ℕ → RegionEdit
replace most r a name content = carried_out r (replace_decision most r a name content)

unfoldable pub remove : ℕ → List ℕ → ℕ → List ℕ → RegionEdit
remove most r a name = carried_out r (remove_decision most r a name)

-- For what is listed afterwards: a list with t put in, in the order of places; with t instead of what stands at its place; without what stands at p.

unfoldable pub insert_entry : Entry → List Entry → List Entry
insert_entry t [] = t ∷ []
insert_entry t (u ∷ us) = let rest = insert_entry t us in cond (ltb t.place u.place) (t ∷ u ∷ us) (u ∷ rest)

unfoldable pub replace_entry : Entry → List Entry → List Entry
replace_entry t [] = []
replace_entry t (u ∷ us) = cond (eqb u.place t.place) t u ∷ replace_entry t us

abbrev pub remove_entry : ℕ → List Entry → List Entry
remove_entry p l = filter (λ u. not (eqb u.place p)) l

-- For what is promised.

-- The component that is written.
abbrev pub new_component : List ℕ → ℕ → List ℕ → Component
new_component name kind content =
    record { offset = offset_for name; len = length content; kind = kind; checksum = sum_for name kind content; name = name; content = content }

-- What an add needs before 16, and before it looks for a free run.

pub record AddPassesTo13 (most : ℕ) (name : List ℕ) (l : List Entry) : Type 0 where
  pub named : name_fits name ≡ true
  pub unused : any (bears name) l ≡ false
  pub at_most : length l < most

pub record AddPassesTo16 (most a : ℕ) (name s : List ℕ) (l : List Entry) : Type 0 where
  pub passes_to_13 : AddPassesTo13 most name l
  pub without_magic : contains_magic a s ≡ false

-- A run of the list holds n bytes from q on.
abbrev pub FitsRunAt : ℕ → List Run → ℕ → Type 0
FitsRunAt n l q = (n ≤ 0xFFFFFFFF) × (x : Run) × Memᴰ x l × (x.from ≤ q) × (q + n ≤ x.to)

-- n bytes from q on lie in the region and in no component's span.
abbrev pub Free : List ℕ → ℕ → ℕ → ℕ → Type 0
Free r a q n = (q + n ≤ length r) × ((d : Entry) → Memᴰ d (plain_listing r a) → (entry_end d ≤ q) ⊎ (q + n ≤ d.place))

-- The numbers of s are bytes.
abbrev pub AllBytes : List ℕ → Type 0
AllBytes s = (i : ℕ) → get_or s i 0 < 256

-- The bytes s stand in r from p on.
abbrev pub BytesAt : List ℕ → ℕ → List ℕ → Type 0
BytesAt r p s = (p + length s ≤ length r) × ((k : ℕ) → k < length s → get_or r (p + k) 0 ≡ get_or s k 0)

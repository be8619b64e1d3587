-- The definitions of an edit at document 01's boundaries, computed.
use Prim.Native.Nat.{ℕ}
use mathlib.Core.Path.{◌≡◌, refl}
use mathlib.Core.List.{List, [], ◌∷◌, ◌++◌}
use mathlib.Core.Bool.{true, false}
use Rattle.std.specs.Prelude.{Some, None}
use lib.ListN.{replicate}
use Rattle.bytes_read.specs.Bytes.{eq_bytes, splice}
use Rattle.component.specs.Component.{magic, starts_with_magic}
use Rattle.walk.specs.Walk.{Entry, place_count_below, places, magic_at, magic_inside, next_place}
use Rattle.walk_lookup.specs.Lookup.{bears}
use Rattle.strict_rules.specs.Strict.{component_limit}
use Rattle.edit_rules.specs.Edit.{Run, run_fits, field_length, header_bytes, field_bytes, span_stating, sum_for, span_bytes, contains_magic, runs}
use Rattle.edit_rules.specs.Edit.{lowest_fitting}
use Rattle.edit_rules.specs.Edit.{slot_filled, add_after_check, replace_after_check, remove_after_check, write, edit_done, carried_out, new_component}
use Rattle.edit_rules.specs.Table.{decision_number}
use Rattle.component.proofs.Opened.{judge_definitions}

abbrev bytes : ℕ → ℕ → Run
bytes n m = record { from = n; to = m }

-- The shortest multiple of 16 that holds a name of 1, 15, 16, 31 and 255 bytes and one zero.
fields : field_length 1 ∷ field_length 15 ∷ field_length 16 ∷ field_length 31 ∷ field_length 255 ∷ [] ≡ 16 ∷ 16 ∷ 32 ∷ 32 ∷ 256 ∷ []
unfolding field_length
fields = refl

-- The component `ab` of type 0x10 with the bytes 7, 8, 9: LARCHIVE, len 3, the type, the sum 868 (0x0364), offset 40, the name field, the content.
span : span_bytes (97 ∷ 98 ∷ []) 0x10 (7 ∷ 8 ∷ 9 ∷ [])
    ≡ (76 ∷ 65 ∷ 82 ∷ 67 ∷ 72 ∷ 73 ∷ 86 ∷ 69 ∷ 0 ∷ 0 ∷ 0 ∷ 3 ∷ 0 ∷ 0 ∷ 0 ∷ 16 ∷ 0 ∷ 0 ∷ 0x03 ∷ 0x64 ∷ 0 ∷ 0 ∷ 0 ∷ 40 ∷ [])
    ++ (97 ∷ 98 ∷ replicate 14 0)
    ++ (7 ∷ 8 ∷ 9 ∷ [])
unfolding judge_definitions field_length header_bytes field_bytes span_stating sum_for span_bytes
span = refl

-- 16: LARCHIVE at byte 16 of a span at align 16, at byte 15, at its start alone, cut short at its end, and at byte 16 at align 32.
contains_worked : contains_magic 16 (replicate 16 0 ++ magic) ∷ contains_magic 16 (replicate 15 0 ++ magic) ∷ contains_magic 16 magic ∷ contains_magic 16
    (replicate 16 0 ++ (76 ∷ 65 ∷ 82 ∷ 67 ∷ 72 ∷ 73 ∷ 86 ∷ [])) ∷ contains_magic 32 (replicate 16 0 ++ magic) ∷ []
    ≡ true ∷ false ∷ false ∷ false ∷ false ∷ []
unfolding contains_magic magic_inside magic_at places place_count_below magic starts_with_magic eq_bytes
contains_worked = refl

-- The run from 10 to 15 holds 5 bytes and not 6; no run holds 2^32.
held : run_fits 5 (bytes 10 15) ∷ run_fits 6 (bytes 10 15) ∷ run_fits 0 (bytes 10 9) ∷ run_fits 0xFFFFFFFF (bytes 0 0x100000000) ∷ run_fits 0x100000000
    (bytes 0 0x100000000) ∷ []
    ≡ true ∷ false ∷ false ∷ true ∷ false ∷ []
held = refl

-- Of the runs that hold 5 bytes, the first; none where none does.
first : (lowest_fitting 5 (bytes 0 4 ∷ bytes 10 15 ∷ bytes 20 40 ∷ []) ≡ Some (bytes 10 15)) × (lowest_fitting 5 (bytes 0 4 ∷ bytes 10 14 ∷ []) ≡ None)
unfolding lowest_fitting
first = (refl, refl)

-- The slot from 2 to 6 written with one byte, and cleared.

abbrev eight : List ℕ
eight = 1 ∷ 2 ∷ 3 ∷ 4 ∷ 5 ∷ 6 ∷ 7 ∷ 8 ∷ []

written : carried_out eight (write (bytes 2 6) (9 ∷ [])) ≡ record { answer = edit_done 2; bytes = 1 ∷ 2 ∷ 9 ∷ 255 ∷ 255 ∷ 255 ∷ 7 ∷ 8 ∷ [] }
unfolding carried_out slot_filled splice
written = refl

abbrev nothing : ℕ → Entry
nothing p = record { place = p; component = record { offset = 0; len = 0; kind = 0; checksum = 0; name = []; content = [] } }

removed_worked : carried_out eight (remove_after_check (Some (record { entry = nothing 2; run = bytes 2 6 })))
    ≡ record { answer = edit_done 2; bytes = 1 ∷ 2 ∷ 255 ∷ 255 ∷ 255 ∷ 255 ∷ 7 ∷ 8 ∷ [] }
unfolding carried_out remove_after_check slot_filled splice
removed_worked = refl

-- The order 14, 15, 13, 16, 17 of an add to a region of 64 bytes, and 10, 16, 17 of a replace in a slot of 64 bytes: of each two neighbours that
-- apply together the first is given. Where ab is listed, it is as many components as are allowed.

abbrev ab : List ℕ
ab = 97 ∷ 98 ∷ []

abbrev there : Entry
there = record { place = 0; component = new_component ab 0x10 [] }

-- A content that has LARCHIVE at byte 48 of its span.

abbrev with_magic : List ℕ
with_magic = replicate 8 0 ++ magic

abbrev region : List ℕ
region = replicate 64 0xFF

abbrev adds : ℕ → List ℕ → List ℕ → List Entry → ℕ
adds most name content l = decision_number (add_after_check most region 16 name (span_bytes name 0x10 content) l)

add_order :
    adds 1 [] [] (there ∷ [])
    ∷ adds 1 ab [] (there ∷ [])
    ∷ adds 1 (97 ∷ []) with_magic (there ∷ [])
    ∷ adds 2 ab (with_magic ++ replicate 65 0) []
    ∷ adds 2 ab (replicate 65 0) []
    ∷ adds 2 ab (replicate 24 0) []
    ∷ []
    ≡ 14 ∷ 15 ∷ 13 ∷ 16 ∷ 17 ∷ 0 ∷ []
unfolding judge_definitions bears contains_magic magic_inside magic_at places place_count_below field_length header_bytes field_bytes span_stating sum_for
    span_bytes
    next_place runs lowest_fitting add_after_check
add_order = refl

-- At 1,023 components an add goes on, here to 17; at 1,024 it is refused by 13. With document 01's limit, at 255 and at 256.
add_full :
    adds component_limit (97 ∷ []) [] (replicate 1023 there)
    ∷ adds component_limit (97 ∷ []) [] (replicate 1024 there)
    ∷ adds 256 (97 ∷ []) [] (replicate 255 there)
    ∷ adds 256 (97 ∷ []) [] (replicate 256 there)
    ∷ []
    ≡ 17 ∷ 13 ∷ 17 ∷ 13 ∷ []
unfolding judge_definitions bears contains_magic magic_inside magic_at places place_count_below field_length header_bytes field_bytes span_stating sum_for
    span_bytes
    next_place runs lowest_fitting add_after_check
add_full = refl

abbrev replaces : List ℕ → ℕ
replaces content = decision_number (replace_after_check 16 ab content (Some (record { entry = there; run = bytes 0 64 })))

replace_order : decision_number (replace_after_check 16 ab [] None) ∷ replaces (with_magic ++ replicate 65 0) ∷ replaces (replicate 25 0) ∷ replaces
    (replicate 24 0) ∷ []
    ≡ 10 ∷ 16 ∷ 17 ∷ 0 ∷ []
unfolding judge_definitions contains_magic magic_inside magic_at places place_count_below field_length header_bytes field_bytes span_stating sum_for span_bytes
    replace_after_check
replace_order = refl

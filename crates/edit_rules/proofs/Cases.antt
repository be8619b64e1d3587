-- Document 01's bench cases of edits, computed: bench image A's region is accepted and listed once, and each case goes from there.
use Prim.Native.Nat.{ℕ}
use mathlib.Core.Path.{◌≡◌, refl, ap, ◌∙◌}
use mathlib.Core.List.{List, [], ◌∷◌, ◌++◌}
use lib.ListN.{length, replicate}
use lib.Dec.{lit≤}
use Rattle.bench_image.specs.BenchImage.{larchive, cal, log, head, slot0, slot192, region, region_a, region_summed}
use Rattle.component.specs.Component.{magic}
use Rattle.bytes_read.specs.Lists.{filter, no_two}
use Rattle.walk.specs.Walk.{Entry, place_count_below, places, magic_at, magic_inside, plain_pick, or_else, first, next_place, step, follow, steps, listing_from}
use Rattle.walk.specs.Walk.{plain_listing}
use Rattle.walk_lookup.specs.Lookup.{bears}
use Rattle.strict_rules.specs.Strict.{component_limit, lists_place, is_untaken, untaken_places, Accepted}
use Rattle.strict_rules.specs.Slots.{first_start}
use Rattle.edit_rules.specs.Edit.{field_length, offset_for, header_bytes, field_bytes, span_stating, sum_for, span_bytes, contains_magic, runs, lowest_fitting}
use Rattle.edit_rules.specs.Edit.{slot_of, add_after_check, replace_after_check, remove_after_check, RegionEditAnswer, edit_refused, edit_done, RegionEdit}
use Rattle.edit_rules.specs.Edit.{carried_out, add}
use Rattle.edit_rules.specs.Edit.{replace, remove}
use Rattle.edit_rules.proofs.Theorems.{add_on, replace_on, remove_on}
use Rattle.component.proofs.Opened.{judge_definitions}

-- Names of 15, 16 and 255 bytes give offsets 40, 56 and 280.
offsets : offset_for (replicate 15 0x78) ∷ offset_for (replicate 16 0x78) ∷ offset_for (replicate 255 0x78) ∷ [] ≡ 40 ∷ 56 ∷ 280 ∷ []
unfolding field_length
offsets = refl

-- Bench image A's components, with their sums, are what add writes.
written_a : (span_bytes (cal 0x32) 0xFFFFFFFF (replicate 100 0) ++ replicate 52 0xFF) ++
    (span_bytes (cal 0x33) 0xFFFFFFFF (replicate 24 0) ++ replicate 2816 0xFF)
    ≡ region_summed
unfolding judge_definitions larchive cal head slot0 slot192 region field_length header_bytes field_bytes span_stating sum_for span_bytes
written_a = refl

-- LARCHIVE from byte n of the content on.
unfoldable pub magic_from : ℕ → List ℕ
magic_from n = replicate n 0 ++ magic

unfoldable here : ℕ → ℕ → ℕ → Entry
here p d n = record { place = p; component = record { offset = 40; len = n; kind = 0xFFFFFFFF; checksum = 0; name = cal d; content = replicate n 0 } }

unfoldable list_a : List Entry
list_a = here 0 0x32 100 ∷ here 192 0x33 24 ∷ []

listed_64 : plain_listing region_a 64 ≡ list_a
unfolding judge_definitions filter place_count_below places magic_at plain_pick or_else first next_place step follow steps listing_from bears lists_place
    is_untaken
    untaken_places
    no_two field_length header_bytes field_bytes span_bytes larchive cal head slot0 slot192 region here list_a
listed_64 = refl

accepted_64 : Accepted region_a 64
unfolding judge_definitions filter place_count_below places magic_at plain_pick or_else first next_place step follow steps listing_from bears lists_place
    is_untaken
    untaken_places
    no_two field_length header_bytes field_bytes span_bytes larchive cal head slot0 slot192 region here list_a
accepted_64 = record { all_taken = refl; at_most = lit≤ tt; names_are_distinct = refl }

listed_16 : plain_listing region_a 16 ≡ list_a
unfolding judge_definitions filter place_count_below places magic_at plain_pick or_else first next_place step follow steps listing_from bears lists_place
    is_untaken
    untaken_places
    no_two field_length header_bytes field_bytes span_bytes larchive cal head slot0 slot192 region here list_a
listed_16 = refl

accepted_16 : Accepted region_a 16
unfolding judge_definitions filter place_count_below places magic_at plain_pick or_else first next_place step follow steps listing_from bears lists_place
    is_untaken
    untaken_places
    no_two field_length header_bytes field_bytes span_bytes larchive cal head slot0 slot192 region here list_a
accepted_16 = record { all_taken = refl; at_most = lit≤ tt; names_are_distinct = refl }

-- An edit of bench image A's region, from its listing.

adds : (name : List ℕ) (kind : ℕ) (put : List ℕ)
    → add component_limit region_a 64 name kind put ≡ carried_out region_a (add_after_check component_limit region_a 64 name (span_bytes name kind put) list_a)
adds name kind put =
    add_on region_a 64 accepted_64 name kind put
    ∙ ap (λ (l : List Entry). carried_out region_a (add_after_check component_limit region_a 64 name (span_bytes name kind put) l)) listed_64

replaces : (name put : List ℕ) → replace component_limit region_a 64 name put ≡ carried_out region_a
    (replace_after_check 64 name put (slot_of (length region_a) name list_a))
replaces name put =
    replace_on region_a 64 accepted_64 name put
    ∙ ap (λ (l : List Entry). carried_out region_a (replace_after_check 64 name put (slot_of (length region_a) name l))) listed_64

removes : (name : List ℕ) → remove component_limit region_a 64 name ≡ carried_out region_a (remove_after_check (slot_of (length region_a) name list_a))
removes name = remove_on region_a 64 accepted_64 name ∙ ap (λ (l : List Entry). carried_out region_a (remove_after_check (slot_of (length region_a) name l)))
    listed_64

-- At align 16 the name xxxxxxxxLARCHIVE has the magic at byte 32.
names : (name : List ℕ) → add component_limit region_a 16 name 0x50 [] ≡ carried_out region_a
    (add_after_check component_limit region_a 16 name (span_bytes name 0x50 []) list_a)
names name =
    add_on region_a 16 accepted_16 name 0x50 []
    ∙ ap (λ (l : List Entry). carried_out region_a (add_after_check component_limit region_a 16 name (span_bytes name 0x50 []) l)) listed_16

-- One answer, and the others.

reply_of : {o u : RegionEdit} → o ≡ u → o.answer ≡ u.answer
reply_of e = ap (λ (x : RegionEdit). x.answer) e

and : {x y : RegionEditAnswer} {xs ys : List RegionEditAnswer} → x ≡ y → xs ≡ ys → x ∷ xs ≡ y ∷ ys
and p q = rw (p, q)

-- The bench cases, as one list of what is answered.
pub bench :
    (replace component_limit region_a 64 (cal 0x32) (replicate 152 0)).answer
    ∷ (replace component_limit region_a 64 (cal 0x32) (replicate 153 0)).answer
    ∷ (add component_limit region_a 64 log 0x50 (replicate 2776 0)).answer
    ∷ (add component_limit region_a 64 log 0x50 (replicate 2777 0)).answer
    ∷ (add component_limit region_a 64 log 0x50 (magic_from 24)).answer
    ∷ (add component_limit region_a 64 log 0x50 (magic_from 25)).answer
    ∷ (remove component_limit region_a 64 (cal 0x33)).answer
    ∷ (remove component_limit region_a 64 log).answer
    ∷ (replace component_limit region_a 64 log []).answer
    ∷ (add component_limit region_a 64 (cal 0x32) 0x50 []).answer
    ∷ (add component_limit region_a 64 [] 0x50 []).answer
    ∷ (add component_limit region_a 16 (replicate 8 0x78 ++ magic) 0x50 []).answer
    ∷ []
    ≡ edit_done 0 ∷ edit_refused 17 0 ∷ edit_done 256 ∷ edit_refused 17 0 ∷ edit_refused 16 0 ∷ edit_done 256 ∷ edit_done 192 ∷ edit_refused 10 0 ∷
    edit_refused 10 0
    ∷ edit_refused 15 0 ∷ edit_refused 14 0 ∷ edit_refused 16 0 ∷ []
unfolding judge_definitions place_count_below places magic_at magic_inside next_place bears first_start field_length header_bytes field_bytes span_stating
    sum_for
    span_bytes
    contains_magic runs lowest_fitting slot_of add_after_check replace_after_check remove_after_check carried_out larchive cal head slot0 slot192 region log
    magic_from
    here list_a
bench =
    and (reply_of (replaces (cal 0x32) (replicate 152 0))) (
    and (reply_of (replaces (cal 0x32) (replicate 153 0))) (
    and (reply_of (adds log 0x50 (replicate 2776 0))) (
    and (reply_of (adds log 0x50 (replicate 2777 0))) (
    and (reply_of (adds log 0x50 (magic_from 24))) (
    and (reply_of (adds log 0x50 (magic_from 25))) (
    and (reply_of (removes (cal 0x33))) (
    and (reply_of (removes log)) (
    and (reply_of (replaces log [])) (
    and (reply_of (adds (cal 0x32) 0x50 [])) (
    and (reply_of (adds [] 0x50 [])) (
    and (reply_of (names (replicate 8 0x78 ++ magic))) refl)))))))))))

-- What each exported call answers for an image i: one number, over the definitions that the contracts of the public calls cite.
-- A count or a place of an image is below 2^32, and every refusal is at or above it (proofs/Encodings.antt, for the calls that are timed).
use Rattle.std.specs.Prelude.{Option, Some, None, Result, Ok, Err, ℕ, ◌+◌, ◌*◌, ◌^◌, List, Bool, true, false, length, get_or}
use Rattle.cbfs_types.specs.declared.Taken.{Taken}
use Rattle.walk.specs.Walk.{Entry, pick_of, listing}
use Rattle.region.specs.Region.{region_bytes}
use Rattle.cbfs_types.specs.declared.Region.{Region}
use Rattle.cbfs_types.specs.declared.Refusal.{Refusal}
use Rattle.master_header.specs.Master.{master}
use Rattle.cbfs_types.specs.declared.FlashMap.{FlashMap}
use Rattle.image_walk.specs.ImageWalk.{strict_check, image_step}
use Rattle.image_find.specs.ImageFind.{image_find, plain_content, guarded_content, name_at, content_at}
use Rattle.image_edit.specs.ImageEdit.{image_add, image_replace, image_remove}
use Rattle.image_load.specs.ImageLoad.{image_stage, image_payload}
use Rattle.load_payload.specs.Payload.{unused_segment}
use Rattle.fmap.specs.Fmap.{fmap, map_at, area_of}
use Rattle.fmap_area.specs.Names.{area_name_at}
use Rattle.fmap_signature.specs.Signatures.{signatures, signature_answer}

-- A refusal: its number in the upper 32 bits, the place that it reports in the lower.
abbrev pub encoded_refusal : Refusal → ℕ
encoded_refusal r = r.number * 2 ^ 32 + r.place

-- What a call answers, or its refusal.
abbrev pub encoded : Result ℕ Refusal → ℕ
encoded (Ok n) = n
encoded (Err r) = encoded_refusal r

-- What f says of the value that a call answers, or its refusal.
abbrev pub encoded_by : {A : Type 0} → (A → ℕ) → Result A Refusal → ℕ
encoded_by f (Ok x) = f x
encoded_by f (Err r) = encoded_refusal r

-- The listing of the image's region by the walk that w chooses: the guarded one where it is true.
abbrev pub listed : Bool → List ℕ → Region → List Entry
listed w i g = listing (pick_of w (region_bytes i g) g.align) (region_bytes i g) g.align

-- How many components that listing has, or refusals 1 to 8.

abbrev pub count_of : Bool → List ℕ → ℕ
count_of w i = encoded_by (λ g. length (listed w i g)) (master i)

abbrev pub plain_count : List ℕ → ℕ
plain_count i = count_of false i

abbrev pub guarded_count : List ℕ → ℕ
guarded_count i = count_of true i

-- The place that a lookup finds, or its refusal: 1 to 8, then 10, and 11 for the guarded one.

abbrev pub place_found : Bool → List ℕ → List ℕ → ℕ
place_found w i name = encoded_by (λ t. t.place) (image_find w i name)

abbrev pub plain_place : List ℕ → List ℕ → ℕ
plain_place i name = place_found false i name

abbrev pub guarded_place : List ℕ → List ℕ → ℕ
guarded_place i name = place_found true i name

-- The count of the strict check's directory, or its k-th place; or its refusal: 1 to 8, then 12, 13, 11.

abbrev pub strict_count : List ℕ → ℕ
strict_count i = encoded_by (λ d. d.count) (strict_check i)

abbrev pub strict_place : List ℕ → ℕ → ℕ
strict_place i k = encoded_by (λ d. get_or d.places k 0) (strict_check i)

-- The place of the component that an edit wrote or removed, or its refusal:
-- 1 to 8, 12, 13, 11, then 14, 15, 13, 16, 17 (add), 10, 16, 17 (replace) or 10 (remove).

abbrev pub add_place : List ℕ → List ℕ → ℕ → List ℕ → ℕ
add_place i name kind content = encoded (image_add i name kind content).answer

abbrev pub replace_place : List ℕ → List ℕ → List ℕ → ℕ
replace_place i name content = encoded (image_replace i name content).answer

abbrev pub remove_place : List ℕ → List ℕ → ℕ
remove_place i name = encoded (image_remove i name).answer

-- Where the region begins, or refusals 1 to 8.
abbrev pub region_start : List ℕ → ℕ
region_start i = encoded_by (λ g. g.start) (master i)

-- The place that a step from n takes, 2^32 - 1 where none is left, or refusals 1 to 9.

abbrev pub encoded_step : Result (Option Taken) Refusal → ℕ
encoded_step (Ok (Some t)) = t.place
encoded_step (Ok None) = 4294967295
encoded_step (Err r) = encoded_refusal r

abbrev pub taken_by : Bool → List ℕ → ℕ → ℕ
taken_by w i n = encoded_step (image_step w i n)

abbrev pub plain_taken : List ℕ → ℕ → ℕ
plain_taken i n = taken_by false i n

abbrev pub guarded_taken : List ℕ → ℕ → ℕ
guarded_taken i n = taken_by true i n

-- How long the part is that a call gives: the content by a lookup, the name and the content at a place. A refusal gives an empty part.

abbrev pub plain_length : List ℕ → List ℕ → ℕ
plain_length i name = length (plain_content i name)

abbrev pub guarded_length : List ℕ → List ℕ → ℕ
guarded_length i name = length (guarded_content i name)

abbrev pub name_length_at : List ℕ → ℕ → ℕ
name_length_at i p = length (name_at i p)

abbrev pub content_length : List ℕ → ℕ → ℕ
content_length i p = length (content_at i p)

-- Of a stage where its binary stands; of a payload how many segments it has, and where the source of the k-th stands;
-- of a flash map how many areas it has, and the offset of the k-th. Or the refusal, which reports place 0.

abbrev pub stage_source : List ℕ → List ℕ → ℕ
stage_source i name = encoded_by (λ p. p.source) (image_stage i name)

abbrev pub payload_count : List ℕ → List ℕ → ℕ
payload_count i name = encoded_by (λ p. p.count) (image_payload i name)

abbrev pub segment_source : List ℕ → List ℕ → ℕ → ℕ
segment_source i name k = encoded_by (λ p. (get_or p.segments k unused_segment).source) (image_payload i name)

abbrev pub area_count : List ℕ → ℕ
area_count i = encoded_by (λ m. m.count) (fmap i)

abbrev pub map_offset : FlashMap → ℕ → ℕ
map_offset m k = (area_of m k).offset

abbrev pub area_offset : List ℕ → ℕ → ℕ
area_offset i k = encoded_by (λ m. map_offset m k) (fmap i)

-- The same of the map at a place, judged against a length.
abbrev pub offset_at : List ℕ → ℕ → ℕ → ℕ → ℕ
offset_at i at l k = encoded_by (λ m. map_offset m k) (map_at i at l)

-- How long the name of an area is that stands at p.
abbrev pub area_name_length : List ℕ → ℕ → ℕ
area_name_length i p = length (area_name_at i p)

-- The place of the only signature, or 27 and 28.

abbrev pub signature_place : List ℕ → ℕ
signature_place i = encoded (signature_answer (signatures i))

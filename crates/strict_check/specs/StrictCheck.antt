-- The directory that the strict check answers (document 01 and request 6: 1,024 places, unused ones holding zero, and a count), and the steps towards it.
use Rattle.std.specs.Prelude.{ℕ, zero, suc, ◌+◌, ◌-◌, ◌*◌, ◌/◌, ◌%◌, ◌≤◌, ◌<◌, min, ◌≡◌, List, [], ◌∷◌, ◌++◌, map, Bool, false, ◌⊎◌, length}
use Rattle.std.specs.Prelude.{get_or, take, drop, set, replicate, Result, Ok, Err}
use Rattle.component.specs.Component.{judge_numbers, name_of, bears_name}
use Rattle.bytes_read.specs.Number.{le}
use Rattle.bytes_read.specs.Lists.{any, no_two, padded}
use Rattle.walk.specs.Walk.{Entry, plain_listing}
use Rattle.region.specs.Region.{region_bytes, refusal_in}
use Rattle.cbfs_types.specs.declared.Region.{Region}
use Rattle.strict_rules.specs.Strict.{component_limit, Verdict, check_refused, check_accepted, untaken_places, verdict}
use Rattle.cbfs_types.specs.declared.Directory.{Directory}
use Rattle.cbfs_types.specs.declared.Refusal.{Refusal}

-- A directory of so many places, none of them in use.
unfoldable pub zero_places : ℕ → List ℕ
zero_places most = replicate most 0

-- The verdict on a region that begins at s, where at most that many components are allowed, its places counted from the image's start.
abbrev pub directory_answer : ℕ → ℕ → Verdict → Result Directory Refusal
directory_answer most s (check_refused n p) = Err (refusal_in s n p)
directory_answer most s (check_accepted ps) = Ok (record { count = length ps; places = padded most 0 (map (λ p. s + p) ps) })

-- The same without the places: how many components there are.
abbrev pub check_summary : ℕ → Verdict → Result ℕ Refusal
check_summary s (check_refused n p) = Err (refusal_in s n p)
check_summary s (check_accepted ps) = Ok (length ps)

-- The verdict on the region g of the image i, where an array d is lent for the places: as many components are allowed as it has room for, and
-- `component_limit` at most.
abbrev pub verdict_in : List ℕ → List ℕ → Region → Verdict
verdict_in d i g = verdict (min (length d) component_limit) (region_bytes i g) g.align

-- What the array d holds then: the places first, over what it held; zeros where the check refuses.
abbrev pub stored_places : List ℕ → Verdict → List ℕ
stored_places d (check_refused n p) = replicate (length d) 0
stored_places d (check_accepted ps) = ps ++ drop (length ps) d

-- The same, but that of a refusal nothing is said: d' is what the array holds.
abbrev pub IsStored : List ℕ → List ℕ → Verdict → Type 0
IsStored d d' (check_refused n p) = length d' ≡ length d
IsStored d d' (check_accepted ps) = d' ≡ ps ++ drop (length ps) d

-- The name of the component at the place p, by its header's numbers: where the listing has one there, its sum was taken already. Empty where none stands.
abbrev pub name_by_numbers : List ℕ → ℕ → List ℕ
name_by_numbers r p = name_of (judge_numbers (drop p r))

-- A digest taken further by a word of eight bytes, its two halves weighed apart; it stays below 2^32.
abbrev pub hash_step : ℕ → ℕ → ℕ
hash_step h w = (h * 961 + w % 4294967296 * 31 + w / 4294967296) % 4294967296

-- A digest taken further by n words of s from i on, and by what is left after them: less than a word, with zeros after it.
unfoldable pub digest_from : ℕ → ℕ → List ℕ → ℕ → ℕ
digest_from zero h s i = hash_step h (le 8 s i)
digest_from (suc n) h s i = digest_from n (hash_step h (le 8 s i)) s (i + 8)

-- The digest of a name: a number that equal names share, so that names with different digests differ.
abbrev pub digest_of : List ℕ → ℕ
digest_of name = digest_from (length name / 8) 0 name 0

-- l holds the digests of the names of the components at the first n of the places.
pub record NameDigests (r places : List ℕ) (n : ℕ) (l : List ℕ) : Type 0 where
  pub stored : n ≤ length places
  pub taken : n ≤ length l
  pub each : (k : ℕ) → k < n → get_or l k 0 ≡ digest_of (name_by_numbers r (get_or places k 0))

-- What is stored of an entry: its place, and the digest of its name.

abbrev pub entry_place : Entry → ℕ
entry_place t = t.place

abbrev pub entry_digest : Entry → ℕ
entry_digest t = digest_of t.component.name

-- What f says of the entries of a listing, stored in d from n on; what does not fit is left out.
unfoldable pub store_all : (Entry → ℕ) → List ℕ → ℕ → List Entry → List ℕ
store_all f d n [] = d
store_all f d n (t ∷ ts) = store_all f (set d n (f t)) (n + 1) ts

-- What one pass over the region says: the lowest untaken place; or that there is none, how many components there are, their places over
-- what the array d held, and the digests of their names over what the array e held.
pub record Scanned (r : List ℕ) (a : ℕ) (d d' e e' : List ℕ) (s : Result ℕ ℕ) : Type 0 where
  pub untaken : (p : ℕ) → s ≡ Err p → ((most : ℕ) → verdict most r a ≡ check_refused 12 p) × (p < length r)
  pub none_untaken : (n : ℕ) → s ≡ Ok n → (untaken_places r a ≡ []) × (n ≡ length (plain_listing r a))
      × (d' ≡ store_all entry_place d 0 (plain_listing r a)) × (e' ≡ store_all entry_digest e 0 (plain_listing r a))

-- The component at the place p, by its header's numbers, bears the name.
unfoldable pub has_name : List ℕ → List ℕ → ℕ → Bool
has_name r name p = bears_name name (judge_numbers (drop p r))

-- No two of the components at these places have the same name.
abbrev pub distinct_names_at : List ℕ → List ℕ → Bool
distinct_names_at r ps = no_two (λ p. has_name r (name_by_numbers r p)) ps

-- One of the components at the places after the i-th, up to n, has the name of the i-th.
abbrev pub repeated_after : List ℕ → List ℕ → ℕ → ℕ → Bool
repeated_after r ps i n = any (has_name r (name_by_numbers r (get_or ps i 0))) (take (n - (i + 1)) (drop (i + 1) ps))

-- Digests are marked in 2,048 bytes: a digest marks one of them with one of 254 marks; 255 stands for several. Which byte and which mark, the upper bits
-- of a product decide, on which all bits of the digest work.

abbrev pub digest_product : ℕ → ℕ
digest_product d = d * 2654435761 % 4294967296

abbrev pub mark_byte : ℕ → ℕ
mark_byte d = digest_product d / 2097152

abbrev pub mark_value : ℕ → ℕ
mark_value d = 1 + digest_product d / 8192 % 254

-- The digest may have been marked: the byte has its mark, or several.
abbrev pub MayBeMarked : List ℕ → ℕ → Type 0
MayBeMarked marks d = (get_or marks (mark_byte d) 0 ≡ mark_value d) ⊎ (get_or marks (mark_byte d) 0 ≡ 255)

-- d is marked, what was marked before still is, and b says whether d may have been among it.
pub record Marked (before after : List ℕ) (d : ℕ) (b : Bool) : Type 0 where
  pub unmarked : b ≡ false → MayBeMarked before d → ⊥
  pub here : MayBeMarked after d
  pub kept : (e : ℕ) → MayBeMarked before e → MayBeMarked after e

-- The digests from i up to n are marked.
abbrev pub AllMarked : List ℕ → List ℕ → ℕ → ℕ → Type 0
AllMarked marks digests i n = (k : ℕ) → i ≤ k → k < n → MayBeMarked marks (get_or digests k 0)

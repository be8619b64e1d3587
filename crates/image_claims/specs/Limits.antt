-- Request 6: more components are allowed, n where there were m before. What an image that was served before gets now.
use Rattle.std.specs.Prelude.{ℕ, ◌-◌, ◌<◌, ◌≡◌, List, ◌++◌, length, replicate, Result, Ok, Err}
use Rattle.region.specs.Table.{FirstRowMet}
use Rattle.master_header.specs.Table.{align, master_rows}
use Rattle.walk.specs.Walk.{Entry, plain_listing}
use Rattle.walk_lookup.specs.Lookup.{NoBearer, TwoSameName}
use Rattle.strict_rules.specs.Table.{Untaken}
use Rattle.cbfs_types.specs.declared.Directory.{Directory}
use Rattle.cbfs_types.specs.declared.Refusal.{Refusal}
use Rattle.edit_rules.specs.Table.{UnfitName}
use Rattle.image_claims.specs.Table.{image_region_bytes}

-- The directory d', of n places, says what d says, which has m: "the same count and places", and zeros after them.
pub record SameDirectoryPadded (m n : ℕ) (d d' : Directory) : Type 0 where
  pub count : d'.count ≡ d.count
  pub long : length d.places ≡ m
  pub places : d'.places ≡ d.places ++ replicate (n - m) 0

-- The strict check's answer where n components are allowed, beside its answer where m are: the same refusal, or the same directory, padded.
abbrev pub SameAnswerPadded : ℕ → ℕ → Result Directory Refusal → Result Directory Refusal → Type 0
SameAnswerPadded m n (Err r) answer = answer ≡ Err r
SameAnswerPadded m n (Ok d) answer = (d' : Directory) × (answer ≡ Ok d') × SameDirectoryPadded m n d d'

-- When 13 is given: "raise 256 to 1,024 in the strict check, .., add and refusal 13".
module _ (i : List ℕ) where
  -- The components that the plain walk takes.
  abbrev pub components : List Entry
  components = plain_listing (image_region_bytes i) (align i)

  -- 1 to 8 and 12 come before.
  abbrev pub NotBefore13 : Type 0
  NotBefore13 = FirstRowMet (master_rows i) 0 × ((p : ℕ) → Untaken (image_region_bytes i) (align i) p → ⊥)

  -- "More than 1,024 components."
  abbrev pub TooMany : Type 0
  TooMany = NotBefore13 × (1024 < length components)

  -- "An add at 1,024", of a fit name that is not in use; 11, 14 and 15 come before it.
  abbrev pub AddAtLimit : List ℕ → Type 0
  AddAtLimit name = NotBefore13 × (length components ≡ 1024) × (TwoSameName components → ⊥) × (UnfitName name → ⊥) × NoBearer components name

-- Document 01's table of refusals for the calls over a whole image i, in the paper's words and numbers and in the order of each call.
-- Rows 1 to 8 stand in crates/master_header/specs/Table.antt, 12, 13 and 11 in crates/strict_rules/specs/Table.antt, those of edits in
-- crates/edit_rules/specs/Table.antt.
use Rattle.std.specs.Prelude.{Result, Ok, Err, ℕ, ◌+◌, ◌%◌, ◌≤◌, ◌<◌, ◌≡◌, List, [], ◌∷◌, ◌++◌, Bool, true, false, ◌⊎◌}
use Rattle.region.specs.Table.{Row, row}
use Rattle.region.specs.Region.{region_bytes}
use Rattle.cbfs_types.specs.declared.Refusal.{Refusal}
use Rattle.master_header.specs.Table.{align, region, master_rows}
use Rattle.walk.specs.Walk.{Entry}
use Rattle.walk_lookup.specs.Lookup.{NoBearer, TwoBearers}
use Rattle.strict_rules.specs.Table.{Untaken, check_rows}
use Rattle.edit_rules.specs.Table.{add_rows, replace_rows, remove_rows}
use Rattle.image_claims.specs.Corruption.{region_listing}

-- The number of an answer, 0 where it is not refused.
abbrev pub answer_number : {A : Type 0} → Result A Refusal → ℕ
answer_number (Ok x) = 0
answer_number (Err r) = r.number

module _ (i : List ℕ) where
  -- The bytes of the image's region, and the listing of a walk over them, the guarded one where w is true.

  abbrev pub image_region_bytes : List ℕ
  image_region_bytes = region_bytes i (region i)

  abbrev pub listed_by : Bool → List Entry
  listed_by w = region_listing w i (region i)

  -- A step from n: 1 to 8, then "9: step from a number below offset, past the region's end, or short of that end and no multiple of align".

  abbrev pub NotStepStart : ℕ → Type 0
  NotStepStart n = (n < (region i).start) ⊎ (((region i).end < n) ⊎ ((n < (region i).end) × (n % align i ≡ 0 → ⊥)))

  abbrev pub step_rows : ℕ → List Row
  step_rows n = master_rows i ++ (row 9 (NotStepStart n) ∷ [])

  -- A lookup: 1 to 8, 10; and 11 for the guarded one.

  abbrev pub plain_rows : List ℕ → List Row
  plain_rows name = master_rows i ++ (row 10 (NoBearer (listed_by false) name) ∷ [])

  abbrev pub guarded_rows : List ℕ → List Row
  guarded_rows name = master_rows i ++ (row 10 (NoBearer (listed_by true) name) ∷ row 11 (TwoBearers name (listed_by true)) ∷ [])

  -- The strict check: "1 to 8, 12, 13, 11", with 1,024 components allowed (request 6).
  abbrev pub strict_rows : List Row
  strict_rows = master_rows i ++ check_rows 1024 image_region_bytes (align i)

  -- Edits: "the same, then 14 and 15 (add) or 10, then 13 for an add at 256 components, 16, 17", 1,024 by request 6.

  abbrev pub image_add_rows : List ℕ → ℕ → List ℕ → List Row
  image_add_rows name kind content = master_rows i ++ (check_rows 1024 image_region_bytes (align i) ++ add_rows 1024 image_region_bytes (align i) name kind content)

  abbrev pub image_replace_rows : List ℕ → List ℕ → List Row
  image_replace_rows name content = master_rows i ++ (check_rows 1024 image_region_bytes (align i) ++ replace_rows image_region_bytes (align i) name content)

  abbrev pub image_remove_rows : List ℕ → List Row
  image_remove_rows name = master_rows i ++ (check_rows 1024 image_region_bytes (align i) ++ remove_rows image_region_bytes (align i) name)

  -- "Each comes back with place 0 (12: the lowest such place)".

  -- q is the lowest place with the magic that the plain walk does not take, counted from the image's start.
  abbrev pub LowestUntakenInImage : ℕ → Type 0
  LowestUntakenInImage q =
      (p : ℕ) × (q ≡ (region i).start + p) × Untaken image_region_bytes (align i) p × ((p' : ℕ) → Untaken image_region_bytes (align i) p' → p ≤ p')

  -- The place q that comes with the number n.
  abbrev pub RefusalPlace : ℕ → ℕ → Type 0
  RefusalPlace n q = (n ≡ 12 → LowestUntakenInImage q) × ((n ≡ 12 → ⊥) → q ≡ 0)

  -- What every refusal of a call says: a number, which is not 0, and its place.
  pub record RefusalHas (x : Refusal) : Type 0 where
    pub some_number : x.number ≡ 0 → ⊥
    pub place : RefusalPlace x.number x.place

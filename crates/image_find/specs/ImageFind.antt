-- What is found in a whole image i, by a name or at a place: the master header, refusals 1 to 8, and then the call over its region.
use Rattle.std.specs.Prelude.{Result, Ok, Err, ℕ, Bool, true, false, List, []}
use Rattle.cbfs_types.specs.declared.Refusal.{Refusal}
use Rattle.cbfs_types.specs.declared.Taken.{Taken}
use Rattle.cbfs_types.specs.declared.Region.{Region}
use Rattle.region.specs.Region.{and_then}
use Rattle.master_header.specs.Master.{master}
use Rattle.region_read.specs.RegionRead.{find_in, content_found_in, name_at_in, content_at_in}

-- The part that the call over the region gives; empty where the master header refuses.
abbrev pub part_on : Result Region Refusal → (Region → List ℕ) → List ℕ
part_on (Ok g) call = call g
part_on (Err r) call = []

-- A lookup: refusals 1 to 8, then 10, and 11 for the guarded one; and the content that it gives, empty on a refusal. w is true for the guarded walk.

abbrev pub image_find : Bool → List ℕ → List ℕ → Result Taken Refusal
image_find w i name = and_then (master i) (λ g. find_in w i g name)

abbrev pub plain_find : List ℕ → List ℕ → Result Taken Refusal
plain_find i name = image_find false i name

abbrev pub guarded_find : List ℕ → List ℕ → Result Taken Refusal
guarded_find i name = image_find true i name

abbrev pub image_content : Bool → List ℕ → List ℕ → List ℕ
image_content w i name = part_on (master i) (λ g. content_found_in w i g name)

abbrev pub plain_content : List ℕ → List ℕ → List ℕ
plain_content i name = image_content false i name

abbrev pub guarded_content : List ℕ → List ℕ → List ℕ
guarded_content i name = image_content true i name

-- The name and the content of the component at a place; empty where none stands there, or the image is refused.

abbrev pub name_at : List ℕ → ℕ → List ℕ
name_at i p = part_on (master i) (λ g. name_at_in i g p)

abbrev pub content_at : List ℕ → ℕ → List ℕ
content_at i p = part_on (master i) (λ g. content_at_in i g p)

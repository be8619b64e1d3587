-- The edits of a whole image i: the master header, refusals 1 to 8, and then the edit of its region.
use Rattle.std.specs.Prelude.{Result, Ok, Err, ℕ, List}
use Rattle.cbfs_types.specs.declared.Refusal.{Refusal}
use Rattle.cbfs_types.specs.declared.Region.{Region}
use Rattle.master_header.specs.Master.{master}
use Rattle.edit_write.specs.EditWrite.{EditResult, add_in, replace_in, remove_in, add_in_up_to, replace_in_up_to, remove_in_up_to}

-- A refused edit changes no byte.
abbrev pub edit_on : List ℕ → Result Region Refusal → (Region → EditResult) → EditResult
edit_on i (Ok g) call = call g
edit_on i (Err r) call = record { answer = Err r; image = i }

-- The edits, each with its answer and the image afterwards: refusals 1 to 8, 12, 13, 11, then 14, 15, 13, 16, 17 (add), 10, 16, 17 (replace) or 10 (remove).

abbrev pub image_add : List ℕ → List ℕ → ℕ → List ℕ → EditResult
image_add i name kind content = edit_on i (master i) (λ g. add_in i g name kind content)

abbrev pub image_replace : List ℕ → List ℕ → List ℕ → EditResult
image_replace i name content = edit_on i (master i) (λ g. replace_in i g name content)

abbrev pub image_remove : List ℕ → List ℕ → EditResult
image_remove i name = edit_on i (master i) (λ g. remove_in i g name)

-- The same where at most that many components are allowed.

abbrev pub image_add_up_to : ℕ → List ℕ → List ℕ → ℕ → List ℕ → EditResult
image_add_up_to most i name kind content = edit_on i (master i) (λ g. add_in_up_to most i g name kind content)

abbrev pub image_replace_up_to : ℕ → List ℕ → List ℕ → List ℕ → EditResult
image_replace_up_to most i name content = edit_on i (master i) (λ g. replace_in_up_to most i g name content)

abbrev pub image_remove_up_to : ℕ → List ℕ → List ℕ → EditResult
image_remove_up_to most i name = edit_on i (master i) (λ g. remove_in_up_to most i g name)

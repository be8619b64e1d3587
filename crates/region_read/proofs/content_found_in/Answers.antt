use Prim.Native.Nat.{ℕ}
use mathlib.Core.Path.{◌≡◌, sym, ◌∙◌}
use mathlib.Core.List.{List}
use Rattle.walk_lookup.specs.Lookup.{LookupResult, bearer_answer, lookup_of}
use Rattle.region.specs.Region.{region_bytes}
use Rattle.region_read.proofs.Answers.{found_content, content_refused}
use Rattle.walk_lookup.proofs.Answers.{lookup_member}
use Rattle.region_read.proofs.content_found_in.Goals as goal
use Rattle.region_read.proofs.content_found_in.Goals.{After-find}

-- the region's bytes, and the lookup in them
abbrev region : After-find → List ℕ
region c = region_bytes c.args.image.now c.args.region

abbrev looked : After-find → LookupResult
looked c = lookup_of c.args.guarded (region (goal.at.After-find c).After-find) c.args.region.align c.args.name.now

said : (c : After-find) → bearer_answer (region (goal.at.After-find c).After-find) c.args.region.align (looked (goal.at.After-find c).After-find)
    ≡ c.find.result
said c = sym (rw c.bytes-bytes.ensures.result_value at c.find.ensures.value)

pub returns-in-Ok-clause-result_value : goal.returns-in-Ok-clause-result_value
returns-in-Ok-clause-result_value c =
    let a = c.args in (rw c.bytes-bytes.ensures.result_value at c.content_of.ensures
    ∙ found_content a.image.now a.region a.guarded (looked (goal.at.returns-in-Ok-clause-result_value c).After-find)
    (λ e q. (lookup_member a.guarded (region (goal.at.returns-in-Ok-clause-result_value c).After-find) a.region.align a.name.now e q).0) _
    (said (goal.at.returns-in-Ok-clause-result_value c).After-find ∙ c.in-Ok.is))

pub returns-in-Err-clause-result_value : goal.returns-in-Err-clause-result_value
returns-in-Err-clause-result_value c =
    let a = c.args in
    (content_refused a.image.now a.region (looked (goal.at.returns-in-Err-clause-result_value c).After-find) _
    (said (goal.at.returns-in-Err-clause-result_value c).After-find ∙ c.in-Err.is))

use Prim.Native.Nat.{ℕ}
use mathlib.Core.Path.{◌≡◌, sym, ◌∙◌}
use mathlib.Core.List.{List}
use native.Mathlib.Omega.{arith}
use Rattle.walk_lookup.specs.Lookup.{LookupResult, bearer_answer, lookup_of}
use Rattle.region.specs.Region.{region_bytes}
use Rattle.region_read.proofs.Answers.{found_sums, found_at, found_refused}
use Rattle.walk_lookup.proofs.Answers.{lookup_member}
use borrow.Author.Rules.{rules}
use Rattle.region_read.proofs.find_in.Goals as goal
use Rattle.region_read.proofs.find_in.Goals.{After-find}

-- the region's bytes, and the lookup in them
abbrev region : After-find → List ℕ
region c = region_bytes c.args.image.now c.args.region

abbrev looked : After-find → LookupResult
looked c = lookup_of c.args.guarded (region (goal.at.After-find c).After-find) c.args.region.align c.args.name.now

said : (c : After-find) → bearer_answer (region (goal.at.After-find c).After-find) c.args.region.align (looked (goal.at.After-find c).After-find)
    ≡ c.find.result
said c = sym (rw c.bytes.ensures.result_value at c.find.ensures.value)

pub shift-requires : goal.shift-requires
shift-requires c =
    let a = c.args in
    let b =
    found_sums a.image.now a.region a.guarded (looked (goal.at.shift-requires c).After-find)
    (λ e q. (lookup_member a.guarded (region (goal.at.shift-requires c).After-find) a.region.align a.name.now e q).0) _
    (said (goal.at.shift-requires c).After-find ∙ c.in_ok-t.was) in
    (omega (arith, b, c.well_formed), omega (arith, b, c.well_formed))

pub returns-clause-value : goal.returns-clause-value
returns-clause-value c =
    let a = c.args in
    (found_at a.image.now a.region (looked (goal.at.returns-clause-value c).After-find) _
    (said (goal.at.returns-clause-value c).After-find ∙ c.in_ok-t.was) c.shift.ensures)

pub returns-in_err-t-clause-value : goal.returns-in_err-t-clause-value
returns-in_err-t-clause-value c =
    let a = c.args in
    let at = goal.at.returns-in_err-t-clause-value c in
    let f = found_refused a.image.now a.region (looked at.After-find) _ (said at.After-find ∙ c.in_err-t.was) in
    search (rules, f)

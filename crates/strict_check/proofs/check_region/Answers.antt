use Rattle.std.proofs.Common.{◌≡◌, ℕ, ◌≤◌, ◌<◌, min, List, length, take, replicate, refl, sym, ap, ◌∙◌, arith}
use Rattle.walk.specs.Walk.{plain_listing}
use Rattle.region.specs.Region.{region_bytes}
use Rattle.region.proofs.Regions.{bytes_inside}
use Rattle.strict_rules.specs.Strict.{component_limit, distinct_names, check_refused, verdict}
use Rattle.strict_check.specs.StrictCheck.{Scanned, distinct_names_at}
use Rattle.strict_check.proofs.Answers.{passed_at, refused_many, digests_are, distinct_said, refused_same_name, accepted_counted, accepted_stored}
use Rattle.strict_check.proofs.Answers.{refused_so, refused_keeps}
use Rattle.strict_check.proofs.check_region.Goals as goal
use Rattle.strict_check.proofs.check_region.Goals.{After-scan_region, In-Err, Then-most-n, Else-most-n, After-distinct, Then-not-distinct}

abbrev region : After-scan_region → List ℕ
region c = region_bytes c.args.image.now c.args.region

abbrev most : After-scan_region → ℕ
most c = min (length c.args.places.now) component_limit

abbrev same : (c : After-scan_region) → c.bytes-r.result.now ≡ region (goal.at.After-scan_region c).After-scan_region
same c = c.bytes-r.ensures.result_value

-- what the pass leaves in the arrays
abbrev after : After-scan_region → List ℕ
after c = c.scan_region.new.places

abbrev digests : After-scan_region → List ℕ
digests c = c.scan_region.new.digests

-- what the pass says of the region's bytes
says : (c : After-scan_region) → let at = (goal.at.After-scan_region c).After-scan_region in
    Scanned (region at) c.args.region.align c.args.places.now (after at) (replicate component_limit 0) (digests at) c.scan_region.result
says c = passed_at (same (goal.at.After-scan_region c).After-scan_region) c.scan_region.ensures

-- where a place is untaken
open-at : (c : In-Err) → let at = (goal.at.In-Err c).After-scan_region in
    ((m : ℕ) → verdict m (region at) c.args.region.align ≡ check_refused 12 c.in-Err.place) × (c.in-Err.place < length (region at))
open-at c = (says (goal.at.In-Err c).After-scan_region).untaken c.in-Err.place c.in-Err.is

pub overflow_add-result : goal.overflow_add-result
overflow_add-result c =
    let h = (open-at (goal.at.overflow_add-result c).In-Err).1 in
    omega (arith, c.well_formed, h, bytes_inside c.args.image.now c.args.region c.in-Err.place h)

pub returns-in-Err-clause-value : goal.returns-in-Err-clause-value
returns-in-Err-clause-value c =
    let at = goal.at.returns-in-Err-clause-value c in
    refused_so c.args.region.start 12 c.in-Err.place ((open-at at.In-Err).0 (most at.After-scan_region)) refl

pub returns-in-Err-clause-stored : goal.returns-in-Err-clause-stored
returns-in-Err-clause-stored c =
    let at = goal.at.returns-in-Err-clause-stored c in
    refused_keeps _ _ 12 c.in-Err.place ((open-at at.In-Err).0 (most at.After-scan_region)) (omega arith)

-- where none is, and there are too many components
many : (c : Then-most-n) → let at = (goal.at.Then-most-n c).After-scan_region in verdict (most at) (region at) c.args.region.align ≡ check_refused 13 0
many c =
    let at = (goal.at.Then-most-n c).After-scan_region in
    refused_many (says at) c.in-Ok.n c.in-Ok.is (most at) (omega (arith, c.if-most-n.true, c.min-most.ensures))

pub returns-then-most-n-clause-value : goal.returns-then-most-n-clause-value
returns-then-most-n-clause-value c =
    let at = goal.at.returns-then-most-n-clause-value c in
    refused_so c.args.region.start 13 0 (many at.Then-most-n) c.refusal_by.ensures

pub returns-then-most-n-clause-stored : goal.returns-then-most-n-clause-stored
returns-then-most-n-clause-stored c =
    let at = goal.at.returns-then-most-n-clause-stored c in
    refused_keeps _ _ 13 0 (many at.Then-most-n) (omega arith)

few : (c : Else-most-n) → c.in-Ok.n ≤ most (goal.at.Else-most-n c).After-scan_region
few c = omega (arith, c.if-most-n.false, c.min-most.ensures)

pub invariant_of-names : goal.invariant_of-names
invariant_of-names c =
    let at = goal.at.invariant_of-names c in
    record { known = digests_are c.scan_region.ensures c.in-Ok.n c.in-Ok.is (most at.After-scan_region) (few at.Else-most-n) (omega arith) (omega arith) }

-- what the comparison of the names says
distinct-so : (c : After-distinct) → let at = (goal.at.After-distinct c).After-scan_region in
    distinct_names (plain_listing (region at) c.args.region.align) ≡ c.distinct.result
distinct-so c =
    let to = goal.at.After-distinct c in
    let at = to.After-scan_region in
    sym (c.distinct.ensures ∙ ap (λ (x : List ℕ). distinct_names_at x (take c.in-Ok.n (after at))) (same at)
    ∙ distinct_said (says at) c.in-Ok.n c.in-Ok.is (most at) (few to.Else-most-n) (omega arith))

alike : (c : Then-not-distinct) → let at = (goal.at.Then-not-distinct c).After-scan_region in
    verdict (most at) (region at) c.args.region.align ≡ check_refused 11 0
alike c =
    let to = goal.at.Then-not-distinct c in
    let at = to.After-scan_region in
    refused_same_name (says at) c.in-Ok.n c.in-Ok.is (most at) (few to.Else-most-n) (omega arith)
    (distinct-so to.After-distinct ∙ c.if-not-distinct.true)

pub returns-then-not-distinct-clause-value : goal.returns-then-not-distinct-clause-value
returns-then-not-distinct-clause-value c =
    let at = goal.at.returns-then-not-distinct-clause-value c in
    refused_so c.args.region.start 11 0 (alike at.Then-not-distinct) c.refusal_by-then-not-distinct.ensures

pub returns-then-not-distinct-clause-stored : goal.returns-then-not-distinct-clause-stored
returns-then-not-distinct-clause-stored c =
    let at = goal.at.returns-then-not-distinct-clause-stored c in
    refused_keeps _ _ 11 0 (alike at.Then-not-distinct) (omega arith)

pub returns-else-not-distinct-clause-value : goal.returns-else-not-distinct-clause-value
returns-else-not-distinct-clause-value c =
    let at = goal.at.returns-else-not-distinct-clause-value c in
    accepted_counted (says at.After-scan_region) c.in-Ok.n c.in-Ok.is (most at.After-scan_region) (few at.Else-most-n) (omega arith)
    (distinct-so at.After-distinct ∙ c.if-not-distinct.false) c.args.region.start

pub returns-else-not-distinct-clause-stored : goal.returns-else-not-distinct-clause-stored
returns-else-not-distinct-clause-stored c =
    let at = goal.at.returns-else-not-distinct-clause-stored c in
    accepted_stored (says at.After-scan_region) c.in-Ok.n c.in-Ok.is (most at.After-scan_region) (few at.Else-most-n) (omega arith)
    (distinct-so at.After-distinct ∙ c.if-not-distinct.false)

use Rattle.std.proofs.Common.{◌≡◌, ℕ, List, length, get_or, refl, sym, ap, ◌∙◌, arith, Ok}
use Rattle.region.specs.Region.{region_bytes}
use Rattle.region.proofs.Regions.{bytes_inside}
use Rattle.strict_rules.specs.Strict.{component_limit, Verdict, verdict}
use Rattle.strict_check.specs.StrictCheck.{zero_places, check_summary, stored_places}
use Rattle.strict_check.proofs.Answers.{count_fits_lem, place_inside, directory_from_start}
use Rattle.strict_check.proofs.check.Goals as goal
use Rattle.strict_check.proofs.check.Goals.{In_ok-count}

abbrev region : In_ok-count → List ℕ
region c = region_bytes c.args.image.now c.args.region

abbrev says : In_ok-count → Verdict
says c = verdict component_limit (region (goal.at.In_ok-count c).In_ok-count) c.args.region.align

-- what the check leaves in the array
stored : (c : In_ok-count) → c.check_into.new.places ≡ stored_places (zero_places component_limit) (says (goal.at.In_ok-count c).In_ok-count)
unfolding zero_places
stored c = c.check_into.ensures.stored

counted : (c : In_ok-count) → Ok c.in_ok-count.count ≡ check_summary c.args.region.start (says (goal.at.In_ok-count c).In_ok-count)
counted c = sym c.in_ok-count.was ∙ c.check_into.ensures.value

pub add_start-requires : goal.add_start-requires
add_start-requires c =
    let a = c.args in
    let at = (goal.at.add_start-requires c).In_ok-count in
    let r = region at in
    let n = c.in_ok-count.count in
    let places = stored_places (zero_places component_limit) (says at) in (
      omega (arith, ap length (stored at), count_fits_lem r a.region.align a.region.start n (says at) (counted at)),
      λ k h.
          let g : get_or c.check_into.new.places k 0 ≡ get_or places k 0 = ap (λ (x : List ℕ). get_or x k 0) (stored at) in
          let i = place_inside r a.region.align a.region.start n (says at) refl (counted at) k h in
          omega (arith, c.well_formed, i, g, bytes_inside a.image.now a.region (get_or places k 0) i),
    )

pub returns-clause-value : goal.returns-clause-value
returns-clause-value c =
    let a = c.args in
    let at = (goal.at.returns-clause-value c).In_ok-count in
    rw (c.add_start.ensures, stored at) (directory_from_start (region at) a.region.align a.region.start c.in_ok-count.count (says at) (counted at))

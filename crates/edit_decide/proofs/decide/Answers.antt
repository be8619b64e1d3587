use Prim.Native.Nat.{ℕ}
use mathlib.Core.Path.{◌≡◌, sym, ap, subst, ◌∙◌}
use mathlib.Core.List.{List}
use lib.ListN.{replicate, take, length-take}
use native.Mathlib.Omega.{arith}
use Rattle.region.specs.Region.{region_bytes}
use Rattle.strict_rules.specs.Strict.{component_limit, verdict}
use Rattle.edit_rules.specs.Edit.{Decision, after_check}
use Rattle.edit_decide.specs.Choices.{ListedPlaces, accepted_decision, kind_for, choice, choice_of, decided}
use Rattle.edit_decide.specs.Choices.{Choice}
use Rattle.edit_decide.proofs.Choices.{decided_so, checked_refused, checked_fine, checked_fits, checked_places}
use borrow.Author.Rules.{rules}
use Rattle.edit_decide.proofs.decide.Goals as goal
use Rattle.edit_decide.proofs.decide.Goals.{After-check_into, In_ok-n}

abbrev region : After-check_into → List ℕ
region c = region_bytes c.args.image.now c.args.region

abbrev own : After-check_into → Decision
own c = let a = c.args in accepted_decision a.edit (region (goal.at.After-check_into c).After-check_into) a.region.align a.name.now a.kind a.content.now

abbrev kind : After-check_into → ℕ
kind c = let a = c.args in kind_for a.edit (region (goal.at.After-check_into c).After-check_into) a.region.align a.name.now a.kind

whole : (c : After-check_into) → let a = c.args in
    choice a.region.start (kind (goal.at.After-check_into c).After-check_into)
    (after_check (verdict component_limit (region (goal.at.After-check_into c).After-check_into) a.region.align)
    (own (goal.at.After-check_into c).After-check_into))
    ≡ decided a.edit a.image.now a.region a.name.now a.kind a.content.now
whole c = let a = c.args in decided_so a.edit a.image.now a.region a.name.now a.kind a.content.now

-- what the check leaves in the array, and the part of it that is lent to the choice
abbrev after : After-check_into → List ℕ
after c = c.check_into.new.places

abbrev lent : In_ok-n → List ℕ
lent c = take c.in_ok-n.n (after (goal.at.In_ok-n c).After-check_into)

pub returns-in_err-n : goal.returns-in_err-n
returns-in_err-n c =
    let a = c.args in
    let at = (goal.at.returns-in_err-n c).After-check_into in
    let f = checked_refused (region at) a.region.align a.region.start (kind at) (own at) c.check_into.result c.check_into.ensures.value _ c.in_err-n.was
    ∙ whole at in
    search (rules, f)

pub slice_bounds-choose-end : goal.slice_bounds-choose-end
slice_bounds-choose-end c =
    let a = c.args in
    let at = (goal.at.slice_bounds-choose-end c).After-check_into in
    let fits = checked_fits (region at) a.region.align a.region.start (kind at) (own at) c.check_into.result c.check_into.ensures.value c.in_ok-n.n
    c.in_ok-n.was
    (replicate 1024 0) c.check_into.ensures.stored in
    omega (arith, fits, length-take c.in_ok-n.n (after at))

-- the places that were stored are those of the components
directed : (c : In_ok-n) → let at = (goal.at.In_ok-n c).After-check_into in
    ListedPlaces (region at) c.args.region.align (take c.in_ok-n.n (after at))
directed c =
    let a = c.args in
    let at = (goal.at.In_ok-n c).After-check_into in
    checked_places (region at) a.region.align a.region.start (kind at) (own at) c.check_into.result c.check_into.ensures.value c.in_ok-n.n c.in_ok-n.was
    (replicate 1024 0) c.check_into.ensures.stored

pub choose-requires : goal.choose-requires
choose-requires c =
    let at = goal.at.choose-requires c in
    subst (λ (x : List ℕ). ListedPlaces x c.args.region.align (lent at.In_ok-n)) (sym c.bytes-r.ensures.result_value) (directed at.In_ok-n)

pub returns : goal.returns
returns c =
    let a = c.args in
    let at = (goal.at.returns c).After-check_into in
    let f = checked_fine (region at) a.region.align a.region.start (kind at) (own at) c.check_into.result c.check_into.ensures.value c.in_ok-n.n c.in_ok-n.was
    in
    let on : List ℕ → Choice = λ x. choice_of a.edit a.region.start x a.region.align a.name.now a.kind a.content.now in
    c.choose.ensures a.region.start ∙ ap on c.bytes-r.ensures.result_value ∙ sym (ap (choice a.region.start (kind at)) f) ∙ whole at

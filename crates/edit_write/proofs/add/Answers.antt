use mathlib.Core.Path.{sym, ◌∙◌}
use native.Mathlib.Omega.{arith}
use Rattle.region.specs.Region.{region_bytes}
use Rattle.strict_rules.specs.Strict.{component_limit}
use Rattle.edit_rules.specs.Edit.{add, add_decision}
use Rattle.edit_write.specs.EditWrite.{add_in}
use Rattle.edit_write.proofs.Writing.{edit_refused_lem}
use Rattle.edit_write.proofs.Writes.{WritesComponent, add_writes}
use borrow.Author.Rules.{rules}
use Rattle.edit_write.proofs.add.Goals as goal
use Rattle.edit_write.proofs.add.Goals.{In_ok-z}

says : (c : In_ok-z) → let a = c.args in
    WritesComponent a.image.now a.region a.name.now a.content.now c.in_ok-z.z
    (add_in a.image.now a.region a.name.now a.kind a.content.now)
says c = let a = c.args in
    add_writes a.image.now a.region a.name.now a.kind a.content.now c.in_ok-z.z
    (sym c.add.ensures.value ∙ c.in_ok-z.was)

pub write_component_at-requires : goal.write_component_at-requires
write_component_at-requires c = let p = says (goal.at.write_component_at-requires c).In_ok-z in (p.short, p.len-fits, p.fits, p.inside)

pub overflow_add-result : goal.overflow_add-result
overflow_add-result c =
    let p = says (goal.at.overflow_add-result c).In_ok-z in
    omega (arith, p.inside, p.fits)

pub returns-in_err-z-clause-value : goal.returns-in_err-z-clause-value
unfolding add
returns-in_err-z-clause-value c =
    let a = c.args in
    let e =
    edit_refused_lem a.image.now a.region
    (add_decision component_limit (region_bytes a.image.now a.region) a.region.align a.name.now a.kind a.content.now) a.kind
    _ (sym c.add.ensures.value ∙ c.in_err-z.was) in
    let f = e.0 in search (rules, f)

pub returns-in_err-z-clause-bytes : goal.returns-in_err-z-clause-bytes
unfolding add
returns-in_err-z-clause-bytes c =
    let a = c.args in
    let e =
    edit_refused_lem a.image.now a.region
    (add_decision component_limit (region_bytes a.image.now a.region) a.region.align a.name.now a.kind a.content.now) a.kind
    _ (sym c.add.ensures.value ∙ c.in_err-z.was) in
    e.1

pub returns-clause-value : goal.returns-clause-value
returns-clause-value c =
    let p = says (goal.at.returns-clause-value c).In_ok-z in
    p.answer

pub returns-clause-bytes : goal.returns-clause-bytes
returns-clause-bytes c =
    let p = says (goal.at.returns-clause-bytes c).In_ok-z in
    c.write_component_at.ensures ∙ p.bytes

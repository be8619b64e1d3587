use Rattle.std.proofs.Common.{refl, sym, ◌∙◌, arith}
use Rattle.strict_check.specs.StrictCheck.{has_name}
use Rattle.strict_check.proofs.Names.{any_here, any_on, any_end}
use Rattle.strict_check.proofs.NameTable.any_named.Goals as goal

pub loop-k-init : goal.loop-k-init
loop-k-init c = refl

pub has_name-requires : goal.has_name-requires
has_name-requires c = (c.args.self.now.known.each c.loop-k.k (omega arith), c.requires.1)

pub returns-then-has_name : goal.returns-then-has_name
returns-then-has_name c =
    let a = c.args in
    let t = a.self.now in
    let borne = sym c.has_name.ensures ∙ c.if-has_name.true in
    sym (c.loop-k.invariant ∙ any_here (has_name t.r.now a.name.now) t.places.now c.loop-k.k t.count (omega arith) t.known.stored borne)

pub loop-k-preserved : goal.loop-k-preserved
loop-k-preserved c =
    let a = c.args in
    let t = a.self.now in
    let other = sym c.has_name.ensures ∙ c.if-has_name.false in
    c.loop-k.invariant ∙ any_on (has_name t.r.now a.name.now) t.places.now c.loop-k.k t.count (omega arith) t.known.stored other

pub returns : goal.returns
returns c =
    let t = c.args.self.now in
    sym (c.loop-k.invariant ∙ any_end (has_name t.r.now c.args.name.now) t.places.now c.loop-k.k t.count (omega arith))

use Rattle.std.proofs.Common.{◌+◌, ◌-◌, get_or, sym, ◌∙◌, arith}
use Rattle.strict_check.specs.StrictCheck.{name_by_numbers}
use Rattle.strict_check.proofs.Names.{none_shared}
use Rattle.strict_check.proofs.Marks.{all_marked, none_marked}
use Rattle.strict_check.proofs.NameTable.repeated_after.Goals as goal

pub name_among-requires : goal.name_among-requires
name_among-requires c = (omega arith, c.args.self.now.known.each c.args.i c.requires.0)

-- A digest that is not marked yet is none of the later ones.
pub returns-else-mark_digest-clause-value : goal.returns-else-mark_digest-clause-value
returns-else-mark_digest-clause-value c =
    let a = c.args in
    let t = a.self.now in
    let (less, long, noted) = c.requires in
    let asked = get_or t.digests.now a.i 0 in
    let unmarked = c.mark_digest.ensures.unmarked c.if-mark_digest.false in
    let none = none_marked a.marks.now t.digests.now asked t.count t.known.taken unmarked (t.count - (a.i + 1)) (a.i + 1) (omega arith) noted in
    let name = name_by_numbers t.r.now (get_or t.places.now a.i 0) in
    c.if-mark_digest.false ∙ sym
    (none_shared t.r.now t.places.now t.digests.now name (a.i + 1) t.count asked (omega arith) t.known (t.known.each a.i less) none)

pub returns-then-mark_digest-clause-marked : goal.returns-then-mark_digest-clause-marked
returns-then-mark_digest-clause-marked c =
    let t = c.args.self.now in
    all_marked t.digests.now c.args.i t.count c.mark_digest.ensures c.requires.2

pub returns-else-mark_digest-clause-marked : goal.returns-else-mark_digest-clause-marked
returns-else-mark_digest-clause-marked c =
    let t = c.args.self.now in
    all_marked t.digests.now c.args.i t.count c.mark_digest.ensures c.requires.2

use Rattle.std.proofs.Common.{List, ℕ, ◌-◌, take, drop, sym, ap, ◌∙◌}
use Rattle.bytes_read.specs.Lists.{any}
use Rattle.strict_check.specs.StrictCheck.{name_by_numbers, digest_of, has_name}
use Rattle.strict_check.proofs.Names.{none_shared}
use Rattle.strict_check.proofs.NameTable.name_among.Goals as goal

pub any_named-requires : goal.any_named-requires
any_named-requires c = (c.requires.0, c.requires.1 ∙ ap digest_of (sym c.name_at_by_numbers.ensures))

pub returns-then-digest_among : goal.returns-then-digest_among
returns-then-digest_among c =
    let a = c.args in
    let t = a.self.now in
    c.any_named.ensures ∙ ap (λ (x : List ℕ). any (has_name t.r.now x) (take (t.count - a.from) (drop a.from t.places.now))) c.name_at_by_numbers.ensures

-- Where no digest agrees, no name does.
pub returns-else-digest_among : goal.returns-else-digest_among
returns-else-digest_among c =
    let a = c.args in
    let t = a.self.now in
    let none = sym c.digest_among.ensures ∙ c.if-digest_among.false in
    c.if-digest_among.false ∙ sym
    (none_shared t.r.now t.places.now t.digests.now (name_by_numbers t.r.now a.p) a.from t.count a.asked c.requires.0 t.known c.requires.1 none)

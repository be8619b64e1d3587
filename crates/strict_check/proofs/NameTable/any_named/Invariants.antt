use Rattle.std.specs.Prelude.{◌≡◌, ◌-◌, take, drop}
use Rattle.bytes_read.specs.Lists.{any}
use Rattle.strict_check.specs.StrictCheck.{has_name}
use Rattle.strict_check.proofs.NameTable.any_named.Given as goal

abbrev pub invariant-loop-k : goal.invariant-loop-k
invariant-loop-k l =
    let t = l.self in
    any (has_name t.r.now l.name) (take (t.count - l.from) (drop l.from t.places.now)) ≡ any (has_name t.r.now l.name)
    (take (t.count - l.k) (drop l.k t.places.now))

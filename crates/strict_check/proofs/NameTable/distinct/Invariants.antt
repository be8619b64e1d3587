use Rattle.std.specs.Prelude.{◌≡◌, ◌-◌, length, take, drop, true}
use Rattle.strict_check.specs.StrictCheck.{distinct_names_at, AllMarked}
use Rattle.strict_check.proofs.NameTable.distinct.Given as goal

-- No two from i on have the same name, and their digests are marked.
abbrev pub invariant-loop-i : goal.invariant-loop-i
invariant-loop-i l =
    let t = l.self in
    (length l.marks ≡ 2048) × AllMarked l.marks t.digests.now l.i t.count × (distinct_names_at t.r.now (take (t.count - l.i) (drop l.i t.places.now)) ≡ true)

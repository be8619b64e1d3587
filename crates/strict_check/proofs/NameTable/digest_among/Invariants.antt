use Rattle.std.specs.Prelude.{◌≡◌, take}
use Rattle.strict_check.proofs.Names.{among}
use Rattle.strict_check.proofs.NameTable.digest_among.Given as goal

abbrev pub invariant-loop-d : goal.invariant-loop-d
invariant-loop-d l = l.found ≡ among l.asked (take l.d-index l.d-items)

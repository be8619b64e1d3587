use Rattle.std.proofs.Common.{◌≡◌, ◌+◌, ◌-◌, refl, sym, rules, ◌∙◌, arith}
use native.Mathlib.Nat.{sub-zero}
use Rattle.strict_check.proofs.Names.{distinct_not, distinct_on, distinct_end, distinct_before}
use Rattle.strict_check.proofs.NameTable.distinct.Goals as goal

pub loop-i-init : goal.loop-i-init
loop-i-init c =
    let t = c.args.self.now in
    (refl, (λ k l h. absurd (omega arith)), distinct_end t.r.now t.places.now t.count t.count (omega arith))

pub repeated_after-requires : goal.repeated_after-requires
repeated_after-requires c = (omega arith, c.loop-i.invariant.0, λ k h m. c.loop-i.invariant.1 k (omega arith) m)

pub returns-then-repeated_after : goal.returns-then-repeated_after
returns-then-repeated_after c =
    let t = c.args.self.now in
    let j = c.loop-i.i - 1 in
    let two = distinct_not t.r.now t.places.now j t.count (omega arith) t.known.stored (sym c.repeated_after.ensures.value ∙ c.if-repeated_after.true) in
    sym (distinct_before t.r.now t.places.now t.count t.known.stored j (omega arith) two)

pub loop-i-preserved : goal.loop-i-preserved
loop-i-preserved c =
    let t = c.args.self.now in
    let j = c.loop-i.i - 1 in
    let e : j + 1 ≡ c.loop-i.i = omega arith in
    let on = distinct_on t.r.now t.places.now j t.count (omega arith) t.known.stored (sym c.repeated_after.ensures.value ∙ c.if-repeated_after.false) in
    (search rules, c.repeated_after.ensures.marked, on ∙ rw e c.loop-i.invariant.2)

pub returns : goal.returns
returns c =
    let z : c.loop-i.i ≡ 0 = omega arith in
    sym (rw (z, sub-zero) at c.loop-i.invariant.2)

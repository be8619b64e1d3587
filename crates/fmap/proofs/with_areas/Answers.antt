use Rattle.std.proofs.Common.{◌+◌, ◌*◌, arith, refl}
use Rattle.fmap.proofs.Counting.{padded_start, padded-next}
use Rattle.fmap.proofs.with_areas.Goals as goal

pub loop-i-init : goal.loop-i-init
loop-i-init c = padded_start _ _ c.unused_area-all.ensures

pub loop-i-preserved : goal.loop-i-preserved
loop-i-preserved c =
    let a = c.args.h.areas in
    padded-next a.s.now a.from c.loop-i.i (a.from + 42 * c.loop-i.i) (omega arith) refl c.loop-i.invariant c.at.ensures.value (omega (arith, a.inside))

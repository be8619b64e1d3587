use Rattle.std.proofs.Common.{arith, sym, ap, Ok, ◌∙◌}
use Rattle.bench_calls.proofs.Stepping.{count_start, count_on, count_few}
use Rattle.bench_calls.proofs.count_steps.Goals as goal

pub loop-t-init : goal.loop-t-init
loop-t-init c = count_start c.args.guarded c.args.image.now c.args.region c.requires

-- A step that took a component: it was not yet counted.
pub overflow_add-n : goal.overflow_add-n
overflow_add-n c =
    let a = c.args in
    let on = count_on _ (sym c.step_in.ensures.value ∙ c.in-Ok-Some.is ∙ ap Ok c.in-Ok-Some.field-0-is) c.loop-t.invariant in
    omega (arith, on.0, count_few a.guarded a.image.now a.region c.requires)

use Prim.Native.Nat.{ℕ, ◌+◌, ◌≤◌, ◌<◌}
use mathlib.Core.Path.{◌≡◌, sym, ap, ◌∙◌}
use mathlib.Core.Bool.{Bool, true, false, cond}
use native.Mathlib.Omega.{arith}
use mathlib.Core.List.{List}
use lib.ListN.{length, drop, set}
use Rattle.bytes_read.specs.Bytes.{part_of}
use Rattle.component.specs.Component.{judge_skipping_sum, judge, judged}
use Rattle.std.specs.Prelude.{Some, None}
use Rattle.walk.proofs.Stepping.{unsummed_said, unsummed_header_fits, summed_said, ill_said}
use Rattle.strict_check.specs.StrictCheck.{digest_of}
use Rattle.strict_check.proofs.Scans.{scan_start, scan_at_most, scan_end, untaken_at, none_untaken_lem, scan_ill, scan_inside, scan_on, scan_later}
use Rattle.strict_check.proofs.scan_region.Goals as goal
use Rattle.strict_check.proofs.scan_region.Goals.{After-checksum_matches, After-judge_numbers, After-shared_slice_known-1, Else-not-checksum_matches, In-Some}

pub loop-p-init : goal.loop-p-init
loop-p-init c =
    let a = c.args in
    scan_start a.r.now a.align a.places.now a.digests.now c.next_magic-p.result c.next_magic-p.ensures.value

inside : (c : After-judge_numbers) → c.loop-p.p < length c.args.r.now
inside c = c.loop-p-test.true

-- what the judge says of the part from p on
said : (c : After-judge_numbers)
    → judged (judge_skipping_sum (drop c.loop-p.p c.args.r.now)) ≡ c.judge_numbers.result
said c = unsummed_said c.args.r.now c.loop-p.p (c.loop-p.invariant.checked.found (inside (goal.at.After-judge_numbers c).After-judge_numbers)).2
    c.judge_numbers.ensures.value

header : (c : In-Some) →
    judged (judge_skipping_sum (drop c.loop-p.p c.args.r.now)) ≡ Some c.in-Some.h
header c = said (goal.at.In-Some c).After-judge_numbers ∙ c.in-Some.is

fits : (c : In-Some) → let h = c.in-Some.h in
    (40 ≤ h.offset) × (c.loop-p.p + (h.offset + h.len) ≤ length c.args.r.now)
fits c = unsummed_header_fits _ c.loop-p.p _ (inside (goal.at.In-Some c).After-judge_numbers) (header (goal.at.In-Some c).In-Some)

pub overflow_add-e : goal.overflow_add-e
overflow_add-e c = omega (arith, fits (goal.at.overflow_add-e c).In-Some)

pub overflow_add-e-in-loop-p : goal.overflow_add-e-in-loop-p
overflow_add-e-in-loop-p c = omega (arith, fits (goal.at.overflow_add-e-in-loop-p c).In-Some)

pub slice_bounds-checksum_matches-end : goal.slice_bounds-checksum_matches-end
slice_bounds-checksum_matches-end c = omega (arith, fits (goal.at.slice_bounds-checksum_matches-end c).In-Some)

-- what the sum leaves of what the judge says
judged-by : (c : After-checksum_matches) →
    (b : Bool) → c.checksum_matches.result ≡ b
    → judged (judge (drop c.loop-p.p c.args.r.now)) ≡ cond b (Some c.in-Some.h) None
judged-by c b e =
    summed_said c.args.r.now c.loop-p.p _ b (c.loop-p.invariant.checked.found (inside (goal.at.After-checksum_matches c).After-judge_numbers)).2
    (header (goal.at.After-checksum_matches c).In-Some) (sym c.checksum_matches.ensures.value ∙ e)

well : (c : Else-not-checksum_matches) →
    judged (judge (drop c.loop-p.p c.args.r.now)) ≡ Some c.in-Some.h
well c = judged-by (goal.at.Else-not-checksum_matches c).After-checksum_matches true c.if-not-checksum_matches.false

pub returns-then-not-checksum_matches : goal.returns-then-not-checksum_matches
returns-then-not-checksum_matches c =
    let at = goal.at.returns-then-not-checksum_matches c in
    let b = scan_ill c.loop-p.invariant (inside at.After-judge_numbers) (judged-by at.After-checksum_matches false c.if-not-checksum_matches.true) in
    untaken_at (b, inside at.After-judge_numbers)

pub returns-then-q-e : goal.returns-then-q-e
returns-then-q-e c =
    let at = goal.at.returns-then-q-e c in
    untaken_at (scan_inside c.loop-p.invariant (inside at.After-judge_numbers) (well at.Else-not-checksum_matches) c.next_magic_after-q.result
    c.next_magic_after-q.ensures.value c.if-q-e.true)

pub overflow_add-n : goal.overflow_add-n
overflow_add-n c =
    let a = c.args in
    omega (arith, scan_at_most c.loop-p.invariant, inside (goal.at.overflow_add-n c).After-judge_numbers, (goal.at.overflow_add-n c).After-shared_slice_known-1)

pub loop-p-smaller : goal.loop-p-smaller
loop-p-smaller c =
    let a = c.args in
    let later = scan_later c.loop-p.invariant (inside (goal.at.loop-p-smaller c).After-judge_numbers)
    (well (goal.at.loop-p-smaller c).Else-not-checksum_matches) c.next_place.result c.next_magic-p-in-loop-p.result in
    omega (arith, inside (goal.at.loop-p-smaller c).After-judge_numbers, later c.next_place.ensures.value c.next_magic-p-in-loop-p.ensures.value)

pub loop-p-preserved : goal.loop-p-preserved
loop-p-preserved c =
    let a = c.args in
    let on = scan_on c.loop-p.invariant (inside (goal.at.loop-p-preserved c).After-judge_numbers)
    (well (goal.at.loop-p-preserved c).Else-not-checksum_matches) c.next_magic_after-q.result c.next_place.result c.next_magic-p-in-loop-p.result _ _ in
    let name = c.part.ensures.result_value ∙ ap (λ (x : List ℕ). part_of x 24 c.in-Some.h.namelen) c.rest.ensures.result_value in
    let digest = c.store_digest.ensures ∙ ap (λ (x : List ℕ). set c.loop-p.digests c.loop-p.n (digest_of x)) name in
    on c.next_magic_after-q.ensures.value c.if-q-e.false c.next_place.ensures.value c.next_magic-p-in-loop-p.ensures.value c.store_at.ensures digest

pub returns-in_default : goal.returns-in_default
returns-in_default c =
    let at = goal.at.returns-in_default c in
    untaken_at (
      scan_ill c.loop-p.invariant (inside at.After-judge_numbers) (ill_said _ c.loop-p.p (said at.After-judge_numbers ∙ c.in_default.is)),
      inside
          at.After-judge_numbers,
    )

pub returns : goal.returns
returns c = none_untaken_lem (scan_end c.loop-p.invariant c.loop-p-test.false)

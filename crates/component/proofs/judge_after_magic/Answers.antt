use Rattle.std.specs.Prelude.{◌≡◌, ◌+◌, ◌≤◌, length, take, Some}
use Rattle.std.proofs.Common.{sym, ap, ◌∙◌, arith, rules}
use Rattle.component.specs.Sums.{checksum_matches}
use Rattle.component.specs.Component.{judge_numbers, judged}
use Rattle.component.proofs.Judging.{unsummed_header, ill_unsummed, header_summed}
use Rattle.component.proofs.judge_after_magic.Goals as goal
use Rattle.component.proofs.judge_after_magic.Goals.{After-checksum_matches, In_ok-h}

said : (c : In_ok-h) → judged (judge_numbers c.args.s.now) ≡ Some c.in_ok-h.h
said c = sym c.judge_numbers.ensures.value ∙ c.in_ok-h.was

fits : (c : In_ok-h) → (40 ≤ c.in_ok-h.h.offset) × (c.in_ok-h.h.offset + c.in_ok-h.h.len ≤ length c.args.s.now)
fits c = unsummed_header c.args.s.now _ (said (goal.at.In_ok-h c).In_ok-h)

-- what the sum says
summed : (c : After-checksum_matches) →
    checksum_matches (take (c.in_ok-h.h.offset + c.in_ok-h.h.len) c.args.s.now) ≡ c.checksum_matches.result
summed c = sym c.checksum_matches.ensures.value

pub overflow_add-n : goal.overflow_add-n
overflow_add-n c = omega (arith, fits (goal.at.overflow_add-n c).In_ok-h)

pub slice_bounds-checksum_matches-end : goal.slice_bounds-checksum_matches-end
slice_bounds-checksum_matches-end c = let f = fits (goal.at.slice_bounds-checksum_matches-end c).In_ok-h in search rules

pub returns-then-checksum_matches-clause-value : goal.returns-then-checksum_matches-clause-value
returns-then-checksum_matches-clause-value c =
    let at = goal.at.returns-then-checksum_matches-clause-value c in
    sym (header_summed c.args.s.now _ _ (said at.In_ok-h) (summed at.After-checksum_matches ∙ c.if-checksum_matches.true))

pub returns-in_err-h-clause-value : goal.returns-in_err-h-clause-value
returns-in_err-h-clause-value c =
    c.from_residual.ensures ∙ sym (ap judged (ill_unsummed c.args.s.now (sym c.judge_numbers.ensures.value ∙ c.in_err-h.was)))

pub returns-clause-value : goal.returns-clause-value
returns-clause-value c =
    let at = goal.at.returns-clause-value c in
    sym (header_summed c.args.s.now _ _ (said at.In_ok-h) (summed at.After-checksum_matches ∙ c.if-checksum_matches.false))

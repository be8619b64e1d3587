use Rattle.std.proofs.Common.{arith}
use Rattle.std.proofs.lemmas.Result.{err_from_is_err_and}
use Rattle.fmap.proofs.Reading.{HeaderPassed, header_refused, header_is, each_area_refused, all_areas_refused, map_read}
use Rattle.fmap.proofs.map_header_at.Goals as goal
use Rattle.fmap.proofs.map_header_at.Goals.{In_ok-check_header}

-- what is known of a header that is not refused
head : (c : In_ok-check_header) → HeaderPassed c.args.s.now c.args.at c.args.size
head c = header_is c.args.s.now c.args.at c.args.size c.in_ok-check_header.ensures

pub returns-in_err-check_header : goal.returns-in_err-check_header
returns-in_err-check_header c =
    let p = err_from_is_err_and c.from_residual.result c.from_residual.ensures.1 in
    rw (p.1, p.2) (header_refused c.args.s.now c.args.at c.args.size c.in_err-check_header.ensures)

pub overflow_add-areas : goal.overflow_add-areas
overflow_add-areas c = omega (arith, (head (goal.at.overflow_add-areas c).In_ok-check_header).within)

pub overflow_add-at : goal.overflow_add-at
overflow_add-at c = omega (arith, (head (goal.at.overflow_add-at c).In_ok-check_header).within)

pub invariant_of-areas : goal.invariant_of-areas
invariant_of-areas c =
    record { inside = omega (arith, (head (goal.at.invariant_of-areas c).In_ok-check_header).within, c.le16.ensures.value) }

pub returns-in_err-check_each_area : goal.returns-in_err-check_each_area
returns-in_err-check_each_area c =
    let a = c.args in
    let p = err_from_is_err_and c.from_residual-in_err-check_each_area.result c.from_residual-in_err-check_each_area.ensures.1 in
    rw (p.1, p.2) (each_area_refused a.s.now a.at a.size c.in_ok-check_header.ensures c.le16.ensures.value c.in_err-check_each_area.ensures)

pub returns-in_err-check_all_areas : goal.returns-in_err-check_all_areas
returns-in_err-check_all_areas c =
    let a = c.args in
    let p = err_from_is_err_and c.from_residual-in_err-check_all_areas.result c.from_residual-in_err-check_all_areas.ensures.1 in
    rw (p.1, p.2) (all_areas_refused a.s.now a.at a.size c.in_ok-check_header.ensures c.le16.ensures.value
    c.in_ok-check_each_area.ensures c.in_err-check_all_areas.ensures)

pub returns : goal.returns
returns c =
    let a = c.args in (
      omega (arith, (head (goal.at.returns c).In_ok-check_header).no_more, c.le16.ensures.value),
      map_read a.s.now a.at a.size c.in_ok-check_header.ensures c.le16.ensures.value c.in_ok-check_each_area.ensures
          c.in_ok-check_all_areas.ensures c.byte.ensures.value c.le64.ensures.value,
    )

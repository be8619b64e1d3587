use Rattle.std.proofs.Common.{◌≡◌, true, sym, ◌∙◌}
use Rattle.std.proofs.lemmas.Result.{err_from_is_err_and}
use Rattle.region.specs.Refusals.{length_fits}
use Rattle.fmap.proofs.Reading.{unfit_length, not_one_signature, one_signature}
use Rattle.fmap.proofs.map_header_of.Goals as goal
use Rattle.fmap.proofs.map_header_of.Goals.{Else-not-length_fits}

-- the image's length fits
fits : (c : Else-not-length_fits) → length_fits c.args.image.now ≡ true
fits c = sym c.length_fits.ensures.value ∙ c.if-not-length_fits.false

pub returns-then-not-length_fits : goal.returns-then-not-length_fits
returns-then-not-length_fits c =
    rw c.refusal_by.ensures (unfit_length c.args.image.now (sym c.length_fits.ensures.value ∙ c.if-not-length_fits.true))

pub returns-in_err-at : goal.returns-in_err-at
returns-in_err-at c =
    let p = err_from_is_err_and c.from_residual.result c.from_residual.ensures.1 in
    rw (p.1, p.2) (not_one_signature c.args.image.now (fits (goal.at.returns-in_err-at c).Else-not-length_fits) c.in_err-at.ensures.value)

pub returns : goal.returns
returns c = rw (one_signature c.args.image.now (fits (goal.at.returns c).Else-not-length_fits) c.in_ok-at.ensures.value) c.map_header_at.ensures

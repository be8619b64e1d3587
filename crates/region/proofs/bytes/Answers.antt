use Rattle.region.specs.Region.{region_bytes}
use Rattle.region.proofs.Regions.{bytes_backward}
use Rattle.region.proofs.bytes.Goals as goal

pub returns-then-region-clause-result_value : goal.returns-then-region-clause-result_value
returns-then-region-clause-result_value c =
    bytes_backward c.args.image.now c.args.region c.if-region.true

pub returns-clause-result_value : goal.returns-clause-result_value
unfolding region_bytes
returns-clause-result_value c = c.part.ensures.result_value

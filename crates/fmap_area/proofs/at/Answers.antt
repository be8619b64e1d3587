use native.Mathlib.Omega.{arith}
use Rattle.fmap_area.proofs.Records.{record_cut}
use Rattle.fmap_area.proofs.at.Goals as goal

pub returns-clause-value : goal.returns-clause-value
returns-clause-value c =
    record_cut c.args.s.now c.args.p (omega (arith, c.if-s-lt-FMAP_AREA_LEN.false, c.if-s-p.false)) c.le32.ensures.value c.le32-2.ensures.value c.le16.ensures.value

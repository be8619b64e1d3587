use Rattle.fmap_signature.specs.Signatures.{signature}
use Rattle.fmap_signature.proofs.Searching.{signature_eight}
use Rattle.fmap_signature.proofs.signature_at.Goals as goal

pub returns : goal.returns
unfolding signature
returns c = signature_eight c.args.s.now c.args.p c.starts_with.ensures.value

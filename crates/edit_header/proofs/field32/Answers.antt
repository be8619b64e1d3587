use Rattle.edit_header.proofs.Headers.{low_bytes}
use Rattle.edit_header.proofs.field32.Goals as goal

pub returns : goal.returns
returns c = low_bytes c.args.n

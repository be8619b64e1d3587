use Rattle.std.proofs.Common.{rules}
use borrow.Author.Tests.{tests}
use Rattle.fmap_area.specs.Area.{same_name}
use Rattle.fmap.proofs.Taking.{any_left}
use Rattle.fmap.proofs.name_used.Goals as goal

pub returns : goal.returns
returns c = any_left (same_name c.args.s.now c.args.a) c.args.areas c.any.new.self _ _ c.any.ensures.ran (λ x b h k. search (rules, tests))

use Rattle.std.proofs.Common.{rules}
use borrow.Author.Tests.{tests}
use Rattle.fmap_area.specs.Area.{cross}
use Rattle.fmap.proofs.Taking.{any_left}
use Rattle.fmap.proofs.crossed.Goals as goal

pub returns : goal.returns
returns c = any_left (cross c.args.a) c.args.areas c.any.new.self _ _ c.any.ensures.ran (λ x b h k. search (rules, tests))

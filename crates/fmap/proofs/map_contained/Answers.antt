use Rattle.std.proofs.Common.{rules}
use borrow.Author.Tests.{tests}
use Rattle.fmap_area.specs.Area.{contains_map}
use Rattle.fmap.proofs.Taking.{any_left}
use Rattle.fmap.proofs.map_contained.Goals as goal

pub returns : goal.returns
returns c = any_left (contains_map c.args.areas.s.now c.args.at c.args.end) c.args.areas c.any.new.self _ _ c.any.ensures.ran (λ x b h k. search (rules, tests))

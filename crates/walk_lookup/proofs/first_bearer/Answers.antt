use Rattle.std.proofs.Common.{rules, tests, sym, refl, ◌∙◌, List}
use Rattle.std.specs.Iterator.{YieldsFirst}
use Rattle.std.proofs.lemmas.Iterator.{YieldsList}
use Rattle.std.proofs.lemmas.Iterator.Consumers.{YieldsList-from_first}
use Rattle.std.proofs.lemmas.Iterator.Adapters.{serves_from_places, option_map_id}
use Rattle.std.proofs.lemmas.Iterator.Search.{find_from_yields_List}
use Rattle.walk_lookup.specs.Lookup.{taken_from, bears_by}
use Rattle.cbfs_types.specs.declared.Taken.{Taken}
use Rattle.walk_lookup.specs.declared.components.Components.{Components}
use Rattle.walk_lookup.proofs.Lookups.{taken_fits}
use Rattle.walk_lookup.proofs.first_bearer.Goals as goal

abbrev left : Components → List Taken
left w = taken_from w.guarded w.r.now w.align w.from

-- the iterator gives the list
listed : (w : Components) → YieldsList (YieldsFirst left) (λ x. x) w (left w)
listed w = YieldsList-from_first (λ x. x) left (left w) refl

pub find-requires-clause-callable : goal.find-requires-clause-callable
find-requires-clause-callable c =
    let a = c.args in
    serves_from_places (listed _) (λ x q k. search (rules, tests))
    (λ x k l e. search (rules, taken_fits a.guarded a.r.now a.align a.from k x l e))

pub returns : goal.returns
returns c =
    let a = c.args in
    sym (option_map_id c.find.result)
    ∙ find_from_yields_List (bears_by a.guarded a.r.now a.name.now) c.find.new.self _ c.find.result c.find.ensures.ran (listed _)
    (λ x b q k. search (rules, tests))

use Rattle.std.proofs.Common.{length, get_or, refl, sym, ◌∙◌, arith, rules, tests}
use Rattle.std.proofs.lemmas.Iterator.{YieldsList-from_range, YieldsList-from_map}
use Rattle.std.proofs.lemmas.Iterator.Adapters.{option_map_id}
use Rattle.std.proofs.lemmas.Iterator.Consumers.{YieldsList-at}
use Rattle.std.proofs.lemmas.Iterator.Search.{find_from_yields_List}
use Rattle.plan.specs.Legs.{no_leg}
use Rattle.plan.specs.Words.{plan_in}
use Rattle.journey.proofs.Naming.{named, find_by_place}
use Rattle.journey.proofs.checking.find_leg.Goals as goal

pub returns : goal.returns
returns c =
    let ls = (plan_in c.args.table.words.now).legs in
    sym (option_map_id _)
    ∙ find_from_yields_List (named c.args.name) _ _ c.find.result c.find.ensures.ran
    (YieldsList-from_map _ (λ i. get_or ls i no_leg)
    (YieldsList-at c.map.ensures.source (YieldsList-from_range 0 c.legs.result (length ls) refl (omega arith)))
    c.map.ensures.closure (λ x r q k. search rules))
    (λ x b q k. search (rules, tests))
    ∙ find_by_place c.args.name ls

use Rattle.std.proofs.Common.{length, get_or, refl, ◌∙◌, arith, rules, tests}
use Rattle.std.proofs.lemmas.Iterator.{YieldsList-from_range}
use Rattle.std.proofs.lemmas.Iterator.Search.{any_from_yields_List}
use Rattle.plan.specs.Legs.{no_walk}
use Rattle.plan.specs.Words.{plan_in}
use Rattle.journey.specs.Steps.{leads}
use Rattle.journey.proofs.Walking.{walks_by_place}
use Rattle.journey.proofs.steps.walks_to.Goals as goal

pub returns : goal.returns
returns c =
    let ws = (plan_in c.args.table.words.now).walks in
    any_from_yields_List (λ j. leads (get_or ws j no_walk) c.args.from.pier c.args.from.time c.args.to.pier c.args.to.time)
    _ _ c.any.result c.any.ensures.ran (YieldsList-from_range 0 c.walks.result (length ws) refl (omega arith)) (λ x b q k. search (rules, tests))
    ∙ walks_by_place ws _ _ _ _

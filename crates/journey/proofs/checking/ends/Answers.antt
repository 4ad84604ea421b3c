use Rattle.std.proofs.Common.{length, refl, sym, ◌∙◌, arith, rules, tests}
use Rattle.std.proofs.lemmas.Iterator.{YieldsList-from_range}
use Rattle.std.proofs.lemmas.Iterator.Adapters.{option_map_id}
use Rattle.std.proofs.lemmas.Iterator.Consumers.{min_from_yields_List, YieldsList-at, YieldsList-from_filter_map}
use Rattle.plan.specs.Legs.{walk}
use Rattle.plan.specs.Words.{plan_in}
use Rattle.journey.specs.Checked.{there_by}
use Rattle.journey.proofs.Arriving.{end_at_once, end_on_foot}
use Rattle.journey.proofs.checking.ends.Goals as goal

pub returns-then-at-to : goal.returns-then-at-to
returns-then-at-to c = search (rules, end_at_once)

pub returns : goal.returns
returns c =
    let p = plan_in c.args.table.words.now in
    end_on_foot p c.args.to c.args.at.pier c.args.at.time c.min.result c.if-at-to.false
    (sym (option_map_id _)
    ∙ min_from_yields_List c.filter_map.result c.min.result c.min.ensures.ran
    (YieldsList-from_filter_map _ (λ j. there_by (walk p j) c.args.at.pier c.args.at.time c.args.to)
    (YieldsList-at c.filter_map.ensures.source (YieldsList-from_range 0 c.walks.result (length p.walks) refl (omega arith)))
    c.filter_map.ensures.closure (λ x r q k. search (rules, tests))))

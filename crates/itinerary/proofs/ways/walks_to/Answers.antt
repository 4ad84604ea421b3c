use Rattle.std.proofs.Common.{sym, ap, ◌∙◌, arith}
use Rattle.std.proofs.lemmas.Bool.{both_ways}
use Rattle.plan.specs.declared.walk.Walk.{Walk}
use Rattle.journey.specs.Steps.{leads}
use Rattle.rounds.specs.Layout.{walk_from}
use Rattle.rounds.proofs.Linking.{chain_step, chain_end}
use Rattle.itinerary.proofs.Chained.{Leads, missed_more, missed_walks, found_walks}
use Rattle.itinerary.proofs.ways.walks_to.Goals as goal

pub walk-requires : goal.walk-requires
walk-requires c =
    let (at, left, m) = c.loop-j.invariant in
    let laid = c.args.layout.laid in
    let (here, rest) = chain_step (walk_from c.args.layout.walks.now) laid.chained laid.link_long m.here left c.in-Some.ensures.steps in
    omega (arith, m.here.within)

pub loop-j-preserved : goal.loop-j-preserved
loop-j-preserved c =
    let (at, left, m) = c.loop-j.invariant in
    let laid = c.args.layout.laid in
    let (here, rest) = chain_step (walk_from c.args.layout.walks.now) laid.chained laid.link_long m.here left c.in-Some.ensures.steps in
    let is = ap (λ (w : Walk). leads w c.args.from.pier c.args.from.time c.args.to.pier c.args.to.time) c.walk.ensures.value in
    (_, rest, missed_more laid.chained c.in-Some.j here m (both_ways _ (sym is ∙ sym c.if-leads.ensures)))

pub returns-then-leads : goal.returns-then-leads
returns-then-leads c =
    let (at, left, m) = c.loop-j.invariant in
    let laid = c.args.layout.laid in
    let (here, rest) = chain_step (walk_from c.args.layout.walks.now) laid.chained laid.link_long m.here left c.in-Some.ensures.steps in
    let ws = c.args.layout.walks.now in
    let is = ap (λ (w : Walk). leads w c.args.from.pier c.args.from.time c.args.to.pier c.args.to.time) c.walk.ensures.value in
    let lead : Leads ws c.args.from.pier c.args.from.time c.args.to.pier c.args.to.time c.in-Some.j = sym is ∙ sym c.if-leads.ensures in
    sym (found_walks ws _ _ _ _ c.in-Some.j (omega (arith, m.here.within)) lead)

pub returns : goal.returns
returns c =
    let (at, left, m) = c.loop-j.invariant in
    let laid = c.args.layout.laid in
    let done = chain_end (walk_from c.args.layout.walks.now) laid.chained laid.link_long m.here left c.in-None.ensures.steps.0 in
    sym (missed_walks c.args.layout.walks.now _ _ _ _ done m)

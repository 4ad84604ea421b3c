use Rattle.std.proofs.Common.{ap, ◌∙◌, arith}
use Rattle.plan.specs.declared.walk.Walk.{Walk}
use Rattle.rounds.specs.Rows.{places_left, plan_of}
use Rattle.rounds.proofs.Linking.{chain_step, chain_end}
use Rattle.itinerary.specs.Arrivals.{walk_to}
use Rattle.itinerary.proofs.Picking.{found_within}
use Rattle.itinerary.proofs.Arriving.{searched_none, searched_more, searched_all}
use Rattle.itinerary.proofs.search.Search.find.Goals as goal

pub loop-j-init : goal.loop-j-init
loop-j-init g c =
    let begun = ap places_left c.into_iter-j-iterator.ensures.into_iter_gives ∙ c.of-j-items.ensures in
    (_, begun, searched_none c.args.self.arriving.walks.chains c.requires.pier c.find_at-best.ensures)

pub walk-from-requires : goal.walk-from-requires
walk-from-requires g c =
    let (at, left, k) = c.loop-j.invariant in
    let walks = c.args.self.arriving.walks in
    let (here, rest) = chain_step (walk_to (plan_of c.args.self.layout).walks) walks.chains walks.prior_long k.here left c.in-Some.ensures.steps in
    omega (arith, k.here.within)

pub first_of-best-requires-clause-found : goal.first_of-best-requires-clause-found
first_of-best-requires-clause-found g c = found_within c.find_at-found.ensures

pub loop-j-preserved : goal.loop-j-preserved
loop-j-preserved g c =
    let (at, left, k) = c.loop-j.invariant in
    let walks = c.args.self.arriving.walks in
    let (here, rest) = chain_step (walk_to (plan_of c.args.self.layout).walks) walks.chains walks.prior_long k.here left c.in-Some.ensures.steps in
    let from = ap (λ (w : Walk). w.from) c.walk-from.ensures.value in
    rw c.first_of-best.ensures
    (_, rest, searched_more walks.chains c.args.self.once c.in-Some.j here k (rw from at c.find_at-found.ensures))

pub returns : goal.returns
returns g c =
    let (at, left, k) = c.loop-j.invariant in
    let walks = c.args.self.arriving.walks in
    let done = chain_end (walk_to (plan_of c.args.self.layout).walks) walks.chains walks.prior_long k.here left c.in-None.ensures.steps.0 in
    searched_all done k

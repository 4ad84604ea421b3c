use Rattle.std.proofs.Common.{ap, ◌∙◌, arith}
use Rattle.rounds.specs.Rows.{places_left, plan_of}
use Rattle.rounds.proofs.Linking.{chain_step, chain_end}
use Rattle.itinerary.specs.Arrivals.{leg_to}
use Rattle.itinerary.proofs.Picking.{found_within}
use Rattle.itinerary.proofs.Arriving.{looked_none, looked_skip, looked_take, looked_all}
use Rattle.itinerary.proofs.search.Search.find_at.Goals as goal

pub loop-x-init : goal.loop-x-init
loop-x-init g c =
    let begun = ap places_left c.into_iter-x-iterator.ensures.into_iter_gives ∙ c.of-x-items.ensures in
    (_, begun, looked_none c.args.self.arriving.legs.chains c.requires.pier)

pub fits-requires : goal.fits-requires
fits-requires g c =
    let (at, left, k) = c.loop-x.invariant in
    let legs = c.args.self.arriving.legs in
    let (here, rest) = chain_step (leg_to (plan_of c.args.self.layout).legs) legs.chains legs.prior_long k.here left c.in-Some.ensures.steps in
    c.requires.fits c.in-Some.x (omega (arith, k.here.within))

pub first_of-best-requires : goal.first_of-best-requires
first_of-best-requires g c =
    let (at, left, k) = c.loop-x.invariant in
    let legs = c.args.self.arriving.legs in
    let (here, rest) = chain_step (leg_to (plan_of c.args.self.layout).legs) legs.chains legs.prior_long k.here left c.in-Some.ensures.steps in
    record { best = found_within k.best; found = omega (arith, k.here.within) }

pub loop-x-preserved-then-fits : goal.loop-x-preserved-then-fits
loop-x-preserved-then-fits g c =
    let (at, left, k) = c.loop-x.invariant in
    let legs = c.args.self.arriving.legs in
    let (here, rest) = chain_step (leg_to (plan_of c.args.self.layout).legs) legs.chains legs.prior_long k.here left c.in-Some.ensures.steps in
    rw c.first_of-best.ensures
    (_, rest, looked_take legs.chains c.in-Some.x here c.args.self.once k c.if-fits.ensures)

pub loop-x-preserved : goal.loop-x-preserved
loop-x-preserved g c =
    let (at, left, k) = c.loop-x.invariant in
    let legs = c.args.self.arriving.legs in
    let (here, rest) = chain_step (leg_to (plan_of c.args.self.layout).legs) legs.chains legs.prior_long k.here left c.in-Some.ensures.steps in
    (_, rest, looked_skip legs.chains c.in-Some.x here c.args.self.once k c.if-fits.ensures)

pub returns : goal.returns
returns g c =
    let (at, left, k) = c.loop-x.invariant in
    let legs = c.args.self.arriving.legs in
    let done = chain_end (leg_to (plan_of c.args.self.layout).legs) legs.chains legs.prior_long k.here left c.in-None.ensures.steps.0 in
    looked_all done k

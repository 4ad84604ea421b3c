use Rattle.std.proofs.Common.{◌≡◌, suc, ◌-◌, length, refl, arith, length-set, rules}
use Rattle.rounds.specs.Rows.{plan_of}
use Rattle.itinerary.specs.Tracing.{Final, Chosen, legs_from}
use Rattle.itinerary.proofs.Arriving.{ends_near}
use Rattle.itinerary.proofs.Picking.{found_chosen}
use Rattle.itinerary.proofs.SteppingBack.{going_at, to_come_less, itinerary_found, tracing_none, tracing_put}
use Rattle.itinerary.proofs.SteppingBack.{places_put, places_none}
use Rattle.itinerary.proofs.search.Search.trace.Goals as goal

pub back-init : goal.back-init
back-init c =
    let p = plan_of c.args.self.layout in
    let row = c.args.row.now in
    let last : Chosen p (Final p c.args.self.question c.args.self.level.now c.args.mark) (length p.legs) c.find-next.result =
    found_chosen (Final p c.args.self.question c.args.self.level.now c.args.mark) c.find-next.ensures
    (λ y h told. search rules)
    (λ y h final. (let near = ends_near final.ends in search rules, λ told. search rules)) in
    record {
      space = omega arith;
      places = places_none (length p.legs) (length row) row refl;
      tracing = tracing_none c.requires.marked (length row) row refl c.requires.room last;
    }

pub step_back-next-requires : goal.step_back-next-requires
step_back-next-requires c = (going_at c.back.invariant.tracing c.in-Some.is).within

pub back-smaller : goal.back-smaller
back-smaller c =
    let legs = legs_from (plan_of c.args.self.layout) c.back.at c.back.row in
    rw c.in-Some.is
    (to_come_less c.requires.marked c.args.self.layout.laid.in_runs c.in-Some.i c.back.at legs
    (going_at c.back.invariant.tracing c.in-Some.is) c.step_back-next.result c.step_back-next.ensures)

pub back-preserved : goal.back-preserved
back-preserved c =
    let g = going_at c.back.invariant.tracing c.in-Some.is in
    let row = c.back.row in
    let at = c.back.at in
    let one : suc (at - 1) ≡ at = omega (arith, g.space) in
    record {
      space = simp length-set (omega arith);
      places = places_put (length c.args.self.layout.legs.now) row at (at - 1) c.in-Some.i one c.back.invariant.space
          g.within c.back.invariant.places;
      tracing = tracing_put c.requires.marked c.args.self.layout.laid.in_runs row at (at - 1) one c.back.invariant.space g
          c.step_back-next.result c.step_back-next.ensures;
    }

pub returns-clause-itinerary : goal.returns-clause-itinerary
returns-clause-itinerary c = itinerary_found c.back.invariant.tracing c.in_default.is

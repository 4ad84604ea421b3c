use Rattle.std.proofs.Common.{◌≡◌, ℕ}
use Rattle.rounds.specs.Chains.{places}
use Rattle.rounds.specs.Rows.{plan_of, places_left}
use Rattle.itinerary.proofs.Arriving.{Looked}
use Rattle.itinerary.proofs.search.Search.find_at.Given as goal

abbrev pub invariant-loop-x : goal.invariant-loop-x
invariant-loop-x g l =
    (at : ℕ)
    × (places_left l.x-iterator ≡ places l.self.arrivals.legs.prior.now at)
    × Looked (plan_of l.self.layout) (goal.F-post g l.fits) l.pier at l.best
